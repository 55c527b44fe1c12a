-- What a session with the vault shows of a client's commands, the values that it draws, and what a simulator makes of these alone.
use Rattle.std.specs.Prelude.{ℕ, zero, suc, ◌+◌, List, [], ◌∷◌, unwrap_or}
use Rattle.std.specs.List.{slice_get}
use Rattle.vault_server.specs.VaultFrames.{VaultFrameText, PutFrame, DropFrame, FetchFrame, AskFrame, VaultReplyText, Took, BodyReply, Next}

-- a put shows how long the text is, a drop and a fetch which put they are about, by its place among the puts
pub data VaultLeak : Type 0 where
  PutLeak : (size : ℕ) → VaultLeak
  DropLeak : (put : ℕ) → VaultLeak
  FetchLeak : (put : ℕ) → VaultLeak

-- the values that a put draws: a slot, the encrypted text and its tag
pub record VaultDraw : Type 0 where
  pub slot : List ℕ
  pub tag : List ℕ
  pub sealed : List ℕ

-- the names of these values, by the number of the put; the encrypted text has the name of its keystream
pub data VaultKind : Type 0 where
  Slot : VaultKind
  Pad : VaultKind
  Tag : VaultKind

pub record VaultName : Type 0 where
  pub number : ℕ
  pub kind : VaultKind

-- the names of so many puts, from put v on
abbrev pub vault_names : (v puts : ℕ) → List VaultName
vault_names v zero = []
vault_names v (suc puts) =
    record { number = v; kind = Slot } ∷ record { number = v; kind = Pad } ∷ record { number = v; kind = Tag } ∷ vault_names (v + 1) puts

-- what passes: a frame that the client sends, or a reply
pub data VaultPassed : Type 0 where
  Sent : VaultFrameText → VaultPassed
  Received : VaultReplyText → VaultPassed

-- the draw of a put; an empty one where there is no such put
abbrev pub draw_of_put : List VaultDraw → ℕ → VaultDraw
draw_of_put draws put = unwrap_or (slice_get draws put) (record { slot = []; tag = []; sealed = [] })

abbrev pub put_frame : ℕ → VaultDraw → VaultFrameText
put_frame n draw = PutFrame n draw.slot draw.tag draw.sealed

-- all that passes for these leaks, where the next update has the number n and the next put is put v
abbrev pub simulated_from : (n v : ℕ) → List VaultLeak → List VaultDraw → List VaultPassed
simulated_from n v [] draws = []
simulated_from n v (PutLeak size ∷ leaks) draws =
    Sent (put_frame n (draw_of_put draws v)) ∷ Received (Took n) ∷ simulated_from (n + 1) (v + 1) leaks draws
simulated_from n v (DropLeak put ∷ leaks) draws =
    Sent (DropFrame n (draw_of_put draws put).slot) ∷ Received (Took n) ∷ simulated_from (n + 1) v leaks draws
simulated_from n v (FetchLeak put ∷ leaks) draws =
    Sent (FetchFrame (draw_of_put draws put).slot) ∷ Received (BodyReply (draw_of_put draws put).tag (draw_of_put draws put).sealed) ∷ simulated_from n v leaks draws

-- a whole session with a vault that holds nothing: it begins with the question for the number of the next update
abbrev pub vault_simulate : List VaultLeak → List VaultDraw → List VaultPassed
vault_simulate leaks draws = Sent AskFrame ∷ Received (Next 0) ∷ simulated_from 0 0 leaks draws
