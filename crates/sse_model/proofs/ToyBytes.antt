-- What rows of bytes are written with: bytes by their hexadecimal digits, and the table and the sessions under the toy
-- function and the key of 32 zero bytes.
use Rattle.std.proofs.Common.{ℕ, ◌+◌, ◌*◌, ◌-◌, List, [], ◌∷◌, map, cond, ltb}
use Rattle.std.specs.Prelude.{replicate}
use Rattle.two_level.specs.Shape.{Shape}
use Rattle.keyed_fn.specs.KeyedFn.{keyed_fn}
use Rattle.keyed_fn.specs.Toy.{toy_prf, toy_pad}
use Rattle.client_registry.specs.Document.{Document}
use Rattle.client_registry.specs.Run.{Run, From, at_first}
use Rattle.std.specs.Prelude.{Option, option_map}
use Rattle.sse_frames.specs.Exchange.{Passed, Sent, Received}
use Rattle.sse_frames.specs.Frames.{frame_bytes}
use Rattle.sse_frames.specs.Replies.{reply_bytes}
use Rattle.sse_model.specs.Names.{Table, table}
use Rattle.sse_model.specs.Transcript.{session}

-- the value of a hexadecimal digit in lower case
abbrev pub digit : ℕ → ℕ
digit c = cond (ltb c 97) (c - 48) (c - 87)

-- the bytes that a text spells in pairs of hexadecimal digits
abbrev pub hex : List ℕ → List ℕ
hex [] = []
hex (a ∷ []) = []
hex (a ∷ b ∷ more) = (digit a * 16 + digit b) ∷ hex more

abbrev pub document : ℕ → List (List ℕ) → Document
document id words = record { id = id; words = words }

-- the table of the key of zeros
abbrev pub zero_table : Shape → Table
zero_table s = table (keyed_fn toy_prf toy_pad) s (λ epoch. replicate 32 0)

-- a frame's bytes, or a reply's
abbrev pub passed_bytes : Passed → List ℕ
passed_bytes (Sent frame) = frame_bytes frame
passed_bytes (Received reply) = reply_bytes reply

-- the bytes of each frame and each reply of the session of a history of one epoch, in order
abbrev pub session_bytes : Option Run → List (List ℕ)
session_bytes run = map passed_bytes (session (keyed_fn toy_prf toy_pad) (replicate 32 0) (option_map (From at_first) run))
