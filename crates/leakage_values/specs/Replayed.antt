-- The facts kept of a history's commands so far.
use Rattle.std.specs.Prelude.{◌≡◌, ℕ, Bool, ◌&&◌, ◌==◌, List, bytes_eq, map}
use Rattle.std.specs.List.{list_any}
use Rattle.client_registry.proofs.OrderLaws.{AreApart}
use Rattle.client_registry.specs.Command.{Command}
use Rattle.client_registry.specs.IdNumber.{id_number}
use Rattle.client_registry.specs.Live.{live}
use Rattle.client_registry.specs.Registered.{Represents}
use Rattle.client_registry.specs.Setup.{Setup}
use Rattle.client_registry.specs.WordBytes.{word_bytes}
use Rattle.client_registry.specs.declared.doc_id.DocId.{DocId}
use Rattle.client_registry.specs.declared.word.Word.{Word}
use Rattle.leakage_values.specs.declared.replay.Replay.{Replay}
use Rattle.sse_model.specs.Drawn.{searches_for, was_sent}

-- whether the pair of a word and an identifier is among these
abbrev pub has_pair : List ℕ → ℕ → List (Word × DocId) → Bool
has_pair word id pairs = list_any (λ pair. bytes_eq word (word_bytes pair.0) && id == id_number pair.1) pairs

-- whether a word is among these
abbrev pub has_search : List ℕ → List Word → Bool
has_search word words = list_any (λ other. bytes_eq word (word_bytes other)) words

-- it tells what a setup and these commands after it list and count, whose revocation number they sent, and what they searched
pub record Follows (r : Replay) (s : Setup) (past : List Command) : Type 0 where
  pub registry : Represents r.registry s past
  pub sent : (word : List ℕ) (id : ℕ) → has_pair word id r.sent.keys ≡ was_sent s past word id
  pub searched : (word : List ℕ) → has_search word r.searched.keys ≡ list_any (searches_for word) past

-- no two live documents have one identifier
abbrev pub HasApart : Setup → List Command → Type 0
HasApart s past = AreApart (map (λ d. d.id) (live s.documents past))
