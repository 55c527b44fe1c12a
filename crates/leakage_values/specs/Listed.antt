-- The identifiers that are listed with each word, as a table has them by the word.
use Rattle.std.specs.Prelude.{◌≡◌, ℕ, Bool, List, [], ◌∷◌, ◌++◌, map, bytes_eq, unwrap_or, if◌then◌else◌}
use Rattle.std.specs.Map.{lookup}
use Rattle.client_registry.specs.Command.{Command}
use Rattle.client_registry.specs.IdNumber.{id_number}
use Rattle.client_registry.specs.Live.{added_list}
use Rattle.client_registry.specs.Registered.{Represents}
use Rattle.client_registry.specs.Setup.{Setup, setup_list}
use Rattle.client_registry.specs.WordBytes.{word_bytes}
use Rattle.client_registry.specs.declared.doc_id.DocId.{DocId}
use Rattle.client_registry.specs.declared.word.Word.{Word}
use Rattle.leakage_values.specs.declared.listed.Listing.{Listing}

-- the identifiers that these entries have of a word
abbrev pub ids_in : List (Word × List DocId) → Word → List ℕ
ids_in entries word = map id_number (unwrap_or (lookup (λ w. bytes_eq (word_bytes word) (word_bytes w)) entries) [])

-- between these entries and those, the identifier has gone behind the others of each word that passes, and nothing else has changed
abbrev pub ListsFor : (old new : List (Word × List DocId)) → ℕ → (List ℕ → Bool) → Type 0
ListsFor old new id p = (w : Word) → ids_in new w ≡ ids_in old w ++ (if p (word_bytes w) then id ∷ [] else [])

-- these entries have of each word the setup's list, then the added list
abbrev pub Lists : List (Word × List DocId) → Setup → List Command → Type 0
Lists entries s past = (w : Word) → ids_in entries w ≡ setup_list s (word_bytes w) ++ added_list s past (word_bytes w)

-- it tells what a setup and these commands after it list and count
pub record IsListing (l : Listing) (s : Setup) (past : List Command) : Type 0 where
  pub registry : Represents l.registry s past
  pub table : Lists l.table.entries s past
