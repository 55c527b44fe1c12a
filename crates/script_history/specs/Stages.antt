-- The place of a reading in its script, and the effect of a line there.
use Rattle.std.specs.Prelude.{◌≡◌, ◌≢◌, ℕ, List, [], ◌∷◌, ◌++◌, map, Option, None, Some}
use Rattle.std.specs.Option.{option_or}
use Rattle.bool_search.specs.Fields.{words_of}
use Rattle.bool_search.specs.LineRefusals.{fields_refusal}
use Rattle.client_registry.specs.Acceptance.{size_refusal}
use Rattle.client_registry.specs.Command.{Add, Delete, Search}
use Rattle.client_registry.specs.Document.{Document}
use Rattle.client_registry.specs.Setup.{Setup, setup_with}
use Rattle.client_registry.specs.Run.{Epochs, From, at_first}
use Rattle.leakage_history.specs.HashedEpochs.{epochs_in}
use Rattle.script_documents.specs.Refused.{bad_word}
use Rattle.def_script_meaning.specs.Lines.{Request}
use Rattle.def_script_meaning.specs.Outcome.{Place, Outcome, after}
use Rattle.def_script_meaning.specs.Refused.{add_refusal, delete_refusal}
use Rattle.sse_script.specs.Lines.{Line, Doc, SetupLine, AddLine, Del, Find, Query, Rebuild}
use Rattle.sse_script.specs.declared.refusal.Refusal.{Refusal}
use Rattle.keyed_fn.specs.KeyFormulas.{mark_of}
use Rattle.keyed_fn.specs.KeyedFn.{KeyedFn}
use Rattle.script_history.specs.Reads.{number_refusal, read_outcome, refusal_in}
use Rattle.script_history.specs.UsedKeys.{Knows, known_refusal, marks_known}
use Rattle.script_history.specs.declared.stage.Stage.{Stage}
use Rattle.script_history.specs.declared.stage.Stage.TheVariants.{Collecting, Built}
use Rattle.script_history.specs.declared.stage.Standing.{Standing}
use Rattle.script_history.specs.declared.used_keys.UsedKeys.{UsedKeys}

-- the code's reading collects the documents of a place, and after the setup it has the place's history
abbrev pub IsAt : Stage → Place → Type 0
IsAt (Collecting docs) place = (docs.documents ≡ place.documents) × (place.history ≡ None)
IsAt (Built history) place = place.history ≡ Some (epochs_in history)

-- it also knows the marks of the keys up to there, where a new key is compared with them
pub record Stands (f : KeyedFn) (standing : Standing) (place : Place) : Type 0 where
  pub at : IsAt standing.stage place
  pub knows : Knows f (marks_known standing.used) place

-- the two numbers under which a stage hashes
abbrev pub keys_at : Stage → ℕ × ℕ
keys_at (Collecting docs) = docs.keys
keys_at (Built history) = history.last.keys

-- a reading may be out of memory in a line that leaves the key: no refusal stands that is found without memory, as those of the stage, of
-- the identifier zero, of a setup's size, of a bad word, and of a deletion. A query is read in memory, so all its refusals may be missed
abbrev pub MayStopHere : Stage → Line → Type 0
MayStopHere (Collecting docs) (Doc id words) = id ≢ 0
MayStopHere (Collecting docs) (SetupLine b big pad) = size_refusal (setup_with docs.documents b big pad) ≡ None
MayStopHere (Built history) (AddLine id words) = id ≢ 0
MayStopHere (Built history) (Del id) = delete_refusal (Some (epochs_in history)) id ≡ None
MayStopHere (Built history) (Find word) = bad_word 0 (word ∷ []) ≡ None
MayStopHere (Built history) (Query fields) = Unit {0}
MayStopHere _ _ = ⊥

-- or in one that renews it: there is a setup, and the key isn't refused by the marks that are known
abbrev pub RenewalMayStop : KeyedFn → Stage → UsedKeys → (key : List ℕ) → Type 0
RenewalMayStop f (Collecting docs) used key = ⊥
RenewalMayStop f (Built history) used key = known_refusal (marks_known used) (mark_of f key) ≡ None

-- or in any
abbrev pub MayStop : KeyedFn → Standing → Line → Type 0
MayStop f standing (Rebuild key) = RenewalMayStop f standing.stage standing.used key
MayStop f standing line = MayStopHere standing.stage line

-- whether a line leaves the key as it is
abbrev pub KeepsKey : Line → Type 0
KeepsKey (Rebuild key) = ⊥
KeepsKey _ = Unit {0}

-- a line comes to this: its refusal is found where it has one, and the stage is that after it
pub record ComesTo (place : Place) (result : Outcome) (next : Stage) (found : Option Refusal) : Type 0 where
  pub refusal : found ≡ refusal_in result
  pub stands : IsAt next (after result place)

-- wherever the stage may be, it does with a line what is to be done there
abbrev pub Takes : Stage → Request → Stage → Option Refusal → Type 0
Takes stage request next found = (place : Place) → IsAt stage place → ComesTo place (read_outcome place request) next found

-- the same with the marks that are known
pub record LeadsFrom (f : KeyedFn) (place : Place) (result : Outcome) (next : Standing) (found : Option Refusal) : Type 0 where
  pub refusal : found ≡ refusal_in result
  pub stands : Stands f next (after result place)

abbrev pub CarriesOut : KeyedFn → Standing → Request → Standing → Option Refusal → Type 0
CarriesOut f standing request next found = (place : Place) → Stands f standing place → LeadsFrom f place (read_outcome place request) next found

-- the same of a line after the setup, by the epochs before and after it
abbrev pub TakesAfter : Epochs → Request → Epochs → Option Refusal → Type 0
TakesAfter es request next found =
    (place : Place) → place.history ≡ Some es → let result = read_outcome place request in (found ≡ refusal_in result) × ((after result place).history ≡ Some next)

-- Why each kind of command is refused, with what its history can't number.

abbrev pub read_add_refusal : Epochs → Document → Option Refusal
read_add_refusal es d = option_or (add_refusal (Some es) d) (number_refusal (Some es) (Add d ∷ []))

abbrev pub read_delete_refusal : Epochs → ℕ → Option Refusal
read_delete_refusal es id = option_or (delete_refusal (Some es) id) (number_refusal (Some es) (Delete id ∷ []))

abbrev pub read_find_refusal : Epochs → List ℕ → Option Refusal
read_find_refusal es word = option_or (bad_word 0 (word ∷ [])) (number_refusal (Some es) (Search word ∷ []))

abbrev pub read_query_refusal : Epochs → List (List ℕ) → Option Refusal
read_query_refusal es fields = option_or (fields_refusal fields) (number_refusal (Some es) (map (λ word. Search word) (words_of fields)))

-- the documents after one that was refused or collected
abbrev pub collected_after : Option Refusal → List Document → Document → List Document
collected_after None docs d = docs ++ d ∷ []
collected_after (Some refusal) docs d = docs

-- the stage after a setup that was refused or accepted
abbrev pub IsSetUp : Option Refusal → List Document → Setup → Stage → Type 0
IsSetUp None docs s (Built history) = epochs_in history ≡ From at_first (record { setup = s; later = [] })
IsSetUp (Some refusal) docs s (Collecting collected) = collected.documents ≡ docs
IsSetUp _ docs s _ = ⊥
