-- What a query line came to: its refusal, or what it chooses of the answers to its searches.
use Rattle.std.specs.Prelude.{◌≡◌, ◌⊎◌, ℕ, false, List, [], ◌∷◌, length, map, Option, None, Some}
use Rattle.bool_search.specs.Chosen.{chosen_by}
use Rattle.bool_search.specs.Fields.{words_of}
use Rattle.bool_search.specs.LineRefusals.{fields_refusal}
use Rattle.client_registry.specs.Live.{in_order}
use Rattle.def_script_meaning.specs.Exchange.{Told}
use Rattle.keyed_fn.specs.KeyedFn.{KeyedFn}
use Rattle.script_run_texts.specs.declared.line_result.LineResult.{LineResult}
use Rattle.script_run_texts.specs.declared.line_result.LineResult.TheVariants as line_results
use Rattle.script_run_texts.specs.LineResultViews.{line_result_view, refuses}
use Rattle.sse_client.specs.Exchanges.{HasCut, HasExchanged, search_frames}
use Rattle.sse_frames.specs.Frames.{FrameText}
use Rattle.sse_script.specs.Shown as says
use Rattle.sse_script.specs.Shown.{Cause}
use Rattle.sse_script.specs.declared.refusal.Refusal.{Refusal}

-- so many searches were exchanged, and these are the identifiers chosen of their answers
pub record HasChosen (old new : Told) (frames : List FrameText) (count : ℕ) (choice : List (List ℕ) → List ℕ) (ids : List ℕ) : Type 0 where
  pub answers : List (List ℕ)
  pub exchanged : HasExchanged old new answers frames
  pub each : length answers ≡ count
  pub chosen : ids ≡ choice (map in_order answers)

-- a query that is refused for this, or for nothing: then each of its words was searched, in order, and it shows what it chooses
abbrev pub QueriedFor : Option Refusal → KeyedFn → (key : List ℕ) → (fields : List (List ℕ)) → Told → Told → LineResult → Type 0
QueriedFor (Some refusal) f key fields old new came = (came ≡ line_results.Refused refusal) × (new ≡ old)
QueriedFor None f key fields old new came =
    (ids : List ℕ) × (line_result_view came ≡ says.Matched ids ∷ []) × (refuses came ≡ false)
    × HasChosen old new (search_frames f key (words_of fields)) (length (words_of fields)) (chosen_by fields) ids

abbrev pub HasQueried : KeyedFn → (key : List ℕ) → (fields : List (List ℕ)) → Told → Told → LineResult → Type 0
HasQueried f key fields old new came = QueriedFor (fields_refusal fields) f key fields old new came

-- a query stops the run: memory ran out before anything was sent, or it isn't refused and its searches were cut
abbrev pub StopsQuery : KeyedFn → (key : List ℕ) → (fields : List (List ℕ)) → Told → Told → Cause → Type 0
StopsQuery f key fields old new cause =
    ((cause ≡ says.NoMemory) × (new ≡ old)) ⊎ ((fields_refusal fields ≡ None) × HasCut old new (search_frames f key (words_of fields)) cause)
