-- What a line comes to, case by case: what holds of each of these cases holds of what any line comes to.
use Rattle.std.proofs.Common.{◌≡◌, ℕ, true, false, List, [], ◌∷◌, None, Some, refl}
use Rattle.std.specs.Prelude.{Bool, Option, map, if◌then◌else◌}
use Rattle.client_registry.specs.Command.{Add, Delete, Search}
use Rattle.client_registry.specs.Histories.{is_set_up}
use Rattle.client_registry.specs.Live.{matching_in}
use Rattle.client_registry.specs.Setup.{setup_with}
use Rattle.sse_script.specs.declared.refusal.Refusal.{Refusal}
use Rattle.sse_script.specs.declared.refusal.Refusal.TheVariants.{NotSetUp, SetUpAlready}
use Rattle.sse_script.specs.Shown.{Added, Deleted}
use Rattle.script_documents.specs.LineDocument.{document}
use Rattle.script_documents.specs.Refused.{bad_word, collect_refusal}
use Rattle.def_script_meaning.specs.Lines.{Request, Doc, SetupLine, AddLine, Del, Find, Query, RebuildLine}
use Rattle.def_script_meaning.specs.Outcome.{Place, Says, Finds, Matches, Outcome, Collects, Refuses, SetsUp, Does, Renews, unless, before_setup, setup_after, rebuild_refusal, after_setup, outcome}
use Rattle.bool_search.specs.Fields.{words_of}
use Rattle.bool_search.specs.LineRefusals.{fields_refusal}
use Rattle.def_script_meaning.specs.Refused.{index_refusal, add_refusal, delete_refusal}

module _ (place : Place) (line : Request) (P : Outcome → Type 0) where
  -- it holds of each outcome that this line can have here
  pub record ByCases : Type 0 where
    pub refuses : (refusal : Refusal) → P (Refuses refusal)
    pub collects : (id : ℕ) (words : List (List ℕ)) → line ≡ Doc id words → is_set_up place.history ≡ false → collect_refusal place.documents (document id words) ≡ None
        → P (Collects (document id words))
    pub sets_up : (b big pad : ℕ) → is_set_up place.history ≡ false → index_refusal place.documents b big pad ≡ None → P (SetsUp (setup_with place.documents b big pad))
    pub adds : (id : ℕ) (words : List (List ℕ)) → line ≡ AddLine id words → is_set_up place.history ≡ true → add_refusal place.history (document id words) ≡ None
        → P (Does (Add (document id words) ∷ []) (Says (Added id)))
    pub deletes : (id : ℕ) → line ≡ Del id → is_set_up place.history ≡ true → delete_refusal place.history id ≡ None → P (Does (Delete id ∷ []) (Says (Deleted id)))
    pub finds : (word : List ℕ) → is_set_up place.history ≡ true → bad_word 0 (word ∷ []) ≡ None → P (Does (Search word ∷ []) (Finds (matching_in place.history word)))
    pub queries : (fields : List (List ℕ)) → is_set_up place.history ≡ true → fields_refusal fields ≡ None
        → P (Does (map (λ word. Search word) (words_of fields)) (Matches fields (map (matching_in place.history) (words_of fields))))
    pub renews : (key : List ℕ) → is_set_up place.history ≡ true → rebuild_refusal place place.history key ≡ None → P (Renews key (setup_after place.history))

  module _ (cases : ByCases) where
    if_not : (r : Option Refusal) (result : Outcome) → (r ≡ None → P result) → P (unless r result)
    if_not r result holds = by r refl
      where
        by : (o : Option Refusal) → r ≡ o → P (unless o result)
        by None e = holds e
        by (Some refusal) e = cases.refuses refusal

    before : (l : Request) → line ≡ l → is_set_up place.history ≡ false → P (before_setup place.documents l)
    before (Doc id words) e none = if_not _ _ (cases.collects id words e none)
    before (SetupLine b big pad) e none = if_not _ _ (cases.sets_up b big pad none)
    before (AddLine id words) e none = cases.refuses NotSetUp
    before (Del id) e none = cases.refuses NotSetUp
    before (Find word) e none = cases.refuses NotSetUp
    before (Query fields) e none = cases.refuses NotSetUp
    before (RebuildLine key) e none = cases.refuses NotSetUp

    behind : (l : Request) → line ≡ l → is_set_up place.history ≡ true → P (after_setup place place.history l)
    behind (Doc id words) e up = cases.refuses SetUpAlready
    behind (SetupLine b big pad) e up = cases.refuses SetUpAlready
    behind (AddLine id words) e up = if_not _ _ (cases.adds id words e up)
    behind (Del id) e up = if_not _ _ (cases.deletes id e up)
    behind (Find word) e up = if_not _ _ (cases.finds word up)
    behind (Query fields) e up = if_not _ _ (cases.queries fields up)
    behind (RebuildLine key) e up = if_not _ _ (cases.renews key up)

    -- so it holds of what the line comes to
    pub by_cases : P (outcome place line)
    by_cases = by (is_set_up place.history) refl
      where
        by : (b : Bool) → is_set_up place.history ≡ b → P (if b then after_setup place place.history line else before_setup place.documents line)
        by true e = behind line refl e
        by false e = before line refl e
