-- A session that goes on after a history with the marks of all its epochs: no two epochs of both together have keys with the same mark.
use Rattle.std.proofs.Common.{◌≡◌, ℕ, Bool, false, ◌||◌, List, [], ◌∷◌, ◌++◌, None, Some, refl, sym, ap, subst, ◌∙◌, append_assoc}
use Rattle.std.specs.Prelude.{Option, bytes_eq, fold}
use Rattle.std.specs.List.{AllByRecursion, IsDistinct, list_any}
use Rattle.std.proofs.lemmas.Cmp.{nat_list_eq_equiv}
use Rattle.std.proofs.lemmas.List.{append-nil}
use Rattle.std.proofs.lemmas.Map.Keys.{IsDistinct-push}
use Rattle.client_records.specs.Openings.{MarksDiffer}
use Rattle.client_registry.specs.Document.{Document}
use Rattle.client_registry.specs.Epochs.{Step, Does, Renews, key_now, step_after, with_commands, with_renewal}
use Rattle.client_registry.specs.Histories.{IsFirstOf}
use Rattle.client_registry.specs.Run.{History, Run, Offsets, Epochs, From, Renewed}
use Rattle.def_script_meaning.proofs.MarksApart.{apart_follow, marks-longer, marks_recorded}
use Rattle.def_script_meaning.specs.Continues.{at_epochs}
use Rattle.def_script_meaning.specs.Lines.{Line}
use Rattle.def_script_meaning.specs.Meaning.{follow}
use Rattle.def_script_meaning.specs.Outcome.{marks_in}

-- Parts of a list whose elements differ.

all_part : (P : List ℕ → Type 0) (xs ys : List (List ℕ)) → AllByRecursion P (xs ++ ys) → AllByRecursion P xs × AllByRecursion P ys
all_part P [] ys all = (tt, all)
all_part P (x ∷ xs) ys all = let rest = all_part P xs ys all.1 in ((all.0, rest.0), rest.1)

distinct_part : (xs ys : List (List ℕ)) → IsDistinct bytes_eq (xs ++ ys) → IsDistinct bytes_eq xs
unfolding IsDistinct
distinct_part [] ys apart = tt
distinct_part (x ∷ xs) ys apart = ((all_part (λ z. bytes_eq x z ≡ false) xs ys apart.0).0, distinct_part xs ys apart.1)

none_of : (x : List ℕ) (xs : List (List ℕ)) → IsDistinct bytes_eq (xs ++ x ∷ []) → list_any (bytes_eq x) xs ≡ false
unfolding IsDistinct
none_of x [] apart = refl
none_of x (y ∷ ys) apart =
    let other : bytes_eq x y ≡ false = nat_list_eq_equiv.symm x y ∙ (all_part (λ z. bytes_eq y z ≡ false) ys (x ∷ []) apart.0).1.0 in
    λ i. other i || none_of x ys apart.1 i

module _ (mark : List ℕ → List ℕ) where
  -- the marks of epochs differ where those of their history do, and the other way round
  pub distinct_differ : (key : List ℕ) (es : Epochs) → IsDistinct bytes_eq (marks_in mark key (Some es)) → MarksDiffer mark key (Some es)
  distinct_differ key (From o run) apart = tt
  distinct_differ key (Renewed before own run) apart = (
    distinct_differ key before (distinct_part (marks_in mark key (Some before)) (mark own ∷ []) apart),
    ap (list_any (bytes_eq (mark own))) (marks_recorded mark key before) ∙ none_of (mark own) (marks_in mark key (Some before)) apart,
  )

  pub differ_distinct : (key : List ℕ) (es : Epochs) → MarksDiffer mark key (Some es) → IsDistinct bytes_eq (marks_in mark key (Some es))
  unfolding IsDistinct
  differ_distinct key (From o run) differ = (tt, tt)
  differ_distinct key (Renewed before own run) differ =
      IsDistinct-push nat_list_eq_equiv (marks_in mark key (Some before)) (mark own) (differ_distinct key before differ.0)
      (ap (list_any (bytes_eq (mark own))) (sym (marks_recorded mark key before)) ∙ differ.1)

  -- the marks of renewals
  abbrev own_marks : List Step → List (List ℕ)
  own_marks [] = []
  own_marks (Does c ∷ more) = own_marks more
  own_marks (Renews own ∷ more) = mark own ∷ own_marks more

  marks_since : (key : List ℕ) (es : Epochs) (more : List Step) → marks_in mark key (Some (fold step_after es more)) ≡ marks_in mark key (Some es) ++ own_marks more
  marks_since key es [] = sym (append-nil (marks_in mark key (Some es)))
  marks_since key es (Does c ∷ more) = marks_since key (with_commands (c ∷ []) es) more ∙ ap (λ marks. marks ++ own_marks more) (marks-longer mark key (Some es) (c ∷ []))
  marks_since key es (Renews own ∷ more) = marks_since key (with_renewal own es) more ∙ append_assoc (marks_in mark key (Some es)) (mark own ∷ []) (own_marks more)

  module _ (used : List (List ℕ)) (key : List ℕ) (earlier : Epochs) (known : marks_in mark key (Some earlier) ≡ used ++ mark (key_now key earlier) ∷ []) (o : Offsets) (run : Run) where
    abbrev last : Epochs
    last = From o run

    joined : (more : List Step) → used ++ marks_in mark (key_now key earlier) (Some (fold step_after last more)) ≡ marks_in mark key (Some (fold step_after earlier more))
    joined more =
        ap (λ marks. used ++ marks) (marks_since (key_now key earlier) last more)
        ∙ sym (append_assoc used (mark (key_now key earlier) ∷ []) (own_marks more))
        ∙ ap (λ marks. marks ++ own_marks more) (sym known)
        ∙ sym (marks_since key earlier more)

    -- Promise P288, also here
    -- of what such a session does up to its stop
    pub differ_behind : (docs : List Document) (number : ℕ) (lines : List (Option Line)) (refused : Bool) (more : List Step) → MarksDiffer mark key (Some earlier)
        → IsFirstOf (Some (fold step_after last more)) (follow (at_epochs mark used (key_now key earlier) docs last) number lines refused).history → MarksDiffer mark key (Some (fold step_after earlier more))
    differ_behind docs number lines refused more differ first =
        let place = at_epochs mark used (key_now key earlier) docs last in
        let whole = apart_follow mark place number lines refused refl (subst (IsDistinct bytes_eq) known (differ_distinct key earlier differ)) in
        distinct_differ key (fold step_after earlier more) (subst (IsDistinct bytes_eq) (joined more) (of (follow place number lines refused).history first whole))
      where
        of : (h : History) → IsFirstOf (Some (fold step_after last more)) h → IsDistinct bytes_eq (used ++ marks_in mark (key_now key earlier) h)
            → IsDistinct bytes_eq (used ++ marks_in mark (key_now key earlier) (Some (fold step_after last more)))
        of None first apart = absurd first
        of (Some es) (rest, is) apart =
            let here = marks_in mark (key_now key earlier) (Some (fold step_after last more)) in
            let all : used ++ marks_in mark (key_now key earlier) (Some es) ≡ (used ++ here) ++ own_marks rest =
            ap (λ xs. used ++ marks_in mark (key_now key earlier) (Some xs)) is
            ∙ ap (λ marks. used ++ marks) (marks_since (key_now key earlier) (fold step_after last more) rest)
            ∙ sym (append_assoc used here (own_marks rest)) in
            distinct_part (used ++ here) (own_marks rest) (subst (IsDistinct bytes_eq) all apart)
