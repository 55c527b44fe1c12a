-- The marks of a script's epochs differ, each from each other, as a renewal under a key whose mark an epoch has is refused. So no two epochs have the
-- same key.
use Rattle.std.proofs.Common.{◌≡◌, ℕ, ◌+◌, false, true, ◌||◌, Bool, List, [], ◌∷◌, ◌++◌, None, Some, is_some, refl, sym, ap, subst, ◌∙◌, append_assoc}
use Rattle.std.specs.Prelude.{Option, bytes_eq, position, option_map}
use Rattle.std.specs.List.{IsDistinct, list_any}
use Rattle.std.proofs.lemmas.Bool.{true≢false, or_parts}
use Rattle.std.proofs.lemmas.Cmp.{nat_list_eq_equiv}
use Rattle.std.proofs.lemmas.Map.Keys.{IsDistinct-push}
use Rattle.client_records.specs.Openings.{MarksDiffer, marks_of}
use Rattle.client_records.specs.Recorded.{as_recorded}
use Rattle.client_registry.proofs.Positions.{is_some-position}
use Rattle.client_registry.specs.Command.{Command}
use Rattle.client_registry.proofs.HistoryLaws.{before_steps}
use Rattle.client_registry.specs.Epochs.{Step, step_after}
use Rattle.client_registry.specs.Epochs as epoch
use Rattle.client_registry.specs.Histories.{is_set_up, longer, renewed, IsFirstOf}
use Rattle.client_registry.specs.Run.{History, Epochs, From, Renewed}
use Rattle.script_documents.proofs.Passed.{neither, some-none}
use Rattle.sse_script.specs.declared.refusal.Refusal.TheVariants.{KeyUsed}
use Rattle.def_script_meaning.proofs.FollowedPlaces.{after-key, follow-key}
use Rattle.def_script_meaning.proofs.Outcomes.{by_cases}
use Rattle.def_script_meaning.specs.Lines as script
use Rattle.def_script_meaning.specs.Lines.{Line, Empty, Key, Request, script_lines}
use Rattle.def_script_meaning.specs.Meaning.{follow, meant_from, meaning}
use Rattle.def_script_meaning.specs.Outcome.{Place, Outcome, Collects, Refuses, SetsUp, Does, Renews, opened, outcome, after, is_refusal, marks_in, marks_so_far, used_refusal}
use Rattle.def_script_meaning.specs.Refused.{key_refusal}

-- commands leave the marks
pub marks-longer : (mark : List ℕ → List ℕ) (key : List ℕ) (h : History) (cs : List Command) → marks_in mark key (longer cs h) ≡ marks_in mark key h
marks-longer mark key None cs = refl
marks-longer mark key (Some (From o run)) cs = refl
marks-longer mark key (Some (Renewed before own run)) cs = refl

-- a renewal brings its own
marks-renewed : (mark : List ℕ → List ℕ) (key own : List ℕ) (h : History) → is_set_up h ≡ true → marks_in mark key (renewed own h) ≡ marks_in mark key h ++ mark own ∷ []
marks-renewed mark key own None up = absurd (true≢false (sym up))
marks-renewed mark key own (Some es) up = refl

begun : (mark : List ℕ → List ℕ) (key : List ℕ) (h : History) → is_set_up h ≡ false → mark key ∷ [] ≡ marks_in mark key h
begun mark key None none = refl
begun mark key (Some es) none = absurd (true≢false none)

-- a mark that isn't refused is none of these
unused : (marks : List (List ℕ)) (mark : List ℕ) → key_refusal marks mark ≡ None → list_any (bytes_eq mark) marks ≡ false
unused marks mark e = by (position (bytes_eq mark) marks) refl e
  where
    by : (o : Option ℕ) → position (bytes_eq mark) marks ≡ o → option_map KeyUsed o ≡ None → list_any (bytes_eq mark) marks ≡ false
    by None is e = sym (is_some-position (bytes_eq mark) marks) ∙ ap is_some is
    by (Some n) is e = absurd (some-none _ e)

-- no line changes how marks are made, or which were used before
after-mark : (result : Outcome) (place : Place) → (after result place).mark ≡ place.mark
after-mark (Collects d) place = refl
after-mark (Refuses refusal) place = refl
after-mark (SetsUp s) place = refl
after-mark (Does commands shown) place = refl
after-mark (Renews key s) place = refl

after-used : (result : Outcome) (place : Place) → (after result place).used ≡ place.used
after-used (Collects d) place = refl
after-used (Refuses refusal) place = refl
after-used (SetsUp s) place = refl
after-used (Does commands shown) place = refl
after-used (Renews key s) place = refl

any_behind : (p : List ℕ → Bool) (xs ys : List (List ℕ)) → list_any p (xs ++ ys) ≡ false → list_any p ys ≡ false
any_behind p [] ys e = e
any_behind p (x ∷ xs) ys e = any_behind p xs ys (or_parts (p x) (list_any p (xs ++ ys)) e).1

-- where each new key is compared with those before
module _ (mark : List ℕ → List ℕ) where
  unused_at : (place : Place) (key : List ℕ) → place.mark ≡ Some mark → used_refusal place.mark place key ≡ None → list_any (bytes_eq (mark key)) (marks_so_far mark place) ≡ false
  unused_at place key tests e = unused (marks_so_far mark place) (mark key) (ap (λ m. used_refusal m place key) (sym tests) ∙ e)

  pub marks_apart-next : (place : Place) (line : Request) → place.mark ≡ Some mark → IsDistinct bytes_eq (marks_so_far mark place) → IsDistinct bytes_eq (marks_so_far mark (after (outcome place line) place))
  marks_apart-next place line tests apart = by_cases place line (λ r. IsDistinct bytes_eq (marks_so_far mark (after r place))) (record {
    refuses = λ refusal. apart;
    collects = λ id words is none e. apart;
    sets_up = λ b big pad none e. subst (λ marks. IsDistinct bytes_eq (place.used ++ marks)) (sym (begun mark place.key place.history none)) apart;
    adds = λ id words is up e. same _;
    deletes = λ id is up e. same _;
    finds = λ word up e. same _;
    queries = λ fields up e. same _;
    renews = λ key up e.
        subst (λ marks. IsDistinct bytes_eq marks) (append_assoc place.used (marks_in mark place.key place.history) (mark key ∷ []) ∙ ap (λ marks. place.used ++ marks) (sym (marks-renewed mark place.key key place.history up)))
        (IsDistinct-push nat_list_eq_equiv (marks_so_far mark place) (mark key) apart (unused_at place key tests (neither (used_refusal place.mark place key) _ e).0));
  })
    where
      same : (cs : List Command) → IsDistinct bytes_eq (place.used ++ marks_in mark place.key (longer cs place.history))
      same cs = subst (λ marks. IsDistinct bytes_eq (place.used ++ marks)) (sym (marks-longer mark place.key place.history cs)) apart

  -- before a setup there is one
  pub marks_apart-opened : (key : List ℕ) → IsDistinct bytes_eq (marks_so_far mark (opened (Some mark) key))
  unfolding IsDistinct
  marks_apart-opened key = (tt, tt)

  -- A history whose keys have different marks.

  pub marks_recorded : (key : List ℕ) (es : Epochs) → marks_of (mark key) (as_recorded mark es) ≡ marks_in mark key (Some es)
  marks_recorded key (From o run) = refl
  marks_recorded key (Renewed before own run) = ap (λ marks. marks ++ mark own ∷ []) (marks_recorded key before)

  MarksDiffer-longer : (key : List ℕ) (h : History) (cs : List Command) → MarksDiffer mark key h → MarksDiffer mark key (longer cs h)
  MarksDiffer-longer key None cs differ = tt
  MarksDiffer-longer key (Some (From o run)) cs differ = tt
  MarksDiffer-longer key (Some (Renewed before own run)) cs differ = differ

  MarksDiffer-renewed : (used : List (List ℕ)) (key own : List ℕ) (h : History) → list_any (bytes_eq (mark own)) (used ++ marks_in mark key h) ≡ false → MarksDiffer mark key h → MarksDiffer mark key (renewed own h)
  MarksDiffer-renewed used key own None new differ = tt
  MarksDiffer-renewed used key own (Some es) new differ =
      (differ, ap (list_any (bytes_eq (mark own))) (marks_recorded key es) ∙ any_behind (bytes_eq (mark own)) used (marks_in mark key (Some es)) new)

  differ_next : (place : Place) (line : Request) → place.mark ≡ Some mark → MarksDiffer mark place.key place.history → MarksDiffer mark place.key (after (outcome place line) place).history
  differ_next place line tests differ = by_cases place line (λ r. MarksDiffer mark place.key (after r place).history) (record {
    refuses = λ refusal. differ;
    collects = λ id words is none e. differ;
    sets_up = λ b big pad none e. tt;
    adds = λ id words is up e. MarksDiffer-longer place.key place.history _ differ;
    deletes = λ id is up e. MarksDiffer-longer place.key place.history _ differ;
    finds = λ word up e. MarksDiffer-longer place.key place.history _ differ;
    queries = λ fields up e. MarksDiffer-longer place.key place.history _ differ;
    renews = λ key up e. MarksDiffer-renewed place.used place.key key place.history (unused_at place key tests (neither (used_refusal place.mark place key) _ e).0) differ;
  })

  -- of all that follows
  pub differ_follow : (place : Place) (number : ℕ) (lines : List (Option Line)) (refused : Bool) → place.mark ≡ Some mark → MarksDiffer mark place.key place.history
      → MarksDiffer mark place.key (follow place number lines refused).history
  differ_follow place number [] refused tests differ = differ
  differ_follow place number (None ∷ lines) refused tests differ = differ
  differ_follow place number (Some Empty ∷ lines) refused tests differ = differ_follow place (number + 1) lines refused tests differ
  differ_follow place number (Some (Key key) ∷ lines) refused tests differ = differ
  differ_follow place number (Some (script.Command line) ∷ lines) refused tests differ =
      let r = outcome place line in
      let m = follow (after r place) (number + 1) lines (refused || is_refusal r) in
      subst (λ key. MarksDiffer mark key m.history) (after-key r place)
      (differ_follow (after r place) (number + 1) lines (refused || is_refusal r) (after-mark r place ∙ tests)
      (subst (λ key. MarksDiffer mark key (after r place).history) (sym (after-key r place)) (differ_next place line tests differ)))

  -- the same with the marks of epochs before
  pub apart_follow : (place : Place) (number : ℕ) (lines : List (Option Line)) (refused : Bool) → place.mark ≡ Some mark → IsDistinct bytes_eq (marks_so_far mark place)
      → IsDistinct bytes_eq (place.used ++ marks_in mark place.key (follow place number lines refused).history)
  apart_follow place number [] refused tests apart = apart
  apart_follow place number (None ∷ lines) refused tests apart = apart
  apart_follow place number (Some Empty ∷ lines) refused tests apart = apart_follow place (number + 1) lines refused tests apart
  apart_follow place number (Some (Key key) ∷ lines) refused tests apart = apart
  apart_follow place number (Some (script.Command line) ∷ lines) refused tests apart =
      let r = outcome place line in
      let m = follow (after r place) (number + 1) lines (refused || is_refusal r) in
      subst (λ marks. IsDistinct bytes_eq marks) (λ i. after-used r place i ++ marks_in mark (after-key r place i) m.history)
      (apart_follow (after r place) (number + 1) lines (refused || is_refusal r) (after-mark r place ∙ tests) (marks_apart-next place line tests apart))

  differ_meant : (number : ℕ) (lines : List (Option Line)) (key : List ℕ) → (meant_from (Some mark) number lines).key ≡ Some key → MarksDiffer mark key (meant_from (Some mark) number lines).history
  differ_meant number [] key is = tt
  differ_meant number (None ∷ lines) key is = tt
  differ_meant number (Some Empty ∷ lines) key is = differ_meant (number + 1) lines key is
  differ_meant number (Some (Key own) ∷ lines) key is =
      let place = opened (Some mark) own in
      subst (λ k. MarksDiffer mark k (follow place (number + 1) lines false).history) (same own (sym (follow-key place (number + 1) lines false) ∙ is)) (differ_follow place (number + 1) lines false refl tt)
    where
      same : (own : List ℕ) → Some own ≡ Some key → own ≡ key
      same own e = cc
  differ_meant number (Some (script.Command line) ∷ lines) key is = tt

  -- Promise P288 (inside): No two epochs of a script, or of sessions in a row, have keys with the same mark.
  -- of all that a script means
  pub meaning_differs : (bytes key : List ℕ) → (meaning (Some mark) bytes).key ≡ Some key → MarksDiffer mark key (meaning (Some mark) bytes).history
  meaning_differs bytes key is = differ_meant 1 (script_lines bytes) key is

  -- a first part of such a history is one
  pub MarksDiffer-first : (key : List ℕ) (part whole : History) → IsFirstOf part whole → MarksDiffer mark key whole → MarksDiffer mark key part
  MarksDiffer-first key None whole first differ = tt
  MarksDiffer-first key (Some es) None first differ = absurd first
  MarksDiffer-first key (Some es) (Some whole) first differ = before_steps (λ xs. MarksDiffer mark key (Some xs)) back es first.0 (subst (λ xs. MarksDiffer mark key (Some xs)) first.1 differ)
    where
      back : (xs : Epochs) (step : Step) → MarksDiffer mark key (Some (step_after xs step)) → MarksDiffer mark key (Some xs)
      back (From o run) (epoch.Does c) differ = tt
      back (Renewed before own run) (epoch.Does c) differ = differ
      back xs (epoch.Renews own) differ = differ.0
