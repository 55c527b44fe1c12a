-- The first of records that open do, under the same mark; so what records come to is one thing.
use Rattle.std.proofs.Common.{◌≡◌, ℕ, zero, suc, ◌+◌, ◌<◌, ◌≤◌, List, [], ◌∷◌, take, drop, refl, sym, ap, subst, ◌∙◌, None, Some, inl, inr, arith}
use Rattle.std.specs.Prelude.{◌⊎◌, fold}
use Rattle.std.proofs.lemmas.List.{take-append-drop, take-take}
use Rattle.std.proofs.lemmas.List.Sums.{fold-append}
use Rattle.client_registry.proofs.HistoryLaws.{before_steps, IsKept-first}
use Rattle.client_registry.specs.Epochs.{Step, Does, Renews, step_after}
use Rattle.client_registry.specs.Run.{History, Epochs, From, Renewed, at_first}
use Rattle.client_records.specs.Openings.{AreApart, AreStepRecords, IsBadRecord, Opens, OpensElsewhere, OpensNowhere, OpensTo, epochs_by}

steps_front : (k : ℕ) (payloads : List (List ℕ)) (steps : List Step) → AreStepRecords payloads steps → AreStepRecords (take k payloads) (take k steps)
steps_front zero payloads steps are = tt
steps_front (suc k) [] [] are = tt
steps_front (suc k) [] (step ∷ steps) are = absurd are
steps_front (suc k) (payload ∷ payloads) [] are = absurd are
steps_front (suc k) (payload ∷ payloads) (step ∷ steps) are = (are.0, steps_front k payloads steps are.1)

apart_before : (mark : List ℕ) (es : Epochs) (step : Step) → AreApart mark (step_after es step) → AreApart mark es
apart_before mark (From o run) (Does c) apart = tt
apart_before mark (Renewed before own run) (Does c) apart = apart
apart_before mark es (Renews own) apart = apart.0

-- the first of records open to the setup and its first steps
opens_first : (mark first : List ℕ) (others : List (List ℕ)) (es : Epochs) → Opens mark (first ∷ others) es → (k : ℕ) → (front : Epochs) × Opens mark (first ∷ take k others) front
opens_first mark first others es opened k =
    let say = opened.say in
    let front : Epochs = epochs_by say.setup (take k say.steps) in
    let rest : List Step = drop k say.steps in
    let whole : es ≡ fold step_after front rest =
    say.are ∙ ap (epochs_by say.setup) (sym (take-append-drop k say.steps))
    ∙ fold-append step_after (From at_first (record { setup = say.setup; later = [] })) (take k say.steps) rest in (
      front,
      record {
        say = record { setup = say.setup; steps = take k say.steps; are = refl; of_setup = say.of_setup; of_steps = steps_front k others say.steps say.of_steps };
        kept = IsKept-first (Some front) (Some es) (rest, whole) opened.kept;
        apart = before_steps (AreApart mark) (apart_before mark) front rest (subst (AreApart mark) whole opened.apart);
      },
    )

pub opens_front : (mark : List ℕ) (payloads : List (List ℕ)) (h : History) → OpensTo mark payloads h → (n : ℕ) → (before : History) × OpensTo mark (take n payloads) before
opens_front mark payloads h opened zero = (None, refl)
opens_front mark [] h opened (suc n) = (None, refl)
opens_front mark (first ∷ others) None opened (suc n) = absurd (cc)
opens_front mark (first ∷ others) (Some es) opened (suc n) = let front = opens_first mark first others es opened n in (Some front.0, front.1)

-- What records may come to exclude each other.

pub open_not_bad : (mark : List ℕ) (all : List (List ℕ)) (h : History) (n : ℕ) → OpensTo mark all h → IsBadRecord all n → ⊥
open_not_bad mark all h n opened bad = let front = opens_front mark all h opened (n + 1) in bad.refused mark front.0 front.1

pub bad_not_elsewhere : (mark : List ℕ) (all : List (List ℕ)) (n : ℕ) → IsBadRecord all n → OpensElsewhere mark all → ⊥
bad_not_elsewhere mark all n bad other = open_not_bad other.first all (Some other.es) n other.opened bad

not_before : (all : List (List ℕ)) (n m : ℕ) → IsBadRecord all n → IsBadRecord all m → n < m → ⊥
not_before all n m one two lt =
    let front = opens_front two.mark (take m all) two.before two.opened (n + 1) in
    one.refused two.mark front.0 (subst (λ (ps : List (List ℕ)). OpensTo two.mark ps front.0) (take-take (n + 1) m all (omega (arith, lt))) front.1)

order : (a b : ℕ) → (a < b) ⊎ (b ≤ a)
order a zero = inr (omega arith)
order zero (suc b) = inl (omega arith)
order (suc a) (suc b) = elim (order a b) [ inl lt ↦ inl (omega (arith, lt)) | inr le ↦ inr (omega (arith, le)) ]

pub bad_once : (all : List (List ℕ)) (n m : ℕ) → IsBadRecord all n → IsBadRecord all m → n ≡ m
bad_once all n m one two =
    elim (order n m) [
      | inl lt ↦ absurd (not_before all n m one two lt)
      | inr ge ↦ elim (order m n) [ inl gt ↦ absurd (not_before all m n two one gt) | inr le ↦ omega (arith, ge, le) ]
    ]

-- the first bad one among the first records is that of all
pub bad_in_all : (all : List (List ℕ)) (n : ℕ) → IsBadRecord (take (n + 1) all) n → IsBadRecord all n
bad_in_all all n bad = record {
  mark = bad.mark;
  before = bad.before;
  opened = subst (λ (ps : List (List ℕ)). OpensTo bad.mark ps bad.before) (take-take n (n + 1) all (omega arith)) bad.opened;
  refused = subst OpensNowhere (take-take (n + 1) (n + 1) all (omega arith)) bad.refused;
}
