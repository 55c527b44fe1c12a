-- Faults of results of several types.
use Rattle.std.proofs.Common.{◌≡◌, ℕ, Bool, true, false, ◌&&◌, Err, refl, sym, ap, ◌∙◌}
use Rattle.std.specs.Prelude.{Result}
use Rattle.std.proofs.lemmas.Bool.{true≢false}
use Rattle.sse_game.specs.declared.fault.DuelFault.{DuelFault}
use Rattle.sse_game.specs.declared.fault.DuelFault.TheVariants as faults

abbrev pub failed : (T : Type 0) → DuelFault → Result T DuelFault
failed T fault = Err fault

pub same_error : (T : Type 0) (a b : DuelFault) → failed T a ≡ failed T b → a ≡ b
same_error T a b e = cc

pub same_number : {T : Type 0} (a b : ℕ) → failed T (faults.LeaksDiffer a) ≡ failed T (faults.LeaksDiffer b) → a ≡ b
same_number a b e = cc

pub untrue : (b : Bool) → b ≡ true → b ≡ false → ⊥
untrue b one other = true≢false (sym one ∙ other)

pub both_true : (a b : Bool) → a ≡ true → b ≡ true → ((a && b) && true) ≡ true
both_true a b one other = λ i. (one i && other i) && true

pub not_both : (a b : Bool) → ((a ≡ true) × (b ≡ true) → ⊥) → ((a && b) && true) ≡ false
not_both true true never = absurd (never (refl, refl))
not_both true false never = refl
not_both false b never = refl

pub right_false : (a b c : Bool) → b ≡ false → ((a && b) && c) ≡ false
right_false a b c is = ap (λ x. (a && x) && c) is ∙ left a
  where
    left : (a : Bool) → ((a && false) && c) ≡ false
    left true = refl
    left false = refl
