-- Draws and numbers that are gathered one after the other are those of the definitions.
use Rattle.std.proofs.Common.{◌≡◌, ℕ, zero, suc, ◌+◌, ◌-◌, ◌<◌, List, [], ◌∷◌, ◌++◌, drop, Option, Some, None, refl, sym, ap, ◌∙◌, arith, add-one, append_assoc}
use Rattle.std.specs.List.{slice_get}
use Rattle.std.specs.Option.{option_and_then}
use Rattle.sse_simulator.specs.Leaks.{Draw}
use Rattle.sse_simulator.specs.Simulator.{before, first_of}
use Rattle.leakage_frames.specs.MadeFrames.{ahead}

-- one more behind those that are gathered
pub ahead-before : {A : Type 0} (front : List A) (x : A) (rest : Option (List A)) → ahead (front ++ x ∷ []) rest ≡ ahead front (before (Some x) rest)
ahead-before front x None = refl
ahead-before front x (Some xs) = ap Some (append_assoc front (x ∷ []) xs)

-- the draw at a place, and those of its kind behind it
pub first_of-at : {A : Type 0} (kind : Draw → Option A) (n k : ℕ) (draws : List Draw)
    → first_of kind (suc n) (drop k draws) ≡ before (option_and_then kind (slice_get draws k)) (first_of kind n (drop (suc k) draws))
first_of-at kind n zero [] = refl
first_of-at kind n zero (draw ∷ draws) = refl
first_of-at kind n (suc k) [] = refl
first_of-at kind n (suc k) (draw ∷ draws) = first_of-at kind n k draws

-- the first draws from a place on: the one there, and those behind it
pub first_of-step : {A : Type 0} (kind : Draw → Option A) (count i : ℕ) (draws : List Draw) → i < count
    → first_of kind (count - i) (drop i draws) ≡ before (option_and_then kind (slice_get draws i)) (first_of kind (count - (i + 1)) (drop (i + 1) draws))
first_of-step kind count i draws within =
    let left : count - i ≡ suc (count - (i + 1)) = omega (arith, within) in
    ap (λ (n : ℕ). first_of kind n (drop i draws)) left
    ∙ first_of-at kind (count - (i + 1)) i draws
    ∙ ap (λ (k : ℕ). before (option_and_then kind (slice_get draws i)) (first_of kind (count - (i + 1)) (drop k draws))) (sym (add-one i))

-- a draw of the kind more
pub gathered : {A : Type 0} (kind : Draw → Option A) (count i : ℕ) (draws : List Draw) (front : List A) (x : A) (all : Option (List A)) → i < count
    → option_and_then kind (slice_get draws i) ≡ Some x → ahead front (first_of kind (count - i) (drop i draws)) ≡ all
    → ahead (front ++ x ∷ []) (first_of kind (count - (i + 1)) (drop (i + 1) draws)) ≡ all
gathered kind count i draws front x all within at is =
    ahead-before front x (first_of kind (count - (i + 1)) (drop (i + 1) draws))
    ∙ ap (λ o. ahead front (before o (first_of kind (count - (i + 1)) (drop (i + 1) draws)))) (sym at)
    ∙ ap (ahead front) (sym (first_of-step kind count i draws within))
    ∙ is
