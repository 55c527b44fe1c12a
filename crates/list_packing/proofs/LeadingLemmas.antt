-- The laws of leading numbers and holes.
use Rattle.std.proofs.Common.{◌≡◌, ℕ, zero, suc, ◌+◌, ◌-◌, ◌<◌, Bool, true, false, cond, List, [], ◌∷◌, ◌++◌, length, take, drop, replicate, refl, sym, ap, ◌∙◌, arith, zero-add, All}
use Rattle.std.specs.Prelude.{Option, Some, None, option_map, ◌==◌, ◌&&◌, not}
use Rattle.std.specs.Option.{option_map_or}
use Rattle.std.specs.List.{list_all, position_from}
use Rattle.std.proofs.lemmas.Bool.{ne_eqb}
use Rattle.std.proofs.lemmas.List.Elements.{All-head, All-tail}
use Rattle.list_packing.specs.Parts.{filled}
use Rattle.list_packing.specs.LeadingNumbers.{leading, leading_count, first_hole_from, first_hole}

-- ---- holes

-- a number that is no zero
abbrev pub is_number : ℕ → Bool
is_number m = not (m == 0)

hole_from : (i : ℕ) (ns : List ℕ) → first_hole_from i ns ≡ position_from is_number (i + leading_count ns) (drop (leading_count ns) ns)
hole_from i [] = refl
hole_from i (n ∷ ns) = by (n == 0) refl (hole_from (i + 1) ns)
  where
    count : ℕ
    count = leading_count ns

    by : (zero_here : Bool) → (n == 0) ≡ zero_here → first_hole_from (i + 1) ns ≡ position_from is_number (i + 1 + count) (drop count ns)
        → cond zero_here (position_from is_number (i + 1) ns) (first_hole_from (i + 1) ns)
        ≡ position_from is_number (i + cond (not zero_here) (1 + count) 0) (drop (cond (not zero_here) (1 + count) 0) (n ∷ ns))
    by true is later =
        let start : i + 1 ≡ i + 0 + 1 = omega arith in
        ap (λ k. position_from is_number k ns) start
        ∙ ap (λ (z : Bool). cond (not z) (Some (i + 0)) (position_from is_number (i + 0 + 1) ns)) (sym is)
    by false is later =
        let place : i + 1 + count ≡ i + (1 + count) = omega arith in
        let next : suc count ≡ 1 + count = omega arith in
        later ∙ ap (λ k. position_from is_number k (drop count ns)) place ∙ ap (λ k. position_from is_number (i + (1 + count)) (drop k (n ∷ ns))) next

-- the first hole is the first number after the leading ones that is no zero
pub first_hole-behind : (ns : List ℕ) → first_hole ns ≡ position_from is_number (leading_count ns) (drop (leading_count ns) ns)
first_hole-behind ns = hole_from 0 ns ∙ ap (λ k. position_from is_number k (drop (leading_count ns) ns)) (zero-add (leading_count ns))

-- these numbers, and no list where there is a hole
abbrev pub unless_hole : Option ℕ → List ℕ → Option (List ℕ)
unless_hole hole ns = option_map_or (λ place. None) hole (Some ns)

abbrev empty_if : Bool → Option (List ℕ)
empty_if b = cond b (Some []) None

-- no number follows where all are zeros
only_zeros_follow : (i : ℕ) (ns : List ℕ) → empty_if (list_all (λ m. m == 0) ns) ≡ unless_hole (position_from is_number i ns) []
only_zeros_follow i [] = refl
only_zeros_follow i (n ∷ ns) = by (n == 0) (only_zeros_follow (i + 1) ns)
  where
    by : (zero_here : Bool) → empty_if (list_all (λ m. m == 0) ns) ≡ unless_hole (position_from is_number (i + 1) ns) []
        → empty_if (zero_here && list_all (λ m. m == 0) ns) ≡ unless_hole (cond (not zero_here) (Some i) (position_from is_number (i + 1) ns)) []
    by true later = later
    by false later = refl

-- zeros alone have no number before the first of them
only_zeros : (k : ℕ) → list_all (λ m. m == 0) (replicate k 0) ≡ true
only_zeros zero = refl
only_zeros (suc k) = only_zeros k

leading_before_zeros : (ns : List ℕ) (k : ℕ) → All (λ m. 0 < m) ns → leading (ns ++ replicate k 0) ≡ Some ns
leading_before_zeros [] zero form = refl
leading_before_zeros [] (suc k) form = rw (only_zeros k) refl
leading_before_zeros (n ∷ ns) k form =
    let above : 0 < n = All-head (λ m. 0 < m) n ns form in
    let test : (n == 0) ≡ false = ne_eqb n 0 (λ e. omega (arith, e)) in
    rw test (ap (option_map (λ later. n ∷ later)) (leading_before_zeros ns k (All-tail (λ m. 0 < m) n ns form)))

-- what is filled up has the numbers that it was filled from
pub leading-filled : (width : ℕ) (ns : List ℕ) → All (λ m. 0 < m) ns → leading (filled width ns) ≡ Some ns
leading-filled width ns form = leading_before_zeros ns (width - length ns) form

leading_from : (i : ℕ) (ns : List ℕ) → leading ns ≡ unless_hole (first_hole_from i ns) (take (leading_count ns) ns)
leading_from i [] = refl
leading_from i (n ∷ ns) = by (n == 0) (leading_from (i + 1) ns)
  where
    count : ℕ
    count = leading_count ns

    found : (o : Option ℕ) → option_map (λ later. n ∷ later) (unless_hole o (take count ns)) ≡ unless_hole o (n ∷ take count ns)
    found None = refl
    found (Some place) = refl

    by : (zero_here : Bool) → leading ns ≡ unless_hole (first_hole_from (i + 1) ns) (take count ns)
        → cond zero_here (empty_if (list_all (λ m. m == 0) ns)) (option_map (λ later. n ∷ later) (leading ns))
        ≡ unless_hole (cond zero_here (position_from is_number (i + 1) ns) (first_hole_from (i + 1) ns)) (take (cond (not zero_here) (1 + count) 0) (n ∷ ns))
    by true later = only_zeros_follow (i + 1) ns
    by false later =
        let next : suc count ≡ 1 + count = omega arith in
        ap (option_map (λ later. n ∷ later)) later ∙ found (first_hole_from (i + 1) ns)
        ∙ ap (λ k. unless_hole (first_hole_from (i + 1) ns) (take k (n ∷ ns))) next

-- the numbers before the zeros, where there is no hole
pub leading-first_hole : (ns : List ℕ) → leading ns ≡ unless_hole (first_hole ns) (take (leading_count ns) ns)
leading-first_hole ns = leading_from 0 ns
