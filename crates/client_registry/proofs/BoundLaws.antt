-- Counters that are at most a number.
use Rattle.std.proofs.Common.{◌≡◌, ℕ, zero, suc, ◌≤◌, Bool, true, false, cond, List, [], ◌∷◌, ◌++◌, map, Some, slice_index, unwrap_or, refl, ap, arith}
use Rattle.std.specs.Prelude.{All, bytes_eq}
use Rattle.std.specs.Map.{lookup, values_of}
use Rattle.std.proofs.lemmas.List.Elements.{All-head, All-tail}
use Rattle.client_registry.specs.Tally.{counts_of}
use Rattle.client_registry.specs.declared.word.Word.{Word}

-- each of the counts is at most m
abbrev pub AtMost : List (List ℕ × ℕ) → ℕ → Type 0
AtMost es m = (n : ℕ) → slice_index (map (λ e. e.1) es) n ≤ m

-- the counts, and the values in the table
pub values_counts : (es : List (Word × ℕ)) → map (λ e. e.1) (counts_of es) ≡ values_of es
values_counts [] = refl
values_counts (e ∷ es) = ap (λ xs. e.1 ∷ xs) (values_counts es)

new_words : (ws : List (List ℕ)) (m : ℕ) → AtMost (map (λ w. (w, 0)) ws) m
new_words [] m n = omega arith
new_words (w ∷ ws) m zero = omega arith
new_words (w ∷ ws) m (suc n) = new_words ws m n

-- new words have the count 0
pub bound-grown : (es : List (List ℕ × ℕ)) (ws : List (List ℕ)) (m : ℕ) → AtMost es m → AtMost (es ++ map (λ w. (w, 0)) ws) m
bound-grown [] ws m had n = new_words ws m n
bound-grown (e ∷ es) ws m had zero = had zero
bound-grown (e ∷ es) ws m had (suc n) = bound-grown es ws m (λ k. had (suc k)) n

-- counts that are all 0
pub bound-zeros : (es : List (Word × ℕ)) (m : ℕ) → All (λ e. e.1 ≡ 0) es → AtMost (counts_of es) m
bound-zeros [] m zeros n = omega arith
bound-zeros (e ∷ es) m zeros zero = omega (arith, All-head (λ (y : Word × ℕ). y.1 ≡ 0) e es zeros)
bound-zeros (e ∷ es) m zeros (suc n) = bound-zeros es m (All-tail (λ (y : Word × ℕ). y.1 ≡ 0) e es zeros) n

-- the count of a word
pub counter_within : (es : List (List ℕ × ℕ)) (m : ℕ) (word : List ℕ) → AtMost es m → unwrap_or (lookup (bytes_eq word) es) 0 ≤ m
counter_within [] m word had = omega arith
counter_within (e ∷ es) m word had = by (bytes_eq word e.0) (had zero) (counter_within es m word (λ k. had (suc k)))
  where
    by : (b : Bool) → e.1 ≤ m → unwrap_or (lookup (bytes_eq word) es) 0 ≤ m → unwrap_or (cond b (Some e.1) (lookup (bytes_eq word) es)) 0 ≤ m
    by true here rest = here
    by false here rest = rest
