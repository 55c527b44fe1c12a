-- Numbers of owners: those read so far with those still to be read, and what it means that they rise.
use Rattle.std.proofs.Common.{◌≡◌, ◌<◌, ◌+◌, ℕ, Bool, true, false, List, [], ◌∷◌, ◌++◌, length, drop, zero, suc, refl, subst, ap, sym, ◌∙◌, arith, nat_lt, Option, Some, None}
use Rattle.std.specs.Prelude.{slice_index}
use Rattle.std.specs.List.Sorted.{IsStrictlyIncreasing}
use Rattle.std.specs.Option.{option_map}
use Rattle.std.proofs.lemmas.Bool.{and_parts, ltb-true}
use Rattle.std.proofs.lemmas.List.{append_assoc}
use Rattle.program_words.specs.Owners.{numbers_of, owner_of, rises, rises_above}

-- these numbers, and those that the words write
abbrev pub with_more : List ℕ → List (List ℕ) → Option (List ℕ)
with_more numbers words = option_map (λ more. numbers ++ more) (numbers_of words)

pub none_read : (words : List (List ℕ)) → numbers_of words ≡ with_more [] words
none_read words = whole (numbers_of words) where
  whole : (o : Option (List ℕ)) → o ≡ option_map (λ more. [] ++ more) o
  whole None = refl
  whole (Some numbers) = refl

-- one word more is read
pub one_read : (numbers : List ℕ) (number : ℕ) (word : List ℕ) (words : List (List ℕ)) → owner_of word ≡ Some number → with_more numbers (word ∷ words) ≡ with_more (numbers ++ number ∷ []) words
one_read numbers number word words is = rw is (moved (numbers_of words)) where
  moved : (o : Option (List ℕ)) → option_map (λ more. numbers ++ more) (option_map (λ more. number ∷ more) o) ≡ option_map (λ more. (numbers ++ number ∷ []) ++ more) o
  moved None = refl
  moved (Some more) = ap (λ all. Some all) (sym (append_assoc numbers (number ∷ []) more))

-- a word that writes no number
pub none_written : (numbers : List ℕ) (word : List ℕ) (words : List (List ℕ)) → owner_of word ≡ None → with_more numbers (word ∷ words) ≡ None
none_written numbers word words is = rw is refl

-- numbers that rise do so at each place

above_at : (number : ℕ) (numbers : List ℕ) → rises_above number numbers ≡ true → IsStrictlyIncreasing (number ∷ numbers)
above_at number [] is = λ k lt. absurd (omega (arith, lt))
above_at number (next ∷ numbers) is =
    let parts = and_parts (nat_lt number next) (rises_above next numbers) is in
    at (ltb-true _ _ parts.0) (above_at next numbers parts.1) where
      at : number < next → IsStrictlyIncreasing (next ∷ numbers) → IsStrictlyIncreasing (number ∷ next ∷ numbers)
      at below rest zero lt = below
      at below rest (suc k) lt =
          let same : suc (k + 1) ≡ suc k + 1 = omega arith in
          subst (λ i. slice_index (next ∷ numbers) k < slice_index (number ∷ next ∷ numbers) i) same (rest k (omega (arith, lt)))

pub rising_at : (numbers : List ℕ) → rises numbers ≡ true → IsStrictlyIncreasing numbers
rising_at [] is = λ k lt. absurd (omega (arith, lt))
rising_at (number ∷ numbers) is = above_at number numbers is
