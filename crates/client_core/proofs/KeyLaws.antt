-- Keys that are kept, and one more.
use Rattle.std.proofs.Common.{◌≡◌, ◌<◌, ℕ, Bool, true, false, cond, List, [], Some, Option, length, sym, ap, ◌∙◌, subst, refl}
use Rattle.std.specs.Prelude.{nat_eq, slice_index_or}
use Rattle.std.specs.Map.{lookup}
use Rattle.std.proofs.lemmas.Bool.{eqb-true}
use Rattle.keyed_fn.specs.KeyedFn.{KeyedFn}
use Rattle.keyed_fn.specs.KeyFormulas.{part_key}
use Rattle.word_keys.specs.KeyPair.{KeyPair, plus_keys}
use Rattle.client_core.specs.Keys.{Keeps, WordKeys}

-- what a map has of each number, where it has one more
one_more : {X : Type 0} (P : ℕ → X → Type 0) (n : ℕ) (x : X) (old new : ℕ → Option X) → ((q : ℕ) → new q ≡ cond (nat_eq n q) (Some x) (old q))
    → P n x → ((q : ℕ) (y : X) → old q ≡ Some y → P q y) → (q : ℕ) (y : X) → new q ≡ Some y → P q y
one_more {X} P n x old new updates here had q y is = by (nat_eq n q) refl (sym (updates q) ∙ is)
  where
    by : (b : Bool) → nat_eq n q ≡ b → cond b (Some x) (old q) ≡ Some y → P q y
    by true same e =
        let value : x ≡ y = cc in
        subst (λ m. P m y) (eqb-true n q same) (subst (P n) value here)
    by false other e = had q y e

module _ (f : KeyedFn) (master : List ℕ) (words : List (List ℕ)) (keys : WordKeys) where
  abbrev IsPlus : ℕ → KeyPair → Type 0
  IsPlus n pair = (n < length words) × (pair ≡ plus_keys f master (slice_index_or words n []))

  abbrev IsRevocation : ℕ → List ℕ → Type 0
  IsRevocation n key = (n < length words) × (key ≡ part_key f master 5 (slice_index_or words n []))

  pub Keeps-plus : (new : WordKeys) (n : ℕ) (pair : KeyPair) → IsPlus n pair → ((q : ℕ) → lookup (nat_eq q) new.plus ≡ cond (nat_eq n q) (Some pair) (lookup (nat_eq q) keys.plus))
      → new.revocations ≡ keys.revocations → Keeps f master words keys → Keeps f master words new
  Keeps-plus new n pair here updates same had = record {
    plus = one_more IsPlus n pair (λ q. lookup (nat_eq q) keys.plus) (λ q. lookup (nat_eq q) new.plus) updates here had.plus;
    revocations = λ q key is. had.revocations q key (ap (λ m. lookup (nat_eq q) m) (sym same) ∙ is);
  }

  pub Keeps-revocation : (new : WordKeys) (n : ℕ) (key : List ℕ) → IsRevocation n key → ((q : ℕ) → lookup (nat_eq q) new.revocations ≡ cond (nat_eq n q) (Some key) (lookup (nat_eq q) keys.revocations))
      → new.plus ≡ keys.plus → Keeps f master words keys → Keeps f master words new
  Keeps-revocation new n key here updates same had = record {
    plus = λ q pair is. had.plus q pair (ap (λ m. lookup (nat_eq q) m) (sym same) ∙ is);
    revocations = one_more IsRevocation n key (λ q. lookup (nat_eq q) keys.revocations) (λ q. lookup (nat_eq q) new.revocations) updates here had.revocations;
  }
