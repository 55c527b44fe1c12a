-- The keys that a client keeps.
use Rattle.std.specs.Prelude.{◌≡◌, ◌<◌, ℕ, List, [], length, nat_eq, slice_index_or, Some}
use Rattle.std.specs.Map.{lookup}
use Rattle.keyed_fn.specs.KeyedFn.{KeyedFn}
use Rattle.keyed_fn.specs.KeyFormulas.{part_key}
use Rattle.word_keys.specs.KeyPair.{KeyPair, plus_keys}

-- keys of words, each under its word's number: those of its additions, and of its revocation numbers
pub record WordKeys : Type 0 where
  pub plus : List (ℕ × KeyPair)
  pub revocations : List (ℕ × List ℕ)

-- the keys that are kept under a number are those of the word of this number, under the master key
pub record Keeps (f : KeyedFn) (master : List ℕ) (words : List (List ℕ)) (keys : WordKeys) : Type 0 where
  pub plus : (n : ℕ) (pair : KeyPair) → lookup (nat_eq n) keys.plus ≡ Some pair → (n < length words) × (pair ≡ plus_keys f master (slice_index_or words n []))
  pub revocations : (n : ℕ) (key : List ℕ) → lookup (nat_eq n) keys.revocations ≡ Some key → (n < length words) × (key ≡ part_key f master 5 (slice_index_or words n []))
