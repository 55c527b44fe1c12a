-- The faults of a reader at the front of bytes.
use Rattle.std.specs.Prelude.{◌≡◌, ℕ, List, ◌++◌, All, length, None}
use Rattle.client_registry.specs.Document.{Document}
use Rattle.client_registry.specs.Documents.{IsCollected}
use Rattle.client_registry.specs.WordRule.{word_refusal}

-- the bytes are a word
abbrev pub IsWord : List ℕ → Type 0
IsWord bytes = word_refusal bytes ≡ None

-- so many words
pub record AreWords (count : ℕ) (words : List (List ℕ)) : Type 0 where
  pub count_is : length words ≡ count
  pub each : All IsWord words

-- so many documents, which are collected for a setup
pub record AreDocuments (count : ℕ) (docs : List Document) : Type 0 where
  pub count_is : length docs ≡ count
  pub collected : IsCollected docs

-- nothing that keeps the limits is spelled so in front of the bytes
abbrev pub IsNotInFront : {A : Type 0} → (A → List ℕ) → (A → Type 0) → List ℕ → Type 0
IsNotInFront {A} field keeps bytes = (x : A) (rest : List ℕ) → keeps x → bytes ≡ field x ++ rest → ⊥

-- nothing that keeps the limits is spelled so by all of the bytes
abbrev pub IsNotWhole : {A : Type 0} → (A → List ℕ) → (A → Type 0) → List ℕ → Type 0
IsNotWhole {A} field keeps bytes = (x : A) → keeps x → bytes ≡ field x → ⊥
