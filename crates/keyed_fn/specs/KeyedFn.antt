-- A keyed function as a value of definitions, as a type that implements `Keyed` computes it.
use Rattle.std.specs.Prelude.{◌≡◌, ℕ, ◌<◌, ◌≤◌, List, length, take, All}

-- 32 bytes from a key and an input; and from a key, a number and a length, so many bytes of a pad
pub record KeyedFn : Type 0 where
  pub prf : List ℕ → List ℕ → List ℕ
  pub pad : List ℕ → ℕ → ℕ → List ℕ

-- the keyed function of a type `K` is `keyed_fn K.prf K.pad`
abbrev pub keyed_fn : (List ℕ → List ℕ → List ℕ) → (List ℕ → ℕ → ℕ → List ℕ) → KeyedFn
keyed_fn prf pad = record { prf = prf; pad = pad }

-- what every keyed function keeps: its sizes, bytes below 256, and a shorter pad is the front of a longer one
pub record IsKeyedFn (f : KeyedFn) : Type 0 where
  pub prf_length : (key input : List ℕ) → length (f.prf key input) ≡ 32
  pub prf_bytes : (key input : List ℕ) → All (λ b. b < 256) (f.prf key input)
  pub pad_length : (key : List ℕ) (n len : ℕ) → length (f.pad key n len) ≡ len
  pub pad_bytes : (key : List ℕ) (n len : ℕ) → All (λ b. b < 256) (f.pad key n len)
  pub pad_prefix : (key : List ℕ) (n a b : ℕ) → a ≤ b → take a (f.pad key n b) ≡ f.pad key n a
