-- Sizes and values of what the key formulas give, for any keyed function.
use Rattle.std.proofs.Common.{◌≡◌, ◌<◌, ℕ, List, ◌∷◌, length, take, length-append, arith}
use Rattle.std.specs.Prelude.{All}
use Rattle.std.proofs.lemmas.List.{length-take-le}
use Rattle.std.proofs.lemmas.List.Elements.{All-append, All-take}
use Rattle.keyed_fn.specs.KeyedFn.{KeyedFn, IsKeyedFn}
use Rattle.keyed_fn.specs.KeyFormulas.{token_of}

-- a label, a tag, a revocation number and the key mark have 16 bytes
pub length-front_of_prf : (f : KeyedFn) → IsKeyedFn f → (key input : List ℕ) → length (take 16 (f.prf key input)) ≡ 16
length-front_of_prf f laws key input =
    let whole : length (f.prf key input) ≡ 32 = laws.prf_length key input in length-take-le 16 _ (omega arith)

-- and each of their values is a byte
pub All-front_of_prf : (f : KeyedFn) → IsKeyedFn f → (key input : List ℕ) → All (λ b. b < 256) (take 16 (f.prf key input))
All-front_of_prf f laws key input = All-take (λ (b : ℕ). b < 256) 16 (f.prf key input) (laws.prf_bytes key input)

-- a search token has 160 bytes
pub length-token_of : (f : KeyedFn) → IsKeyedFn f → (master word : List ℕ) → length (token_of f master word) ≡ 160
length-token_of f laws master word =
    let one = laws.prf_length master (1 ∷ word) in
    let two = laws.prf_length master (2 ∷ word) in
    let three = laws.prf_length master (3 ∷ word) in
    let four = laws.prf_length master (4 ∷ word) in
    let five = laws.prf_length master (5 ∷ word) in
    simp length-append (omega (arith, one, two, three, four, five))

-- and each of its values is a byte
pub All-token_of : (f : KeyedFn) → IsKeyedFn f → (master word : List ℕ) → All (λ b. b < 256) (token_of f master word)
All-token_of f laws master word =
    let key = λ (p : ℕ). laws.prf_bytes master (p ∷ word) in
    All-append (λ (b : ℕ). b < 256) _ _
    (All-append (λ (b : ℕ). b < 256) _ _
    (All-append (λ (b : ℕ). b < 256) _ _
    (All-append (λ (b : ℕ). b < 256) _ _ (key 1) (key 2)) (key 3)) (key 4)) (key 5)
