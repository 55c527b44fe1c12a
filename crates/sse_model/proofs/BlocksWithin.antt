-- A setup that is accepted has at most 2^20 blocks, dummies included: no list takes more blocks than it has identifiers.
use Rattle.std.proofs.Common.{◌≡◌, ℕ, zero, suc, ◌+◌, ◌*◌, ◌^◌, ◌<◌, ◌≤◌, Bool, true, false, cond, List, [], ◌∷◌, length, filter, refl, sym, ap, ◌∙◌, subst, arith}
use Rattle.std.specs.Prelude.{None, Some, sum_by, bytes_eq, nat_le, if◌then◌else◌}
use Rattle.std.specs.Int.{div_ceil}
use Rattle.std.specs.List.{IsDistinct, AllByRecursion}
use Rattle.std.proofs.Math.Nat.{mul-le-mul_left, mul-le-mul_right}
use Rattle.std.proofs.lemmas.Bool.{leb-true, leb-false}
use Rattle.std.proofs.lemmas.Cmp.{nat_list_eq_equiv}
use Rattle.std.proofs.lemmas.Grind.{div_ceil_times}
use Rattle.std.proofs.lemmas.List.Folds.{fold-map}
use Rattle.std.proofs.lemmas.List.Sums.{sum_by-cons, sum_by-le, sum_by-le-sum_by}
use Rattle.list_packing.proofs.PartsLemmas.{div_ceil-le}
use Rattle.two_level.specs.Plan.{Identifiers, DataPointers, BlockPointers, plan, block_count}
use Rattle.two_level.specs.Shape.{Shape}
use Rattle.client_registry.proofs.DistinctLaws.{IsDistinct-first_seen}
use Rattle.client_registry.proofs.PaddedLaws.{padded_blocks_are, padded_within}
use Rattle.client_registry.proofs.SizedLaws.{accepted_shape, accepted_pad, one_pad}
use Rattle.client_registry.proofs.WordsLaws.{length-ids_with}
use Rattle.client_registry.specs.Acceptance.{blocks_of, padded_blocks, size_refusal}
use Rattle.client_registry.specs.Documents.{all_words, words_of, ids_with, IsCollected}
use Rattle.client_registry.specs.Setup.{Setup}

-- A list takes at most as many blocks as it has identifiers.

-- halving twice, from three on
halves : (n d p : ℕ) → 3 ≤ n → d * 2 < n + 2 → p * 2 < d + 2 → p + d ≤ n
halves n d p some once twice = omega arith

-- parts of two at least are no more than parts of two
fewer_parts : (n d big : ℕ) → 2 ≤ big → n ≤ d * 2 → div_ceil n big ≤ d
fewer_parts n d big wide fits =
    let more : d * 2 ≤ d * big = mul-le-mul_left d wide in
    div_ceil-le n big d (omega (arith, wide)) (omega (arith, fits, more))

one_level : (n big : ℕ) → 1 ≤ big → div_ceil n big ≤ n
one_level n big some =
    let more : n * 1 ≤ n * big = mul-le-mul_left n some in
    div_ceil-le n big n some (omega (arith, more))

two_levels : (n big : ℕ) → 2 ≤ big → 3 ≤ n → div_ceil (div_ceil n big) big + div_ceil n big ≤ n
two_levels n big wide some =
    let d = div_ceil n 2 in
    let p = div_ceil d 2 in
    let once = div_ceil_times n 2 (omega arith) in
    let twice = div_ceil_times d 2 (omega arith) in
    let low : div_ceil n big ≤ d = fewer_parts n d big wide once.0 in
    let top : div_ceil (div_ceil n big) big ≤ p = fewer_parts (div_ceil n big) p big wide (omega (arith, low, twice.0)) in
    let sum : p + d ≤ n = halves n d p some once.1 twice.1 in
    omega (arith, low, top, sum)

-- with one number a block, a list that isn't in its cell is too long
not_by_one : (n b big : ℕ) → n ≤ b * big * big → b < n → 1 ≤ big → 2 ≤ big
not_by_one n b zero fits long some = absurd (omega arith)
not_by_one n b (suc zero) fits long some = absurd (omega arith)
not_by_one n b (suc (suc big)) fits long some = omega arith

-- a list of n identifiers takes at most n blocks
pub block_count-le : (s : Shape) (n : ℕ) → 1 ≤ s.b → 1 ≤ s.big → block_count (plan s n) ≤ n
block_count-le s n cell some = by (nat_le n s.b) (nat_le n (s.b * s.big)) (nat_le n (s.b * s.big * s.big)) refl refl refl
  where
    by : (x y z : Bool) → nat_le n s.b ≡ x → nat_le n (s.b * s.big) ≡ y → nat_le n (s.b * s.big * s.big) ≡ z
        → block_count (if x then Some (record { kind = Identifiers; pointer_blocks = 0; data_blocks = 0 })
        else if y then Some (record { kind = DataPointers; pointer_blocks = 0; data_blocks = div_ceil n s.big })
        else if z then Some (record { kind = BlockPointers; pointer_blocks = div_ceil (div_ceil n s.big) s.big; data_blocks = div_ceil n s.big })
        else None) ≤ n
    by true y z e f g = omega arith
    by false true z e f g = omega (arith, one_level n s.big some)
    by false false true e f g =
        let long : s.b < n = leb-false n s.b e in
        let longer : s.b * s.big < n = leb-false n (s.b * s.big) f in
        let wide : 2 ≤ s.big = not_by_one n s.b s.big (leb-true n (s.b * s.big * s.big) g) long some in
        let twice : 1 * s.big ≤ s.b * s.big = mul-le-mul_right s.big cell in
        two_levels n s.big wide (omega (arith, longer, wide, twice))
    by false false false e f g = omega arith

-- The lists together have as many identifiers as there are pairs.

none_same : (v w : List ℕ) (vs : List (List ℕ)) → bytes_eq v w ≡ true → AllByRecursion (λ y. bytes_eq v y ≡ false) vs → filter (λ y. bytes_eq y w) vs ≡ []
none_same v w [] same differ = refl
none_same v w (y ∷ ys) same differ =
    let other : bytes_eq y w ≡ false = nat_list_eq_equiv.symm y w ∙ sym (nat_list_eq_equiv.congr v w y same) ∙ differ.0 in
    ap (λ b. cond b (y ∷ filter (λ z. bytes_eq z w) ys) (filter (λ z. bytes_eq z w) ys)) other ∙ none_same v w ys same differ.1

-- a word stands once at most among words that differ
one_same : (w : List ℕ) (vs : List (List ℕ)) → IsDistinct bytes_eq vs → length (filter (λ v. bytes_eq v w) vs) ≤ 1
unfolding IsDistinct
one_same w [] differ = omega arith
one_same w (v ∷ vs) differ = by (bytes_eq v w) refl (one_same w vs differ.1)
  where
    by : (b : Bool) → bytes_eq v w ≡ b → length (filter (λ y. bytes_eq y w) vs) ≤ 1
        → length (cond b (v ∷ filter (λ y. bytes_eq y w) vs) (filter (λ y. bytes_eq y w) vs)) ≤ 1
    by true e h = omega (arith, ap length (none_same v w vs e differ.0))
    by false e h = h

-- how often these words stand there, in all
abbrev hits : List (List ℕ) → List (List ℕ) → ℕ
hits vs ws = sum_by (λ v. length (filter (bytes_eq v) ws)) vs

hits-cons : (vs : List (List ℕ)) (w : List ℕ) (ws : List (List ℕ)) → hits vs (w ∷ ws) ≡ length (filter (λ v. bytes_eq v w) vs) + hits vs ws
hits-cons [] w ws = refl
hits-cons (v ∷ vs) w ws =
    sum_by-cons (λ u. length (filter (bytes_eq u) (w ∷ ws))) v vs
    ∙ ap (λ n. length (filter (bytes_eq v) (w ∷ ws)) + n) (hits-cons vs w ws)
    ∙ by (bytes_eq v w)
    ∙ ap (λ n. length (filter (λ u. bytes_eq u w) (v ∷ vs)) + n) (sym (sum_by-cons (λ u. length (filter (bytes_eq u) ws)) v vs))
  where
    own : List (List ℕ)
    own = filter (bytes_eq v) ws

    others : List (List ℕ)
    others = filter (λ u. bytes_eq u w) vs

    by : (b : Bool) → length (cond b (w ∷ own) own) + (length others + hits vs ws) ≡ length (cond b (v ∷ others) others) + (length own + hits vs ws)
    by true = omega arith
    by false = omega arith

hits-le : (vs ws : List (List ℕ)) → IsDistinct bytes_eq vs → hits vs ws ≤ length ws
hits-le vs [] differ =
    let none = sum_by-le (λ (v : List ℕ). 0) 0 vs (λ k d within. omega arith) in
    omega (arith, none)
hits-le vs (w ∷ ws) differ = omega (arith, hits-cons vs w ws, one_same w vs differ, hits-le vs ws differ)

module _ (s : Setup) (collected : IsCollected s.documents) (h : size_refusal s ≡ None) where
  -- an accepted setup has at most 2^20 blocks of its own
  pub own_within : blocks_of s ≤ 2 ^ 20
  own_within =
      let docs = s.documents in
      let words = words_of docs in
      let shape = accepted_shape s h in
      let count = λ (n : ℕ). block_count (plan s.shape n) in
      let by_words : blocks_of s ≡ sum_by (λ w. count (length (ids_with docs w))) words = fold-map (λ a n. a + count n) (λ w. length (ids_with docs w)) 0 words in
      let fewer : sum_by (λ w. count (length (ids_with docs w))) words ≤ hits words (all_words docs) =
      sum_by-le-sum_by (λ w. count (length (ids_with docs w))) (λ w. length (filter (bytes_eq w) (all_words docs))) words
      (λ w. subst (λ (n : ℕ). count (length (ids_with docs w)) ≤ n) (sym (length-ids_with docs w collected.are_documents)) (block_count-le s.shape (length (ids_with docs w)) shape.0.0 shape.1.0)) in
      omega (arith, by_words, fewer, hits-le words (all_words docs) (IsDistinct-first_seen (all_words docs)), collected.pairs)

  -- and as many at most with the dummies
  pub blocks_within : padded_blocks s ≤ 2 ^ 20
  blocks_within = omega (arith, padded_blocks_are s (one_pad s h), padded_within s.pad (accepted_pad s h) (blocks_of s) own_within)
