-- Padded counts: how many dummies there are, and that there are none at a Q of 1.
use Rattle.std.proofs.Common.{◌≡◌, ℕ, ◌+◌, ◌*◌, ◌/◌, ◌<◌, ◌≤◌, ◌^◌, Bool, true, false, ◌&&◌, List, [], ◌∷◌, length, nat_le, refl, sym, ap, ◌∙◌, arith}
use Rattle.std.specs.Prelude.{◌==◌, ◌||◌}
use Rattle.std.specs.List.{list_any, list_all, range_with_len}
use Rattle.std.specs.Int.{div_ceil}
use Rattle.std.proofs.Math.Nat.{mul-le-mul_right}
use Rattle.std.proofs.lemmas.Bool.{and_parts, eqb-true, leb-true}
use Rattle.std.proofs.lemmas.Grind.{div_ceil_times}
use Rattle.list_packing.proofs.PartsLemmas.{div_ceil-le}
use Rattle.client_registry.specs.Acceptance.{blocks_of, padded, padded_words, padded_blocks, dummy_entries, dummy_blocks, index_bytes, is_pad}
use Rattle.client_registry.specs.Setup.{Setup, setup_words}

-- a padded count is at least the count, and less than q more
pub padded_bounds : (q n : ℕ) → 1 ≤ q → (n ≤ padded q n) × (padded q n < n + q)
padded_bounds q n one = div_ceil_times n q (omega (arith, one))

-- by ones it is the count
pub padded_by_one : (n : ℕ) → padded 1 n ≡ n
padded_by_one n =
    let bounds = padded_bounds 1 n (omega arith) in
    omega (arith, bounds.0, bounds.1)

module _ (s : Setup) (one : 1 ≤ s.pad) where
  -- with the dummies there are as many entries and blocks as the padded counts
  pub padded_words_are : padded_words s ≡ padded s.pad (length (setup_words s))
  padded_words_are = omega (arith, (padded_bounds s.pad (length (setup_words s)) one).0)

  pub padded_blocks_are : padded_blocks s ≡ padded s.pad (blocks_of s)
  padded_blocks_are = omega (arith, (padded_bounds s.pad (blocks_of s) one).0)

  -- so the bytes of the index are those of the padded counts
  pub index_bytes-padded : (words blocks : ℕ) → words ≡ padded s.pad (length (setup_words s)) → blocks ≡ padded s.pad (blocks_of s) → words * (17 + 8 * s.shape.b) + blocks * (8 * s.shape.big) ≡ index_bytes s
  index_bytes-padded words blocks words_are blocks_are =
      λ i. (words_are ∙ sym padded_words_are) i * (17 + 8 * s.shape.b) + (blocks_are ∙ sym padded_blocks_are) i * (8 * s.shape.big)

module _ (s : Setup) (alone : s.pad ≡ 1) where
  -- at a Q of 1 there are no dummies
  pub no_dummy_entries : dummy_entries s ≡ 0
  no_dummy_entries = omega (arith, ap (λ q. padded q (length (setup_words s))) alone ∙ padded_by_one (length (setup_words s)))

  pub no_dummy_blocks : dummy_blocks s ≡ 0
  no_dummy_blocks = omega (arith, ap (λ q. padded q (blocks_of s)) alone ∙ padded_by_one (blocks_of s))

-- a number that is one of these powers passes a test that they all pass
among : (test : ℕ → Bool) (q : ℕ) (ks : List ℕ) → list_any (λ k. q == 2 ^ k) ks ≡ true → list_all (λ k. test (2 ^ k)) ks ≡ true → test q ≡ true
among test q [] h all = absurd (cc)
among test q (k ∷ ks) h all = by (q == 2 ^ k) refl (among test q ks) h
  where
    parts : (test (2 ^ k) ≡ true) × (list_all (λ k. test (2 ^ k)) ks ≡ true)
    parts = and_parts (test (2 ^ k)) (list_all (λ k. test (2 ^ k)) ks) all

    by : (x : Bool) → (q == 2 ^ k) ≡ x → (list_any (λ k. q == 2 ^ k) ks ≡ true → list_all (λ k. test (2 ^ k)) ks ≡ true → test q ≡ true)
        → (x || list_any (λ k. q == 2 ^ k) ks) ≡ true → test q ≡ true
    by true same others h = ap test (eqb-true q (2 ^ k) same) ∙ parts.0
    by false differ others h = others h parts.1

module _ (q : ℕ) (h : is_pad q ≡ true) where
  -- a power of two from 1 to 4,096 is a number from 1 to 4,096
  pub pad_bounds : (1 ≤ q) × (q ≤ 4096)
  pad_bounds =
      let within = and_parts (nat_le 1 q) (nat_le q 4096) (among (λ n. nat_le 1 n && nat_le n 4096) q (range_with_len 0 13) h refl) in
      (leb-true 1 q within.0, leb-true q 4096 within.1)

  -- and 2^20 is a multiple of it, so that a padded count is within what the count is within
  pub padded_within : (n : ℕ) → n ≤ 2 ^ 20 → padded q n ≤ 2 ^ 20
  padded_within n few =
      let whole : 2 ^ 20 / q * q ≡ 2 ^ 20 = eqb-true (2 ^ 20 / q * q) (2 ^ 20) (among (λ m. 2 ^ 20 / m * m == 2 ^ 20) q (range_with_len 0 13) h refl) in
      let parts : div_ceil n q ≤ 2 ^ 20 / q = div_ceil-le n q (2 ^ 20 / q) pad_bounds.0 (omega (arith, few, whole)) in
      omega (arith, mul-le-mul_right q parts, whole)
