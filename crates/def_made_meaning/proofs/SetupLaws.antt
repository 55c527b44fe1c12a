-- The setup of a made script is accepted.
use Rattle.std.proofs.Common.{◌≡◌, ℕ, ◌+◌, ◌*◌, ◌<◌, ◌≤◌, ◌^◌, Bool, true, false, cond, List, [], ◌∷◌, length, filter, get_or, refl, sym, ap, ◌∙◌, arith}
use Rattle.std.specs.Prelude.{All, None, Some, bytes_eq, is_none, nat_le, option_map, slice_index, sum_by, if◌then◌else◌}
use Rattle.std.specs.List.{AllByRecursion, IsDistinct}
use Rattle.std.specs.Int.{div_ceil}
use Rattle.std.proofs.lemmas.Bool.{le-leb, leb-false}
use Rattle.std.proofs.lemmas.Cmp.{nat_list_eq_equiv}
use Rattle.std.proofs.lemmas.Grind.{div_ceil_times}
use Rattle.std.proofs.lemmas.List.{get_or-map, length-map}
use Rattle.std.proofs.lemmas.List.FromFn.{length-map-range_with_len}
use Rattle.std.proofs.lemmas.List.Folds.{fold-map}
use Rattle.std.proofs.lemmas.List.Sums.{sum_by-cons, sum_by-le}
use Rattle.client_registry.proofs.AcceptanceLaws.{list_refusal-none}
use Rattle.client_registry.proofs.DistinctLaws.{IsDistinct-first_seen}
use Rattle.client_registry.proofs.PaddedLaws.{padded_blocks_are, padded_by_one, padded_words_are}
use Rattle.client_registry.proofs.SizeRefusal.{not_refused}
use Rattle.client_registry.proofs.WordsLaws.{ids_with-below, length-first_seen, length-ids_with}
use Rattle.client_registry.specs.Acceptance.{blocks_of, index_bytes, padded_blocks, padded_words, size_refusal}
use Rattle.client_registry.specs.Document.{Document}
use Rattle.client_registry.specs.DocumentRule.{IsDocument}
use Rattle.client_registry.specs.Documents.{all_words, ids_with, list_lengths, words_of}
use Rattle.client_registry.specs.Setup.{Setup, setup_with}
use Rattle.two_level.specs.Plan.{Plan, Identifiers, DataPointers, BlockPointers, block_count, plan}
use Rattle.two_level.specs.Shape.{Shape}
use Rattle.def_script_meaning.specs.Refused.{index_refusal, size_refused}
use Rattle.def_made_meaning.proofs.DocumentsLaws.{collected-made, length-all_words, made_doc, made_docs}

abbrev made_shape : Shape
made_shape = record { b = 16; big = 64 }

-- A list of at most 10,000 has a plan,
planned : (n : ℕ) → n ≤ 10000 → is_none (plan made_shape n) ≡ false
planned n few = by (nat_le n 16) (nat_le n (16 * 64)) (nat_le n (16 * 64 * 64)) (le-leb n (16 * 64 * 64) (omega (arith, few)))
  where
    by : (x y z : Bool) → z ≡ true
        → is_none {T = Plan} (if x then Some (record { kind = Identifiers; pointer_blocks = 0; data_blocks = 0 })
        else if y then Some (record { kind = DataPointers; pointer_blocks = 0; data_blocks = div_ceil n 64 })
        else if z then Some (record { kind = BlockPointers; pointer_blocks = div_ceil (div_ceil n 64) 64; data_blocks = div_ceil n 64 })
        else None) ≡ false
    by true y z e = refl
    by false true z e = refl
    by false false true e = refl
    by false false false e = absurd (cc)

-- and a plan takes at most a quarter as many blocks as its list has identifiers
quarter : (n : ℕ) → block_count (plan made_shape n) * 4 ≤ n
quarter n = by (nat_le n 16) (nat_le n (16 * 64)) (nat_le n (16 * 64 * 64)) refl
  where
    once : (n ≤ div_ceil n 64 * 64) × (div_ceil n 64 * 64 < n + 64)
    once = div_ceil_times n 64 (omega arith)

    twice : (div_ceil n 64 ≤ div_ceil (div_ceil n 64) 64 * 64) × (div_ceil (div_ceil n 64) 64 * 64 < div_ceil n 64 + 64)
    twice = div_ceil_times (div_ceil n 64) 64 (omega arith)

    many : (d p : ℕ) → 16 < n → d * 64 < n + 64 → p * 64 < d + 64 → (n ≤ 1024 → p ≡ 0) → (p + d) * 4 ≤ n
    many d p long low top none = omega (arith, long, low, top, none)

    by : (x y z : Bool) → nat_le n 16 ≡ x
        → block_count (if x then Some (record { kind = Identifiers; pointer_blocks = 0; data_blocks = 0 })
        else if y then Some (record { kind = DataPointers; pointer_blocks = 0; data_blocks = div_ceil n 64 })
        else if z then Some (record { kind = BlockPointers; pointer_blocks = div_ceil (div_ceil n 64) 64; data_blocks = div_ceil n 64 })
        else None) * 4 ≤ n
    by true y z e = omega arith
    by false true z e = omega (arith, leb-false n 16 e, once.1)
    by false false true e = omega (arith, leb-false n 16 e, once.1, twice.1)
    by false false false e = omega arith

-- The lists together have as many identifiers as there are pairs.

none_same : (v w : List ℕ) (vs : List (List ℕ)) → bytes_eq v w ≡ true → AllByRecursion (λ y. bytes_eq v y ≡ false) vs → filter (λ y. bytes_eq y w) vs ≡ []
none_same v w [] same differ = refl
none_same v w (y ∷ ys) same differ =
    let other : bytes_eq y w ≡ false = nat_list_eq_equiv.symm y w ∙ sym (nat_list_eq_equiv.congr v w y same) ∙ differ.0 in
    ap (λ b. cond b (y ∷ filter (λ z. bytes_eq z w) ys) (filter (λ z. bytes_eq z w) ys)) other ∙ none_same v w ys same differ.1

-- a word stands once at most among words that differ
one_same : (w : List ℕ) (vs : List (List ℕ)) → IsDistinct bytes_eq vs → length (filter (λ v. bytes_eq v w) vs) ≤ 1
unfolding IsDistinct
one_same w [] differ = omega arith
one_same w (v ∷ vs) differ = by (bytes_eq v w) refl (one_same w vs differ.1)
  where
    by : (b : Bool) → bytes_eq v w ≡ b → length (filter (λ y. bytes_eq y w) vs) ≤ 1
        → length (cond b (v ∷ filter (λ y. bytes_eq y w) vs) (filter (λ y. bytes_eq y w) vs)) ≤ 1
    by true e h = omega (arith, ap length (none_same v w vs e differ.0))
    by false e h = h

-- how often these words stand there, in all
abbrev hits : List (List ℕ) → List (List ℕ) → ℕ
hits vs ws = sum_by (λ v. length (filter (bytes_eq v) ws)) vs

hits-cons : (vs : List (List ℕ)) (w : List ℕ) (ws : List (List ℕ)) → hits vs (w ∷ ws) ≡ length (filter (λ v. bytes_eq v w) vs) + hits vs ws
hits-cons [] w ws = refl
hits-cons (v ∷ vs) w ws =
    sum_by-cons (λ u. length (filter (bytes_eq u) (w ∷ ws))) v vs
    ∙ ap (λ n. length (filter (bytes_eq v) (w ∷ ws)) + n) (hits-cons vs w ws)
    ∙ by (bytes_eq v w)
    ∙ ap (λ n. length (filter (λ u. bytes_eq u w) (v ∷ vs)) + n) (sym (sum_by-cons (λ u. length (filter (bytes_eq u) ws)) v vs))
  where
    own : List (List ℕ)
    own = filter (bytes_eq v) ws

    others : List (List ℕ)
    others = filter (λ u. bytes_eq u w) vs

    by : (b : Bool) → length (cond b (w ∷ own) own) + (length others + hits vs ws) ≡ length (cond b (v ∷ others) others) + (length own + hits vs ws)
    by true = omega arith
    by false = omega arith

hits-le : (vs ws : List (List ℕ)) → IsDistinct bytes_eq vs → hits vs ws ≤ length ws
hits-le vs [] differ =
    let none = sum_by-le (λ (v : List ℕ). 0) 0 vs (λ k d within. omega arith) in
    omega (arith, none)
hits-le vs (w ∷ ws) differ = omega (arith, hits-cons vs w ws, one_same w vs differ, hits-le vs ws differ)

-- so their blocks are at most a quarter as many
abbrev count : ℕ → ℕ
count n = block_count (plan made_shape n)

quarters : (docs : List Document) (words : List (List ℕ)) → All IsDocument docs → sum_by (λ word. count (length (ids_with docs word))) words * 4 ≤ hits words (all_words docs)
quarters docs [] are = omega arith
quarters docs (word ∷ words) are =
    omega (
      arith,
      sum_by-cons (λ w. count (length (ids_with docs w))) word words,
      sum_by-cons (λ w. length (filter (bytes_eq w) (all_words docs))) word words,
      quarter (length (ids_with docs word)),
      length-ids_with docs word are,
      quarters docs words are,
    )

module _ (seed n : ℕ) (few : n ≤ 10000) where
  abbrev docs : List Document
  docs = made_docs seed n

  abbrev setup : Setup
  setup = setup_with docs 16 64 1

  lists_short : (k : ℕ) → k < length (list_lengths docs) → is_none (plan made_shape (slice_index (list_lengths docs) k)) ≡ false
  lists_short k within =
      let words = words_of docs in
      let lens = λ (word : List ℕ). length (ids_with docs word) in
      let at : slice_index (list_lengths docs) k ≡ lens (get_or words k []) = get_or-map lens words k [] 0 (omega (arith, within, length-map words lens)) in
      planned (slice_index (list_lengths docs) k) (omega (arith, few, at, ids_with-below docs (get_or words k []), length-map-range_with_len (made_doc seed) 1 n))

  bytes_few : index_bytes setup ≤ 2 ^ 28
  bytes_few =
      let words : padded_words setup ≡ length (words_of docs) = padded_words_are setup (omega arith) ∙ padded_by_one (length (words_of docs)) in
      let blocks : padded_blocks setup ≡ blocks_of setup = padded_blocks_are setup (omega arith) ∙ padded_by_one (blocks_of setup) in
      let all = length-first_seen (all_words docs) in
      let sixty = length-all_words seed 1 n in
      let by_words : blocks_of setup ≡ sum_by (λ w. count (length (ids_with docs w))) (words_of docs) = fold-map (λ a n. a + count n) (λ w. length (ids_with docs w)) 0 (words_of docs) in
      let collected = collected-made seed n few in
      let quarter = quarters docs (words_of docs) collected.are_documents in
      let listed = hits-le (words_of docs) (all_words docs) (IsDistinct-first_seen (all_words docs)) in
      omega (arith, few, words, blocks, all, sixty, by_words, quarter, listed)

  -- no index is refused
  pub size_refusal-made : size_refusal (setup_with (made_docs seed n) 16 64 1) ≡ None
  size_refusal-made = not_refused setup refl (list_refusal-none setup lists_short) bytes_few

  pub index_refusal-made : index_refusal (made_docs seed n) 16 64 1 ≡ None
  index_refusal-made = ap (option_map size_refused) size_refusal-made
