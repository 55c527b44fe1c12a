-- The lists of all words have as many identifiers as there are pairs.
use Rattle.std.proofs.Common.{◌≡◌, ℕ, ◌+◌, ◌^◌, ◌≤◌, Bool, true, false, cond, List, [], ◌∷◌, length, Some, refl, sym, ap, ◌∙◌, subst, arith, add-zero}
use Rattle.std.specs.Prelude.{sum, sum_by, fold, unwrap_or, bytes_eq}
use Rattle.std.specs.List.{IsDistinct, AllByRecursion}
use Rattle.std.specs.Map.{lookup, keys_of}
use Rattle.std.proofs.lemmas.Cmp.{nat_list_eq_equiv}
use Rattle.std.proofs.lemmas.List.Folds.{fold-map}
use Rattle.std.proofs.lemmas.List.Sums.{sum_by-cons, sum_by-le-sum_by}
use Rattle.client_registry.proofs.DistinctLaws.{IsDistinct-first_seen}
use Rattle.client_registry.proofs.WordsLaws.{count_at, count_at-tally, keys-tally, length-ids_with}
use Rattle.client_registry.specs.Document.{Document}
use Rattle.client_registry.specs.Documents.{all_words, words_of, ids_with, list_lengths, IsCollected}
use Rattle.client_registry.specs.Tally.{counted_up, tally}

abbrev counts : List (List ℕ × ℕ) → ℕ
counts es = sum_by (λ e. e.1) es

-- one more word is one more count
counts-counted_up : (es : List (List ℕ × ℕ)) (w : List ℕ) → counts (counted_up es w) ≡ counts es + 1
counts-counted_up [] w = refl
counts-counted_up (e ∷ es) w = by (bytes_eq w e.0) (counts-counted_up es w)
  where
    by : (b : Bool) → counts (counted_up es w) ≡ counts es + 1 → counts (cond b ((e.0, e.1 + 1) ∷ es) (e ∷ counted_up es w)) ≡ counts (e ∷ es) + 1
    by true h = omega (arith, sum_by-cons (λ (x : List ℕ × ℕ). x.1) (e.0, e.1 + 1) es, sum_by-cons (λ (x : List ℕ × ℕ). x.1) e es)
    by false h = omega (arith, sum_by-cons (λ (x : List ℕ × ℕ). x.1) e (counted_up es w), sum_by-cons (λ (x : List ℕ × ℕ). x.1) e es, h)

counts-fold : (es : List (List ℕ × ℕ)) (ws : List (List ℕ)) → counts (fold counted_up es ws) ≡ counts es + length ws
counts-fold es [] = sym (add-zero (counts es))
counts-fold es (w ∷ ws) = omega (arith, counts-fold (counted_up es w) ws, counts-counted_up es w)

-- the count of another word doesn't matter
counts_elsewhere : (e : List ℕ × ℕ) (es : List (List ℕ × ℕ)) (vs : List (List ℕ)) → AllByRecursion (λ v. bytes_eq e.0 v ≡ false) vs
    → sum_by (count_at (e ∷ es)) vs ≡ sum_by (count_at es) vs
counts_elsewhere e es [] apart = refl
counts_elsewhere e es (v ∷ vs) apart =
    let here : count_at (e ∷ es) v ≡ count_at es v =
    ap (λ b. unwrap_or (cond b (Some e.1) (lookup (bytes_eq v) es)) 0) (nat_list_eq_equiv.symm v e.0 ∙ apart.0) in
    omega (arith, sum_by-cons (count_at (e ∷ es)) v vs, sum_by-cons (count_at es) v vs, here, counts_elsewhere e es vs apart.1)

-- words that differ have all counts among them
counts_by_word : (es : List (List ℕ × ℕ)) → IsDistinct bytes_eq (keys_of es) → sum_by (count_at es) (keys_of es) ≡ counts es
unfolding IsDistinct
counts_by_word [] apart = refl
counts_by_word (e ∷ es) apart =
    let own : count_at (e ∷ es) e.0 ≡ e.1 = ap (λ b. unwrap_or (cond b (Some e.1) (lookup (bytes_eq e.0) es)) 0) (nat_list_eq_equiv.refl e.0) in
    omega (
      arith,
      sum_by-cons (count_at (e ∷ es)) e.0 (keys_of es),
      own,
      counts_elsewhere e es (keys_of es) apart.0,
      counts_by_word es apart.1,
      sum_by-cons (λ (x : List ℕ × ℕ). x.1) e es,
    )

-- so they are at most 2^20
pub lists_within : (docs : List Document) → IsCollected docs → sum (list_lengths docs) ≤ 2 ^ 20
lists_within docs collected =
    let words = words_of docs in
    let es = tally (all_words docs) in
    let keys : keys_of es ≡ words = keys-tally (all_words docs) in
    let by_words : sum (list_lengths docs) ≡ sum_by (λ w. length (ids_with docs w)) words = fold-map (λ a n. a + n) (λ w. length (ids_with docs w)) 0 words in
    let as_counted : sum_by (λ w. length (ids_with docs w)) words ≤ sum_by (count_at es) words =
    sum_by-le-sum_by (λ w. length (ids_with docs w)) (count_at es) words
    (λ w. omega (arith, length-ids_with docs w collected.are_documents, count_at-tally (all_words docs) w)) in
    let once : sum_by (count_at es) words ≡ counts es =
    subst (λ ks. sum_by (count_at es) ks ≡ counts es) keys (counts_by_word es (subst (IsDistinct bytes_eq) (sym keys) (IsDistinct-first_seen (all_words docs)))) in
    omega (arith, by_words, as_counted, once, counts-fold [] (all_words docs), collected.pairs)
