-- What an addition does to a registry: its entry, its counts and its facts.
use Rattle.std.proofs.Common.{◌≡◌, ℕ, zero, suc, ◌+◌, ◌-◌, ◌<◌, ◌≤◌, ◌^◌, Bool, true, false, not, ◌||◌, ◌&&◌, List, [], ◌∷◌, ◌++◌, length, take, drop, filter, get_or, Option, None, Some, is_some, nat_eq, nat_lt, position, unwrap_or, refl, sym, ap, ◌∙◌, subst, arith}
use Rattle.std.specs.Prelude.{All, ◌==◌, if◌then◌else◌, option_map}
use Rattle.std.specs.List.{list_all, list_any, AllByRecursion, IsDistinct}
use Rattle.std.specs.List.Sorted.{IsNonDecreasing}
use Rattle.std.specs.Map.{keys_of, lookup, values_of}
use Rattle.std.specs.Str.{bytes_eq}
use Rattle.std.proofs.Math.Seq.{drop-append_seam, take-append_seam}
use Rattle.std.proofs.lemmas.Bool.{true≢false, and_parts, eqb-true, ltb-true}
use Rattle.std.proofs.lemmas.Cmp.{nat_eq_equiv, nat_list_eq_equiv}
use Rattle.std.proofs.lemmas.List.{length-append, length-map}
use Rattle.std.proofs.lemmas.List.Elements.{All-append, All-filter, All-weaker}
use Rattle.std.proofs.lemmas.List.Kept.{IsNonDecreasingBy-filter}
use Rattle.std.proofs.lemmas.Option.{get_or_from_slice_get, slice_get_within}
use Rattle.indexmap.specs.IndexMap.{set_value_at}
use Rattle.client_registry.specs.Command.{Add}
use Rattle.client_registry.specs.Document.{Document}
use Rattle.client_registry.specs.DocumentRule.{IsDocument}
use Rattle.client_registry.specs.Facts.{facts_after, has_counters}
use Rattle.client_registry.specs.IdNumber.{id_number}
use Rattle.client_registry.specs.Numbered.{words_by_number}
use Rattle.client_registry.specs.Registered.{facts, known_words}
use Rattle.client_registry.specs.RegistryView.{registered_of, IsKept, IsSound}
use Rattle.client_registry.specs.WordBytes.{word_bytes}
use Rattle.client_registry.specs.WordTable.{table_words}
use Rattle.client_registry.specs.declared.listed.Listed.{Listed}
use Rattle.client_registry.specs.declared.registry.Registry.TheInside.{Inside}
use Rattle.client_registry.proofs.DistinctLaws.{IsDistinct-words}
use Rattle.client_registry.proofs.EntryLaws.{live_replaced, listed_replaced}
use Rattle.client_registry.proofs.MemberLaws.{any_merged}
use Rattle.client_registry.proofs.Positions.{is_some-position}
use Rattle.client_registry.proofs.PushLaws.{list_any-map}
use Rattle.client_registry.proofs.RegistryLaws.{counter_known, kept_as, kept_sound, known_table, listed_found, live_found, number_among, unnumbered}
use Rattle.client_registry.proofs.TableLaws.{found_at, lookup-values, rise}

-- numbers whose words differ differ
pub numbers_differ : (ws : List (List ℕ)) (ns : List ℕ) → IsDistinct bytes_eq (words_by_number ws ns) → IsDistinct nat_eq ns
unfolding IsDistinct
numbers_differ ws [] differ = tt
numbers_differ ws (n ∷ ns) differ = (each ns differ.0, numbers_differ ws ns differ.1)
  where
    each : (ms : List ℕ) → AllByRecursion (λ w. bytes_eq (get_or ws n []) w ≡ false) (words_by_number ws ms) → AllByRecursion (λ m. nat_eq n m ≡ false) ms
    each [] all = tt
    each (m ∷ ms) all = (by (nat_eq n m) refl, each ms all.1)
      where
        by : (b : Bool) → nat_eq n m ≡ b → nat_eq n m ≡ false
        by true same = absurd (true≢false (sym (ap (λ k. bytes_eq (get_or ws n []) (get_or ws k [])) (sym (eqb-true n m same)) ∙ nat_list_eq_equiv.refl (get_or ws n [])) ∙ all.0))
        by false other = other

-- what is so of each word, by number
counters_at : (ws : List (List ℕ)) (p : List ℕ → Bool) (ns : List ℕ) → list_all p (words_by_number ws ns) ≡ true → (k : ℕ) (d : ℕ) → k < length ns → p (get_or ws (get_or ns k d) []) ≡ true
counters_at ws p [] all k d within = absurd (omega (arith, within))
counters_at ws p (n ∷ ns) all zero d within = (and_parts (p (get_or ws n [])) (list_all p (words_by_number ws ns)) all).0
counters_at ws p (n ∷ ns) all (suc k) d within = counters_at ws p ns (and_parts (p (get_or ws n [])) (list_all p (words_by_number ws ns)) all).1 k d (omega (arith, within))

module _ (r : Inside) (sound : IsSound r) (id : ℕ) (words : List (List ℕ)) (ns : List ℕ) (old : Listed)
    (numbers : words_by_number (table_words r.words.entries) ns ≡ words) (within : All (λ n. n < length r.words.entries) ns)
    (at : Some old ≡ lookup (λ k. nat_eq id (id_number k)) r.documents.entries) (dead : (facts (registered_of r)).live id ≡ None)
    (valid : IsDocument (record { id = id; words = words })) where
  abbrev table : List (List ℕ)
  table = table_words r.words.entries

  doc : Document
  doc = record { id = id; words = words }

  -- nothing of the identifier is live
  pub not_live : old.live ≡ None
  not_live = by old.live (sym (live_found r id (Some old) at) ∙ dead)
    where
      by : (o : Option ℕ) → option_map (λ n. words_by_number (known_words (registered_of r)) (take n old.numbers.items)) o ≡ None → o ≡ None
      by None h = refl
      by (Some n) h = absurd (cc)

  kept : IsKept table (kept_as id old)
  kept = kept_sound r sound id old at

  -- so the numbers that are kept rise
  pub rising : IsNonDecreasing old.numbers.items
  rising = subst (λ o. IsNonDecreasing (drop (unwrap_or o 0) old.numbers.items)) not_live kept.in_order

  -- and the numbers of the words differ
  pub differing : IsDistinct nat_eq ns
  differing = numbers_differ table ns (subst (IsDistinct bytes_eq) (sym numbers) (IsDistinct-words words valid.accepted))

  in_table : All (λ n. n < length table) ns
  in_table = All-weaker (λ n. n < length r.words.entries) (λ n. n < length table) (λ n lt. omega (arith, lt, length-map {B = List ℕ} r.words.entries (λ e. word_bytes e.0))) ns within

  -- a word is listed with the identifier where its number is among those kept
  failure_at : (n : ℕ) → n < length table → list_any (nat_eq n) old.numbers.items ≡ (facts (registered_of r)).listed (get_or table n []) id
  failure_at n lt =
      number_among table sound.words_differ n lt old.numbers.items kept.numbered
      ∙ ap (λ ws. list_any (bytes_eq (get_or table n [])) (words_by_number ws old.numbers.items)) (sym (known_table r))
      ∙ sym (listed_found r id (Some old) at (get_or table n []))

  -- none of the counts that go up is at its end
  pub counters_free : has_counters (facts (registered_of r)) (record { id = id; words = words }) ≡ true
      → All (λ n. list_any (nat_eq n) old.numbers.items ≡ false → get_or (values_of r.words.entries) n 0 < 2 ^ 32 - 1) ns
  counters_free free = λ k d lt new.
      let n = get_or ns k d in
      let here = in_table k d lt in
      let p = λ (word : List ℕ). (facts (registered_of r)).listed word id || nat_lt ((facts (registered_of r)).counter word) (2 ^ 32 - 1) in
      let passes = counters_at table p ns (ap (list_all p) numbers ∙ free) k d lt in
      let unlisted : (facts (registered_of r)).listed (get_or table n []) id ≡ false = sym (failure_at n here) ∙ new in
      let small = sym (ap (λ b. b || nat_lt ((facts (registered_of r)).counter (get_or table n [])) (2 ^ 32 - 1)) unlisted) ∙ passes in
      subst (λ c. c < 2 ^ 32 - 1) (counter_known r sound n here) (ltb-true ((facts (registered_of r)).counter (get_or table n [])) (2 ^ 32 - 1) small)

  -- what is kept of the identifier from then on
  module _ (new : Listed) (live : new.live ≡ Some (length ns)) (merged : new.numbers.items ≡ ns ++ filter (λ n. not (list_any (nat_eq n) ns)) old.numbers.items) where
    others : List ℕ
    others = filter (λ n. not (list_any (nat_eq n) ns)) old.numbers.items

    live_words : take (length ns) new.numbers.items ≡ ns
    unfolding others
    live_words = ap (take (length ns)) merged ∙ take-append_seam ns others

    pub kept_put : IsKept table (kept_as id new)
    unfolding others
    kept_put = record {
      numbered = subst (All (λ n. n < length table)) (sym merged) (All-append (λ n. n < length table) ns others in_table (All-filter (λ n. not (list_any (nat_eq n) ns)) (λ n. n < length table) old.numbers.items kept.numbered));
      within = subst (λ o. unwrap_or o 0 ≤ length new.numbers.items) (sym live) (omega (arith, ap length merged, length-append ns others));
      in_order = subst (λ o. IsNonDecreasing (drop (unwrap_or o 0) new.numbers.items)) (sym live)
          (subst IsNonDecreasing (sym (ap (drop (length ns)) merged ∙ drop-append_seam ns others)) (IsNonDecreasingBy-filter (λ n. n) (λ n. not (list_any (nat_eq n) ns)) old.numbers.items rising));
      valid = λ n is.
          let same : length ns ≡ n = cc (live, is) in
          subst (λ ws. IsDocument (record { id = id; words = ws })) (sym numbers ∙ ap (words_by_number table) (sym live_words ∙ ap (λ m. take m new.numbers.items) same)) valid;
    }

    module _ (s : Inside) (p : ℕ) (place : position (λ k. nat_eq id (id_number k)) (keys_of r.documents.entries) ≡ Some p)
        (entries : s.documents.entries ≡ set_value_at r.documents.entries p new) (same_words : table_words s.words.entries ≡ table_words r.words.entries)
        (counts : (n : ℕ) → get_or (values_of s.words.entries) n 0 ≡ get_or (values_of r.words.entries) n 0 + rise old.numbers.items ns n) where
      -- the facts after the addition
      pub facts-put : facts (registered_of s) ≡ facts_after (facts (registered_of r)) (Add (record { id = id; words = words }))
      facts-put = λ i. record {
        live = λ q. (live_replaced r s id p new place entries same_words q ∙ ap (λ o. if nat_eq q id then o else (facts (registered_of r)).live q) alive) i;
        listed = λ word q. (listed_replaced r s id p new place entries same_words word q ∙ among word q (nat_eq q id) refl) i;
        counter = λ word. counted word i;
      }
        where
          alive : option_map (λ n. words_by_number (known_words (registered_of r)) (take n new.numbers.items)) new.live ≡ Some words
          alive =
              ap (option_map (λ n. words_by_number (known_words (registered_of r)) (take n new.numbers.items))) live
              ∙ ap (λ ws. Some (words_by_number ws (take (length ns) new.numbers.items))) (known_table r)
              ∙ ap (λ ms. Some (words_by_number table ms)) live_words
              ∙ ap (λ ws. Some ws) numbers

          or_false : (b : Bool) → b ≡ (b || false)
          or_false true = refl
          or_false false = refl

          among : (word : List ℕ) (q : ℕ) (b : Bool) → nat_eq q id ≡ b
              → (if b then list_any (bytes_eq word) (words_by_number (known_words (registered_of r)) new.numbers.items) else (facts (registered_of r)).listed word q)
              ≡ ((facts (registered_of r)).listed word q || id == q && list_any (bytes_eq word) words)
          among word q true is =
              let known = known_words (registered_of r) in
              let test = λ (n : ℕ). bytes_eq word (get_or known n []) in
              let before = sym (list_any-map (bytes_eq word) (λ n. get_or known n []) old.numbers.items) ∙ sym (listed_found r id (Some old) at word) in
              let now = sym (list_any-map (bytes_eq word) (λ n. get_or known n []) ns) ∙ ap (λ ws. list_any (bytes_eq word) (words_by_number ws ns)) (known_table r) ∙ ap (list_any (bytes_eq word)) numbers in
              let same = nat_eq_equiv.symm id q ∙ is in
              ap (λ ms. list_any (bytes_eq word) (words_by_number known ms)) merged
              ∙ list_any-map (bytes_eq word) (λ n. get_or known n []) (ns ++ filter (λ n. not (list_any (nat_eq n) ns)) old.numbers.items)
              ∙ any_merged test ns old.numbers.items
              ∙ (λ i. before i || now i)
              ∙ (λ i. (facts (registered_of r)).listed word (sym (eqb-true q id is) i) || sym same i && list_any (bytes_eq word) words)
          among word q false is =
              or_false ((facts (registered_of r)).listed word q) ∙ ap (λ b. (facts (registered_of r)).listed word q || b && list_any (bytes_eq word) words) (sym (nat_eq_equiv.symm id q ∙ is))

          counter_by : (t : Inside) → table_words t.words.entries ≡ table → (word : List ℕ) (o : Option ℕ) → position (bytes_eq word) table ≡ o
              → (facts (registered_of t)).counter word ≡ unwrap_or (option_map (λ n. get_or (values_of t.words.entries) n 0) o) 0
          counter_by t same word o is =
              ap (λ x. unwrap_or x 0)
              (lookup-values word_bytes word t.words.entries ∙ ap (option_map (λ n. get_or (values_of t.words.entries) n 0)) (ap (position (bytes_eq word)) same ∙ is))

          counted : (word : List ℕ) → (facts (registered_of s)).counter word
              ≡ (facts (registered_of r)).counter word + (if list_any (bytes_eq word) words && not ((facts (registered_of r)).listed word id) then 1 else 0)
          counted word = by (position (bytes_eq word) table) refl
            where
              by : (o : Option ℕ) → position (bytes_eq word) table ≡ o → (facts (registered_of s)).counter word
                  ≡ (facts (registered_of r)).counter word + (if list_any (bytes_eq word) words && not ((facts (registered_of r)).listed word id) then 1 else 0)
              by None is =
                  let absent : list_any (bytes_eq word) table ≡ false = sym (is_some-position (bytes_eq word) table) ∙ ap is_some is in
                  let none : list_any (bytes_eq word) words ≡ false = ap (list_any (bytes_eq word)) (sym numbers) ∙ unnumbered table word absent ns in_table in
                  let zero_s = counter_by s same_words word None is in
                  let zero_r = counter_by r refl word None is in
                  let zero : 0 ≡ 0 + 0 = omega arith in
                  zero_s ∙ zero ∙ (λ i. sym zero_r i + (if sym none i && not ((facts (registered_of r)).listed word id) then 1 else 0))
              by (Some n) is =
                  let found = found_at table word n is in
                  let lt = slice_get_within table n word found in
                  let here : get_or table n [] ≡ word = get_or_from_slice_get table n word [] found in
                  let held = number_among table sound.words_differ n lt ns in_table ∙ ap (λ w. list_any (bytes_eq w) (words_by_number table ns)) here ∙ ap (list_any (bytes_eq word)) numbers in
                  let known = failure_at n lt ∙ ap (λ w. (facts (registered_of r)).listed w id) here in
                  counter_by s same_words word (Some n) is
                  ∙ counts n
                  ∙ (λ i. sym (counter_by r refl word (Some n) is) i + (if held i && not (known i) then 1 else 0))
