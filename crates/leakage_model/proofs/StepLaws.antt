-- What is told of a word after one command more, by what was told before it.
use Rattle.std.proofs.Common.{◌≡◌, ℕ, ◌+◌, Bool, true, false, cond, not, ◌&&◌, ◌||◌, List, [], ◌∷◌, ◌++◌, length, map, filter, refl, sym, ap, ◌∙◌, eqb-true, Some, None}
use Rattle.std.specs.Prelude.{Option, bytes_eq, if◌then◌else◌, option_map, ◌==◌}
use Rattle.std.specs.List.{list_any}
use Rattle.std.specs.Option.{option_or}
use Rattle.std.proofs.lemmas.Cmp.{nat_eq_equiv}
use Rattle.std.proofs.lemmas.List.{append-nil, map-append}
use Rattle.std.proofs.lemmas.List.Folds.{list_any-append}
use Rattle.client_registry.proofs.LiveLaws.{live-push}
use Rattle.client_registry.specs.Command.{Command, Add, Delete, Search}
use Rattle.client_registry.specs.Document.{Document}
use Rattle.client_registry.specs.Documents.{has_word}
use Rattle.client_registry.specs.Live.{after, live, holds_pair, is_listed, is_live_with}
use Rattle.client_registry.specs.Run.{Offsets}
use Rattle.client_registry.specs.Setup.{Setup}
use Rattle.def_leakage.proofs.Places.{earliest-push}
use Rattle.def_leakage.specs.Firsts.{origin, earliest, first_search, number_origin, place_of, place_where, searched_at, update_words}
use Rattle.def_leakage.specs.CommandLeaks.{home, listed_by, listed_pairs}
use Rattle.sse_model.specs.Drawn.{sends_number}
use Rattle.sse_model.specs.Wire.{words_live}
use Rattle.sse_simulator.specs.Leaks.{ListedLeak, Origin}
use Rattle.leakage_model.proofs.PairLaws.{and-false, any-pairs, lists-listed_leaks, listed_pairs-push, map-absent, map-map, map-same, number_origin-push, or-false, or-none, or-true, pair, unlisted_number}
use Rattle.leakage_model.specs.WordFacts.{added_at, deleted_at, listed_leaks, listed_with, new_pair, searched_by, sent_among, sent_pair, word_facts}

-- Live documents.

-- the documents that hold a word, by the words of those with an identifier
pub holds_words_live : (docs : List Document) (word : List ℕ) (id : ℕ) → holds_pair docs word id ≡ list_any (bytes_eq word) (words_live docs id)
holds_words_live [] word id = refl
holds_words_live (d ∷ docs) word id =
    (λ i. (d.id == id && has_word word d) || holds_words_live docs word id i)
    ∙ by (d.id == id)
    ∙ sym (list_any-append (bytes_eq word) (if d.id == id then d.words else []) (words_live docs id))
  where
    by : (b : Bool) → ((b && has_word word d) || list_any (bytes_eq word) (words_live docs id)) ≡ (list_any (bytes_eq word) (if b then d.words else []) || list_any (bytes_eq word) (words_live docs id))
    by true = refl
    by false = refl

-- of another identifier a deletion leaves all, and of its own none
holds-deleted : (docs : List Document) (word : List ℕ) (other id : ℕ) (b : Bool) → (other == id) ≡ b → holds_pair (after docs (Delete other)) word id ≡ (if b then false else holds_pair docs word id)
holds-deleted [] word other id true e = refl
holds-deleted [] word other id false e = refl
holds-deleted (d ∷ docs) word other id b e = by b e (d.id == other) refl (holds-deleted docs word other id b e)
  where
    rest : List Document
    rest = filter (λ x. not (x.id == other)) docs

    by : (b : Bool) → (other == id) ≡ b → (own : Bool) → (d.id == other) ≡ own → holds_pair rest word id ≡ (if b then false else holds_pair docs word id)
        → holds_pair (cond (not own) (d ∷ rest) rest) word id ≡ (if b then false else holds_pair (d ∷ docs) word id)
    by true e true is had = had
    by true e false is had =
        ap (λ (x : Bool). (x && has_word word d) || holds_pair rest word id) (ap (λ n. d.id == n) (sym (eqb-true other id e)) ∙ is) ∙ had
    by false e true is had = had ∙ ap (λ (x : Bool). (x && has_word word d) || holds_pair docs word id) (sym (ap (λ n. n == id) (eqb-true d.id other is) ∙ e))
    by false e false is had = ap (λ x. (d.id == id && has_word word d) || x) had

holds-added : (docs : List Document) (d : Document) (word : List ℕ) (id : ℕ) → holds_pair (after docs (Add d)) word id ≡ (holds_pair docs word id || (d.id == id && has_word word d))
holds-added docs d word id =
    list_any-append (λ x. x.id == id && has_word word x) docs (d ∷ []) ∙ ap (λ b. holds_pair docs word id || b) (or-false (d.id == id && has_word word d))

module _ (o : Offsets) (s : Setup) (word : List ℕ) (past : List Command) (k : ℕ) (numbered : k ≡ o.command + 1 + length past) where
  docs : List Document
  docs = live s.documents past

  -- a pair after one command more, by whether its number is sent and whether it is live
  pair-push : (c : Command) (p : ℕ × Origin) (sent held : Bool) → sends_number s word p.0 past c ≡ sent → holds_pair (after docs c) word p.0 ≡ held
      → pair o s word (past ++ c ∷ []) p
      ≡ record {
        id = p.0;
        origin = p.1;
        number = option_or (number_origin o s past word p.0) (option_map (origin k) (place_where sent word (update_words s past c)));
        revoked = not held;
      }
  unfolding docs
  pair-push c p sent held e f =
      λ i. record {
        id = p.0;
        origin = p.1;
        number = (number_origin-push o s word past c p.0 k numbered ∙ ap (λ b. option_or (number_origin o s past word p.0) (option_map (origin k) (place_where b word (update_words s past c)))) e) i;
        revoked = not ((ap (λ ds. holds_pair ds word p.0) (live-push s.documents past c) ∙ f) i);
      }

  -- a pair of which neither changes
  pair-kept : (c : Command) (p : ℕ × Origin) → sends_number s word p.0 past c ≡ false → holds_pair (after docs c) word p.0 ≡ holds_pair docs word p.0 → pair o s word (past ++ c ∷ []) p ≡ pair o s word past p
  unfolding docs
  pair-kept c p e f =
      pair-push c p false (holds_pair docs word p.0) e f ∙ (λ i. record { id = p.0; origin = p.1; number = or-none (number_origin o s past word p.0) i; revoked = not (holds_pair docs word p.0) })

  leaks-push : (c : Command) → listed_by o s word past c ≡ [] → listed_leaks o s (past ++ c ∷ []) word ≡ map (pair o s word (past ++ c ∷ [])) (listed_pairs o s past word)
  leaks-push c none = ap (map (pair o s word (past ++ c ∷ []))) (listed_pairs-push o s word past c ∙ ap (λ ps. listed_pairs o s past word ++ ps) none ∙ append-nil (listed_pairs o s past word))

  first_search-push : (c : Command) → first_search o (past ++ c ∷ []) word ≡ option_map (λ first. first.command) (option_or (earliest o (searched_at word) past) (option_map (origin k) (searched_at word past c)))
  first_search-push c =
      ap (option_map (λ first. first.command)) (earliest-push o (searched_at word) past c)
      ∙ ap (λ n. option_map (λ (first : Origin). first.command) (option_or (earliest o (searched_at word) past) (option_map (origin n) (searched_at word past c))))
      (sym numbered)

  first_search-kept : (c : Command) → searched_at word past c ≡ None → first_search o (past ++ c ∷ []) word ≡ first_search o past word
  first_search-kept c none =
      first_search-push c
      ∙ ap (λ m. option_map (λ (first : Origin). first.command) (option_or (earliest o (searched_at word) past) (option_map (origin k) m))) none
      ∙ ap (option_map (λ first. first.command)) (or-none (earliest o (searched_at word) past))

  -- An addition.

  module _ (d : Document) where
    there : Origin
    there = origin k (place_of word d.words)

    abbrev pair_added : ℕ × Origin → ListedLeak
    pair_added p = pair o s word (past ++ Add d ∷ []) p

    -- a document without the word changes nothing
    added-without : has_word word d ≡ false → listed_leaks o s (past ++ Add d ∷ []) word ≡ listed_leaks o s past word
    unfolding docs
    added-without none =
        leaks-push (Add d) (ap (λ b. map (λ id. (id, origin (o.command + 1 + length past) (place_of word d.words))) (if b && not (is_listed s past word d.id) then d.id ∷ [] else [])) none)
        ∙ map-same pair_added (pair o s word past) same (listed_pairs o s past word)
      where
        same : (p : ℕ × Origin) → pair_added p ≡ pair o s word past p
        same p =
            pair-kept (Add d) p (ap (λ b. (d.id == p.0 && b) && is_listed s past word p.0) none ∙ ap (λ b. b && is_listed s past word p.0) (and-false (d.id == p.0)))
            (holds-added docs d word p.0 ∙ ap (λ b. holds_pair docs word p.0 || (d.id == p.0 && b)) none ∙ ap (λ b. holds_pair docs word p.0 || b) (and-false (d.id == p.0)) ∙ or-false (holds_pair docs word p.0))

    -- a pair of another identifier stays
    other_pair : (p : ℕ × Origin) → (d.id == p.0) ≡ false → pair_added p ≡ pair o s word past p
    unfolding docs
    other_pair p is =
        pair-kept (Add d) p (ap (λ b. (b && has_word word d) && is_listed s past word p.0) is)
        (holds-added docs d word p.0 ∙ ap (λ b. holds_pair docs word p.0 || (b && has_word word d)) is ∙ or-false (holds_pair docs word p.0))

    -- a pair that is listed again is sent
    relisted : has_word word d ≡ true → is_listed s past word d.id ≡ true → (p : ℕ × Origin) → pair_added p ≡ (if d.id == p.0 then sent_pair there false (pair o s word past p) else pair o s word past p)
    unfolding docs there
    relisted has listed p = by (d.id == p.0) refl
      where
        by : (b : Bool) → (d.id == p.0) ≡ b → pair_added p ≡ (if b then sent_pair there false (pair o s word past p) else pair o s word past p)
        by true is =
            pair-push (Add d) p true true
            ((λ i. (is i && has i) && is_listed s past word (sym (eqb-true d.id p.0 is) i)) ∙ listed)
            (holds-added docs d word p.0 ∙ (λ i. holds_pair docs word p.0 || (is i && has i)) ∙ or-true (holds_pair docs word p.0))
        by false is = other_pair p is

    -- a pair that is new
    fresh_pair : has_word word d ≡ true → is_listed s past word d.id ≡ false → pair_added (d.id, there) ≡ new_pair d.id there
    unfolding docs there
    fresh_pair has none =
        pair-push (Add d) (d.id, there) false true
        (ap (λ b. (d.id == d.id && has_word word d) && b) none ∙ and-false (d.id == d.id && has_word word d))
        (holds-added docs d word d.id ∙ (λ i. holds_pair docs word d.id || (nat_eq_equiv.refl d.id i && has i)) ∙ or-true (holds_pair docs word d.id))
        ∙ (λ i. record { id = d.id; origin = there; number = option_or (unlisted_number o s word past d.id none i) None; revoked = false })

    added-with : has_word word d ≡ true → listed_leaks o s (past ++ Add d ∷ []) word ≡ listed_with d.id there (listed_leaks o s past word)
    unfolding docs there
    added-with has = by (is_listed s past word d.id) refl ∙ ap (λ b. if b then sent_among d.id there false (listed_leaks o s past word) else listed_leaks o s past word ++ new_pair d.id there ∷ []) (sym (lists-listed_leaks o s word past d.id))
      where
        listed_now : (b : Bool) → is_listed s past word d.id ≡ b → listed_by o s word past (Add d) ≡ (if b then [] else (d.id, there) ∷ [])
        listed_now true is = λ i. map (λ id. (id, origin (o.command + 1 + length past) (place_of word d.words))) (if has i && not (is i) then d.id ∷ [] else [])
        listed_now false is =
            (λ i. map (λ id. (id, origin (o.command + 1 + length past) (place_of word d.words))) (if has i && not (is i) then d.id ∷ [] else []))
            ∙ ap (λ n. (d.id, origin n (place_of word d.words)) ∷ []) (sym numbered)

        by : (b : Bool) → is_listed s past word d.id ≡ b → listed_leaks o s (past ++ Add d ∷ []) word ≡ (if b then sent_among d.id there false (listed_leaks o s past word) else listed_leaks o s past word ++ new_pair d.id there ∷ [])
        by true is =
            leaks-push (Add d) (listed_now true is)
            ∙ map-same pair_added (λ p. if d.id == p.0 then sent_pair there false (pair o s word past p) else pair o s word past p) (relisted has is) (listed_pairs o s past word)
            ∙ sym (map-map (λ p. if d.id == p.id then sent_pair there false p else p) (pair o s word past) (listed_pairs o s past word))
        by false is =
            ap (map pair_added) (listed_pairs-push o s word past (Add d) ∙ ap (λ ps. listed_pairs o s past word ++ ps) (listed_now false is))
            ∙ map-append pair_added (listed_pairs o s past word) ((d.id, there) ∷ [])
            ∙ (λ i. map-absent pair_added (pair o s word past) (λ p. p.0) d.id other_pair (listed_pairs o s past word) (any-pairs o s word past d.id ∙ is) i ++ fresh_pair has is i ∷ [])

    -- what is told after the addition
    pub facts-add : word_facts o s (past ++ Add d ∷ []) word ≡ (if has_word word d then added_at d.id (origin k (place_of word d.words)) (word_facts o s past word) else word_facts o s past word)
    unfolding there
    facts-add = by (has_word word d) refl
      where
        by : (b : Bool) → has_word word d ≡ b → word_facts o s (past ++ Add d ∷ []) word ≡ (if b then added_at d.id (origin k (place_of word d.words)) (word_facts o s past word) else word_facts o s past word)
        by true is = λ i. record { search = first_search-kept (Add d) refl i; home = home s word; listed = added-with is i }
        by false is = λ i. record { search = first_search-kept (Add d) refl i; home = home s word; listed = added-without is i }

  -- A deletion.

  -- what is told after the deletion of an identifier
  pub facts-delete : (id : ℕ) → word_facts o s (past ++ Delete id ∷ []) word
      ≡ (if list_any (bytes_eq word) (words_live (live s.documents past) id) then deleted_at id (origin k (place_of word (words_live (live s.documents past) id))) (word_facts o s past word) else word_facts o s past word)
  unfolding docs
  facts-delete id = by (list_any (bytes_eq word) words) refl
    where
      words : List (List ℕ)
      words = words_live (live s.documents past) id

      spot : Origin
      spot = origin k (place_of word words)

      pair_deleted : ℕ × Origin → ListedLeak
      pair_deleted p = pair o s word (past ++ Delete id ∷ []) p

      held : (p : ℕ × Origin) → (id == p.0) ≡ true → (b : Bool) → list_any (bytes_eq word) words ≡ b → holds_pair docs word p.0 ≡ b
      held p is b has = ap (holds_pair docs word) (sym (eqb-true id p.0 is)) ∙ holds_words_live docs word id ∙ has

      others : (p : ℕ × Origin) → (id == p.0) ≡ false → pair_deleted p ≡ pair o s word past p
      others p is = pair-kept (Delete id) p (ap (λ b. b && is_live_with s past word p.0) is) (holds-deleted docs word id p.0 false is)

      dead : list_any (bytes_eq word) words ≡ false → (p : ℕ × Origin) → pair_deleted p ≡ pair o s word past p
      dead none p = go (id == p.0) refl
        where
          go : (b : Bool) → (id == p.0) ≡ b → pair_deleted p ≡ pair o s word past p
          go true is =
              pair-kept (Delete id) p ((λ i. is i && held p is false none i)) (holds-deleted docs word id p.0 true is ∙ sym (held p is false none))
          go false is = others p is

      sent : list_any (bytes_eq word) words ≡ true → (p : ℕ × Origin) → pair_deleted p ≡ (if id == p.0 then sent_pair spot true (pair o s word past p) else pair o s word past p)
      sent has p = go (id == p.0) refl
        where
          go : (b : Bool) → (id == p.0) ≡ b → pair_deleted p ≡ (if b then sent_pair spot true (pair o s word past p) else pair o s word past p)
          go true is = pair-push (Delete id) p true false (λ i. is i && held p is true has i) (holds-deleted docs word id p.0 true is)
          go false is = others p is

      by : (b : Bool) → list_any (bytes_eq word) words ≡ b → word_facts o s (past ++ Delete id ∷ []) word ≡ (if b then deleted_at id spot (word_facts o s past word) else word_facts o s past word)
      by true has =
          let listed : listed_leaks o s (past ++ Delete id ∷ []) word ≡ sent_among id spot true (listed_leaks o s past word) =
          leaks-push (Delete id) refl
          ∙ map-same pair_deleted (λ p. if id == p.0 then sent_pair spot true (pair o s word past p) else pair o s word past p) (sent has) (listed_pairs o s past word)
          ∙ sym (map-map (λ p. if id == p.id then sent_pair spot true p else p) (pair o s word past) (listed_pairs o s past word)) in
          λ i. record { search = first_search-kept (Delete id) refl i; home = home s word; listed = listed i }
      by false none =
          let listed : listed_leaks o s (past ++ Delete id ∷ []) word ≡ listed_leaks o s past word =
          leaks-push (Delete id) refl ∙ map-same pair_deleted (pair o s word past) (dead none) (listed_pairs o s past word) in
          λ i. record { search = first_search-kept (Delete id) refl i; home = home s word; listed = listed i }

  -- A search.

  -- what is told after a search
  pub facts-search : (other : List ℕ) → word_facts o s (past ++ Search other ∷ []) word ≡ (if bytes_eq word other then searched_by k (word_facts o s past word) else word_facts o s past word)
  unfolding docs
  facts-search other = by (bytes_eq word other) refl
    where
      listed : listed_leaks o s (past ++ Search other ∷ []) word ≡ listed_leaks o s past word
      listed = leaks-push (Search other) refl ∙ map-same (pair o s word (past ++ Search other ∷ [])) (pair o s word past) (λ p. pair-kept (Search other) p refl refl) (listed_pairs o s past word)

      first : (m : Option Origin) → option_map (λ (f : Origin). f.command) (option_or m (Some (origin k 0))) ≡ option_or (option_map (λ (f : Origin). f.command) m) (Some k)
      first None = refl
      first (Some m) = refl

      by : (b : Bool) → bytes_eq word other ≡ b → word_facts o s (past ++ Search other ∷ []) word ≡ (if b then searched_by k (word_facts o s past word) else word_facts o s past word)
      by true is =
          let search : first_search o (past ++ Search other ∷ []) word ≡ option_or (first_search o past word) (Some k) =
          first_search-push (Search other)
          ∙ ap (λ (b : Bool). option_map (λ (f : Origin). f.command) (option_or (earliest o (searched_at word) past) (option_map (origin k) (if b then Some 0 else None)))) is
          ∙ first (earliest o (searched_at word) past) in
          λ i. record { search = search i; home = home s word; listed = listed i }
      by false is = λ i. record { search = first_search-kept (Search other) (ap (λ (b : Bool). if b then Some 0 else None) is) i; home = home s word; listed = listed i }
