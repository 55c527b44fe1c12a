-- What a search shows, put in order, is what is found.
use Rattle.std.proofs.Common.{◌≡◌, ℕ, Bool, true, false, not, ◌||◌, ◌&&◌, List, [], ◌∷◌, ◌++◌, map, refl, sym, ap, ◌∙◌, subst, append_assoc}
use Rattle.std.specs.Prelude.{◌==◌, if◌then◌else◌}
use Rattle.std.specs.List.{list_all}
use Rattle.std.proofs.lemmas.Bool.{and_parts, not-true}
use Rattle.std.proofs.lemmas.Cmp.{nat_eq_equiv}
use Rattle.std.proofs.lemmas.List.{append-nil, map-append}
use Rattle.std.proofs.lemmas.List.Folds.{list_all-append}
use Rattle.client_registry.proofs.FromEnd.{from_end}
use Rattle.client_registry.proofs.LiveLaws.{among, among-ids_with, added_list-push, is_listed-lists, live-push, live_pairs_are_listed}
use Rattle.client_registry.proofs.OrderLaws.{AreApart, AreApart-from_IsDistinct, AreApart-push, AreApart-filter, AreApart-map_filter, among-filter, in_order-same}
use Rattle.client_registry.proofs.OverLaws.{over-append}
use Rattle.client_registry.specs.Command.{Command, Add, Delete, Search}
use Rattle.client_registry.specs.Document.{Document}
use Rattle.client_registry.specs.Documents.{has_word, ids_with, is_live, IsCollected}
use Rattle.client_registry.specs.Live.{after, live, is_listed, is_live_with, newly_listed, added_list, shown, matching_ids, in_order}
use Rattle.client_registry.specs.Over.{over}
use Rattle.client_registry.specs.Setup.{Setup, setup_list}
use Rattle.client_registry.specs.Sized.{is_accepted}

abbrev ids_of : List Document → List ℕ
ids_of docs = map (λ d. d.id) docs

-- the identifiers in both lists of a word stand once
listed_apart : (s : Setup) (word : List ℕ) → AreApart (ids_of s.documents) → (cs : List Command) → AreApart (setup_list s word ++ added_list s cs word)
listed_apart s word apart = from_end (λ xs. AreApart (setup_list s word ++ added_list s xs word)) start push
  where
    start : AreApart (setup_list s word ++ [])
    start = subst AreApart (sym (append-nil (setup_list s word))) (AreApart-map_filter (λ d. d.id) (has_word word) s.documents apart)

    push : (xs : List Command) (x : Command) → AreApart (setup_list s word ++ added_list s xs word) → AreApart (setup_list s word ++ added_list s (xs ++ x ∷ []) word)
    push xs x had =
        subst AreApart (append_assoc (setup_list s word) (added_list s xs word) (newly_listed s word xs x) ∙ ap (λ ids. setup_list s word ++ ids) (sym (added_list-push s xs x word))) (by x)
      where
        both : List ℕ
        both = setup_list s word ++ added_list s xs word

        new : (b : Bool) (h n : Bool) (id : ℕ) → (h && not n) ≡ b → n ≡ among id both → AreApart (both ++ (if b then id ∷ [] else []))
        new true h n id e f = AreApart-push both id had (sym f ∙ not-true n (and_parts h (not n) e).1)
        new false h n id e f = subst AreApart (sym (append-nil both)) had

        by : (c : Command) → AreApart (both ++ newly_listed s word xs c)
        by (Add d) = new (has_word word d && not (is_listed s xs word d.id)) (has_word word d) (is_listed s xs word d.id) d.id refl (is_listed-lists s word d.id xs)
        by (Delete id) = subst AreApart (sym (append-nil both)) had
        by (Search other) = subst AreApart (sym (append-nil both)) had

-- whether each command is accepted after those before it
abbrev pub are_accepted : Setup → List Command → Bool
are_accepted s cs = list_all (λ accepted. accepted) (over (is_accepted s) [] cs)

-- Promise P159, also here
-- live documents have different identifiers
pub live_apart : (s : Setup) → AreApart (ids_of s.documents) → (cs : List Command) → are_accepted s cs ≡ true → AreApart (ids_of (live s.documents cs))
live_apart s apart = from_end (λ xs. are_accepted s xs ≡ true → AreApart (ids_of (live s.documents xs))) (λ _. apart) push
  where
    same_id : (docs : List Document) (id : ℕ) → is_live docs id ≡ among id (ids_of docs)
    same_id [] id = refl
    same_id (d ∷ docs) id = λ i. nat_eq_equiv.symm id d.id i || same_id docs id i

    push : (xs : List Command) (x : Command) → (are_accepted s xs ≡ true → AreApart (ids_of (live s.documents xs))) → are_accepted s (xs ++ x ∷ []) ≡ true → AreApart (ids_of (live s.documents (xs ++ x ∷ [])))
    push xs x had all =
        subst (λ docs. AreApart (ids_of docs)) (sym (live-push s.documents xs x)) (by x parts.1)
      where
        split : (are_accepted s xs && (is_accepted s xs x && true)) ≡ true
        split = sym (ap (list_all (λ accepted. accepted)) (over-append (is_accepted s) [] xs (x ∷ [])) ∙ list_all-append (λ accepted. accepted) (over (is_accepted s) [] xs) (is_accepted s xs x ∷ [])) ∙ all

        parts : (are_accepted s xs ≡ true) × ((is_accepted s xs x && true) ≡ true)
        parts = and_parts (are_accepted s xs) (is_accepted s xs x && true) split

        docs : List Document
        docs = live s.documents xs

        before : AreApart (ids_of docs)
        before = had parts.0

        by : (c : Command) → (is_accepted s xs c && true) ≡ true → AreApart (ids_of (after docs c))
        by (Add d) ok =
            let new = not-true (is_live docs d.id) (and_parts (not (is_live docs d.id)) _ (and_parts (is_accepted s xs (Add d)) true ok).0).0 in
            subst AreApart (sym (map-append (λ (e : Document). e.id) docs (d ∷ []))) (AreApart-push (ids_of docs) d.id before (sym (same_id docs d.id) ∙ new))
        by (Delete id) ok = AreApart-map_filter (λ d. d.id) (λ d. not (d.id == id)) docs before
        by (Search word) ok = before

-- Promise P159, also here
-- the identifiers that a search shows, put in order, are those found
pub in_order-shown : (s : Setup) (cs : List Command) (word : List ℕ) → IsCollected s.documents → are_accepted s cs ≡ true → in_order (shown s cs word) ≡ matching_ids s cs word
in_order-shown s cs word collected accepted =
    in_order-same (shown s cs word) (ids_with (live s.documents cs) word) shown_apart found_apart same
  where
    apart : AreApart (ids_of s.documents)
    apart = AreApart-from_IsDistinct (ids_of s.documents) collected.different

    both : List ℕ
    both = setup_list s word ++ added_list s cs word

    shown_apart : AreApart (shown s cs word)
    shown_apart = AreApart-filter (is_live_with s cs word) both (listed_apart s word apart cs)

    found_apart : AreApart (ids_with (live s.documents cs) word)
    found_apart = AreApart-map_filter (λ d. d.id) (has_word word) (live s.documents cs) (live_apart s apart cs accepted)

    absorbed : (b t : Bool) → (b ≡ true → t ≡ true) → (b && t) ≡ b
    absorbed true t f = f refl
    absorbed false t f = refl

    same : (q : ℕ) → among q (shown s cs word) ≡ among q (ids_with (live s.documents cs) word)
    same q =
        among-filter (is_live_with s cs word) q both
        ∙ ap (λ t. is_live_with s cs word q && t) (sym (is_listed-lists s word q cs))
        ∙ absorbed (is_live_with s cs word q) (is_listed s cs word q) (live_pairs_are_listed s word q cs)
        ∙ sym (among-ids_with (live s.documents cs) word q)
