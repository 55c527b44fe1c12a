-- A server that holds what a run's commands leave answers a search by what the run shows.
use Rattle.std.proofs.Common.{◌≡◌, ℕ, zero, suc, ◌+◌, ◌<◌, ◌≤◌, Bool, true, false, cond, not, List, [], ◌∷◌, ◌++◌, length, map, drop, get_or, filter, Option, Some, None, refl, sym, ap, ◌∙◌, subst, ⊎_elim, arith, zero-add}
use Rattle.std.specs.Prelude.{Contains, All, slice_index, option_and_then, ◌==◌, if◌then◌else◌}
use Rattle.std.specs.Option.{option_map}
use Rattle.std.specs.Int.{w64, from_be_bytes}
use Rattle.std.specs.FinMap as finmap
use Rattle.std.specs.FinSet as set
use Rattle.std.specs.List.{AllByRecursion, range_with_len}
use Rattle.std.proofs.lemmas.Bool.{true≢false, cases_Bool, cases_lt, false_from_ne_true, ne_eqb}
use Rattle.std.proofs.lemmas.List.{take_at}
use Rattle.std.proofs.lemmas.List.Concat.{flat_map-append}
use Rattle.std.proofs.lemmas.List.Elements.{All-take, All-contains, Contains-append_left, Contains-append_right, Contains-push}
use Rattle.std.proofs.lemmas.List.FromFn.{get_or-range_with_len, length-range_with_len}
use Rattle.std.proofs.lemmas.Nat.{from_be_bytes-to_be_bytes_8}
use Rattle.std.proofs.Math.ListN.{drop_of_length-le}
use Rattle.std.proofs.Math.Seq.{drop-cons}
use Rattle.chacha_stream.proofs.Laws.{xored-xored}
use Rattle.keyed_fn.specs.KeyedFn.{KeyedFn}
use Rattle.keyed_fn.specs.KeyFormulas.{revocation}
use Rattle.keyed_fn.specs.Xored.{xored}
use Rattle.client_registry.proofs.FromEnd.{from_end}
use Rattle.client_registry.proofs.LiveLaws.{is_listed-lists}
use Rattle.client_registry.proofs.ShownLaws.{are_accepted}
use Rattle.client_registry.specs.Command.{Command, Add, Delete, Search}
use Rattle.client_registry.specs.Live as live
use Rattle.client_registry.specs.Live.{is_listed, is_live_with, added_list, counter}
use Rattle.client_registry.specs.Run.{Run, Offsets}
use Rattle.client_registry.specs.Setup.{Setup, setup_list}
use Rattle.client_registry.specs.Sized.{IsSizedCommand}
use Rattle.search_token.specs.TokenKeys.{TokenKeys, token_keys}
use Rattle.server_core.specs.Search.{added_at, added_from, setup_ids, unrevoked, searched}
use Rattle.server_tables.specs.Contents.{CellMap, NumberSet}
use Rattle.sse_frames.specs.Frames.{be64}
use Rattle.sse_frames.specs.Replies.{IsIdentifier}
use Rattle.sse_model.proofs.Collisions.{joined}
use Rattle.sse_model.proofs.Counts.{AllByRecursion-append}
use Rattle.sse_model.proofs.Members.{AllByRecursion-from_members, Contains-head, Contains-cons, Contains-map}
use Rattle.sse_model.proofs.Prefixes.{run_of, probed-append}
use Rattle.sse_model.proofs.SentNumbers.{listed_dead_was_sent, sent_is_drawn, drawn_before}
use Rattle.sse_model.specs.Drawn.{drawn, probed_by, probed, IsCollisionFree}
use Rattle.sse_model.specs.Names.{Name, Table, table, name, ListLabel, PlusLabel, PlusPad, Revocation}
use Rattle.def_agreement.proofs.Counted.{added-cases, added-delete, added-search, counted_is_drawn}
use Rattle.def_agreement.proofs.SetupShown.{among_itself}
use Rattle.def_agreement.specs.Held.{HoldsAdditions, HoldsRevoked}

-- The identifiers of additions.

front_of : (P : Command → Type 0) (xs : List Command) (x : Command) → All P (xs ++ x ∷ []) → All P xs
front_of P xs x all = subst (All P) (take_at xs (x ∷ []) (length xs) refl) (All-take P (length xs) (xs ++ x ∷ []) all)

-- each identifier that an addition listed is one of a document
pub added_are_identifiers : (s : Setup) (word : List ℕ) (cs : List Command) → All IsSizedCommand cs → AllByRecursion IsIdentifier (added_list s cs word)
added_are_identifiers s word = from_end (λ xs. All IsSizedCommand xs → AllByRecursion IsIdentifier (added_list s xs word)) (λ sized. tt) push
  where
    push : (xs : List Command) (x : Command) → (All IsSizedCommand xs → AllByRecursion IsIdentifier (added_list s xs word))
        → All IsSizedCommand (xs ++ x ∷ []) → AllByRecursion IsIdentifier (added_list s (xs ++ x ∷ []) word)
    push xs x had sized = by x (All-contains IsSizedCommand (xs ++ x ∷ []) x sized (Contains-push xs x))
      where
        before : AllByRecursion IsIdentifier (added_list s xs word)
        before = had (front_of IsSizedCommand xs x sized)

        by : (c : Command) → IsSizedCommand c → AllByRecursion IsIdentifier (added_list s (xs ++ c ∷ []) word)
        by (Add d) one =
            ⊎_elim (λ same. subst (AllByRecursion IsIdentifier) (sym same) before)
            (λ new. subst (AllByRecursion IsIdentifier) (sym new.0) (AllByRecursion-append IsIdentifier (added_list s xs word) (d.id ∷ []) before ((one.some, one.fits), tt)))
            (added-cases s xs word d)
        by (Delete id) one = subst (AllByRecursion IsIdentifier) (sym (added-delete s xs word id)) before
        by (Search other) one = subst (AllByRecursion IsIdentifier) (sym (added-search s xs word other)) before

at_place : {X : Type 0} (P : X → Type 0) (xs : List X) (i : ℕ) (d : X) → AllByRecursion P xs → i < length xs → P (get_or xs i d)
at_place P [] i d all within = absurd (omega (arith, within))
at_place P (x ∷ xs) zero d all within = all.0
at_place P (x ∷ xs) (suc i) d all within = at_place P xs i d all.1 (omega (arith, within))

filter-alike : {X : Type 0} (p q : X → Bool) (xs : List X) → AllByRecursion (λ x. p x ≡ q x) xs → filter p xs ≡ filter q xs
filter-alike p q [] alike = refl
filter-alike p q (x ∷ xs) alike = λ i. cond (alike.0 i) (x ∷ filter-alike p q xs alike.1 i) (filter-alike p q xs alike.1 i)

-- A search.

module _ (f : KeyedFn) (keys : ℕ → List ℕ) (o : Offsets) (s : Setup) (cs : List Command) (sized : All IsSizedCommand cs) (accepted : are_accepted s cs ≡ true) (word : List ℕ)
    (free : IsCollisionFree (table f s.shape keys) o (run_of s (cs ++ Search word ∷ []))) where
  abbrev t : Table
  t = table f s.shape keys

  abbrev word_keys : TokenKeys
  word_keys = token_keys f (keys o.epoch) word

  abbrev now : Run
  now = run_of s (cs ++ Search word ∷ [])

  abbrev names : List Name
  names = joined (drawn o now ++ probed o now)

  -- what the commands drew is among the names that are to differ
  pub is_drawn : (n : Name) → Contains (joined (drawn o (run_of s cs))) n → Contains names n
  is_drawn n within =
      subst (λ all. Contains all n) (sym (flat_map-append (λ m. m) (drawn o now) (probed o now)))
      (Contains-append_left (joined (drawn o now)) (joined (probed o now)) n (drawn_before o s cs (Search word) n within))

  is_looked_up : (n : Name) → Contains (probed_by o.epoch s cs (Search word)) n → Contains names n
  is_looked_up n within =
      let here = probed_by o.epoch s cs (Search word) in
      let last : Contains (joined (probed o now)) n =
      subst (λ all. Contains all n) (sym (ap joined (probed-append o s cs (Search word ∷ [])) ∙ flat_map-append (λ m. m) (probed o (run_of s cs)) (here ∷ [])))
      (Contains-append_right (joined (probed o (run_of s cs))) (joined (here ∷ [])) n (Contains-append_left here [] n within)) in
      subst (λ all. Contains all n) (sym (flat_map-append (λ m. m) (drawn o now) (probed o now)))
      (Contains-append_right (joined (drawn o now)) (joined (probed o now)) n last)

  abbrev plus_names : List Name
  plus_names = map (λ c. name o.epoch word PlusLabel c) (range_with_len 0 (counter s cs word + 1))

  abbrev revocation_names : List Name
  revocation_names = map (λ id. name o.epoch word Revocation id) (setup_list s word ++ added_list s cs word)

  -- the label of the list is looked up, that of the addition after the last one, and the number of each listed pair
  pub label_looked_up : Contains names (name o.epoch word ListLabel 0)
  label_looked_up = is_looked_up (name o.epoch word ListLabel 0) (Contains-head (name o.epoch word ListLabel 0) (plus_names ++ revocation_names))

  next_looked_up : Contains names (name o.epoch word PlusLabel (counter s cs word))
  next_looked_up =
      let n = counter s cs word in
      let within : Contains (range_with_len 0 (n + 1)) n = (n, omega (arith, length-range_with_len 0 (n + 1)), get_or-range_with_len 0 (n + 1) n n (omega arith) ∙ zero-add n) in
      is_looked_up (name o.epoch word PlusLabel n)
      (Contains-cons (name o.epoch word ListLabel 0) (plus_names ++ revocation_names) (name o.epoch word PlusLabel n)
      (Contains-append_left plus_names revocation_names (name o.epoch word PlusLabel n) (Contains-map (λ c. name o.epoch word PlusLabel c) (range_with_len 0 (n + 1)) n within)))

  number_looked_up : (id : ℕ) → Contains (setup_list s word ++ added_list s cs word) id → Contains names (name o.epoch word Revocation id)
  number_looked_up id within =
      is_looked_up (name o.epoch word Revocation id)
      (Contains-cons (name o.epoch word ListLabel 0) (plus_names ++ revocation_names) (name o.epoch word Revocation id)
      (Contains-append_right plus_names revocation_names (name o.epoch word Revocation id) (Contains-map (λ i. name o.epoch word Revocation i) (setup_list s word ++ added_list s cs word) id within)))

  -- The additions.

  module _ (additions : CellMap) (held : HoldsAdditions t o.epoch s cs additions) where
    at_last : finmap.get additions (t (name o.epoch word PlusLabel (counter s cs word))) ≡ None
    at_last =
        held.missing (t (name o.epoch word PlusLabel (counter s cs word))) (λ w c below same.
        let one = free (name o.epoch word PlusLabel (counter s cs word)) (name o.epoch w PlusLabel c) next_looked_up (is_drawn (name o.epoch w PlusLabel c) (counted_is_drawn o s w c cs below)) refl refl refl same in
        omega (arith, below, ap (λ (n : Name). n.number) one, ap (λ (n : Name). counter s cs n.word) one))

    decrypted : (c id : ℕ) (later : Option (List ℕ)) → IsIdentifier id
        → added_at f word_keys c (Some (xored (be64 id) (t (name o.epoch word PlusPad c)))) later ≡ option_map (λ more. id ∷ more) later
    decrypted c id later is =
        ap (λ n. if n == 0 then None else option_map (λ more. n ∷ more) later)
        (ap (from_be_bytes w64) (xored-xored (be64 id) (t (name o.epoch word PlusPad c))) ∙ from_be_bytes-to_be_bytes_8 id is.1)
        ∙ ap (λ b. if b then None else option_map (λ more. id ∷ more) later) (ne_eqb id 0 (λ none. omega (arith, none, is.0)))

    -- a search goes through them up to the counter
    pub added_from-held : (most c : ℕ) → c ≤ counter s cs word → counter s cs word ≤ c + most
        → added_from f word_keys (finmap.get additions) c most ≡ Some (drop c (added_list s cs word))
    added_from-held zero c low high = ap (λ xs. Some xs) (sym (drop_of_length-le (added_list s cs word) (omega (arith, high))))
    added_from-held (suc most) c low high =
        let rest = added_from f word_keys (finmap.get additions) (c + 1) most in
        ⊎_elim
        (λ (below : c < counter s cs word).
        let next : c + 1 ≡ suc c = omega arith in
        ap (λ cell. added_at f word_keys c cell rest) (held.there word c below)
        ∙ decrypted c (slice_index (added_list s cs word) c) rest (at_place IsIdentifier (added_list s cs word) c 0 (added_are_identifiers s word cs sized) below)
        ∙ ap (option_map (λ more. slice_index (added_list s cs word) c ∷ more)) (added_from-held most (c + 1) (omega (arith, below)) (omega (arith, high)))
        ∙ ap (λ n. Some (slice_index (added_list s cs word) c ∷ drop n (added_list s cs word))) next
        ∙ ap (λ xs. Some xs) (sym (drop-cons (added_list s cs word) c 0 below)))
        (λ (end : counter s cs word ≤ c).
        let same : counter s cs word ≡ c = omega (arith, low, end) in
        ap (λ cell. added_at f word_keys c cell rest) (ap (λ (n : ℕ). finmap.get additions (t (name o.epoch word PlusLabel n))) (sym same) ∙ at_last)
        ∙ ap (λ xs. Some xs) (sym (drop_of_length-le (added_list s cs word) end)))
        (cases_lt c (counter s cs word))

  -- The revoked numbers.

  module _ (revoked : NumberSet) (held : HoldsRevoked t o.epoch s cs revoked) where
    alike : (id : ℕ) → Contains (setup_list s word ++ added_list s cs word) id
        → not (set.contains revoked (t (name o.epoch word Revocation id))) ≡ is_live_with s cs word id
    alike id within =
        ⊎_elim
        (λ (living : is_live_with s cs word id ≡ true).
        ap not
        (false_from_ne_true (set.contains revoked (t (name o.epoch word Revocation id))) (λ inside.
        let pair = held.only (t (name o.epoch word Revocation id)) inside in
        let one = free (name o.epoch word Revocation id) (name o.epoch pair.word Revocation pair.id) (number_looked_up id within)
        (is_drawn (name o.epoch pair.word Revocation pair.id) (sent_is_drawn o s pair.word pair.id cs accepted (listed_dead_was_sent s pair.word pair.id cs pair.listed pair.dead))) refl refl refl pair.same in
        true≢false (sym living ∙ ap (λ (n : Name). is_live_with s cs n.word n.number) one ∙ pair.dead)))
        ∙ sym living)
        (λ (dead : is_live_with s cs word id ≡ false).
        ap not (held.there word id (is_listed-lists s word id cs ∙ among_itself (setup_list s word ++ added_list s cs word) id within) dead) ∙ sym dead)
        (cases_Bool (is_live_with s cs word id))

    -- what a server shows of the listed identifiers is what is live
    pub unrevoked-held : unrevoked f word_keys (set.contains revoked) (setup_list s word ++ added_list s cs word) ≡ live.shown s cs word
    unrevoked-held =
        filter-alike (λ id. not (set.contains revoked (revocation f word_keys.revocation_key id))) (is_live_with s cs word) (setup_list s word ++ added_list s cs word)
        (AllByRecursion-from_members (λ id. not (set.contains revoked (t (name o.epoch word Revocation id))) ≡ is_live_with s cs word id) (setup_list s word ++ added_list s cs word) alike)

  -- All of it.

  pub searched-held : (cell : List ℕ → Option (List ℕ)) (array : List (List ℕ)) (additions : CellMap) (revoked : NumberSet) → setup_ids f word_keys cell array ≡ Some (setup_list s word)
      → HoldsAdditions t o.epoch s cs additions → HoldsRevoked t o.epoch s cs revoked
      → searched f word_keys cell array (finmap.get additions) (finmap.len additions) (set.contains revoked) ≡ Some (live.shown s cs word)
  searched-held cell array additions revoked setup added dead =
      let all = λ (first later : List ℕ). unrevoked f word_keys (set.contains revoked) (first ++ later) in
      ap (option_and_then (λ first. option_map (all first) (added_from f word_keys (finmap.get additions) 0 (finmap.len additions)))) setup
      ∙ ap (option_map (all (setup_list s word))) (added_from-held additions added (finmap.len additions) 0 (omega arith) (omega (arith, added.enough word)))
      ∙ ap (λ ids. Some ids) (unrevoked-held revoked dead)
