-- What the simulator makes of a run's leakage and draws is the run's wire.
use Rattle.std.proofs.Common.{◌≡◌, ℕ, suc, ◌+◌, Bool, true, false, cond, not, ◌&&◌, ◌||◌, List, [], ◌∷◌, ◌++◌, length, map, filter, eqb-true, ⊎_elim, refl, sym, ap, ◌∙◌, subst, arith, append_assoc, Some, None}
use Rattle.std.specs.Prelude.{Option, bytes_eq, if◌then◌else◌, option_map, ◌==◌}
use Rattle.std.specs.List.{list_any, list_all, slice_get}
use Rattle.std.specs.Option.{option_or, option_and_then}
use Rattle.std.proofs.lemmas.Bool.{true≢false, and_parts, or_left, or_right, or_cases, and_from}
use Rattle.std.proofs.lemmas.List.{append-nil, length-map, length-append, drop_at}
use Rattle.std.proofs.lemmas.List.Elements.{filter-append}
use Rattle.std.proofs.lemmas.List.Folds.{list_any-append, list_all-append}
use Rattle.client_registry.proofs.FromEnd.{from_end}
use Rattle.client_registry.proofs.OverLaws.{over-append, length-over}
use Rattle.def_leakage.proofs.Places.{none_is_some, slice_get-append, slice_get-behind, slice_get-place_of, first_place-passes, first_place-some, earliest-push}
use Rattle.client_registry.specs.Command.{Command, Add, Delete, Search, is_update}
use Rattle.client_registry.specs.Document.{Document}
use Rattle.sse_model.specs.Drawn.{sends_number, was_sent, searches_for}
use Rattle.std.specs.Cmp.Lexicographic.{same_text}
use Rattle.def_leakage.specs.Firsts.{origin, first_place, earliest, update_words, place_where, place_of, searched_at, first_search, number_origin}
use Rattle.def_leakage.specs.CommandLeaks.{sent_at, seen_by, word_added, word_deleted, home, pair_leak, listed_pairs, leak_of_setup, leak_by, leak}
use Rattle.def_leakage.specs.DrawnValues.{draws}
use Rattle.def_leakage.proofs.Draws.{draws_of_setup, draws_by, draws-by_command}
use Rattle.client_registry.specs.Live.{live, is_listed, is_live_with, holds_pair, shown}
use Rattle.sse_model.specs.Names.{Table, name, Revocation, Token}
use Rattle.client_registry.specs.Over.{over}
use Rattle.sse_model.specs.Positions.{sealed, ranks_of, entry_positions, block_positions, addition_positions, fresh_words}
use Rattle.client_registry.specs.Run.{Run, Offsets}
use Rattle.client_registry.specs.Setup.{Setup}
use Rattle.client_registry.specs.Sized.{is_accepted, IsHistory}
use Rattle.sse_model.proofs.Counts.{length-frames_of_setup}
use Rattle.sse_model.proofs.SentNumbers.{relisted_was_sent}
use Rattle.sse_model.specs.Wire.{labels_in, words_live, frames_of_setup, frames_of, next_number, wire}
use Rattle.sse_frames.specs.Frames.{Entry, AddFrame, DeleteFrame, SearchFrame}
use Rattle.sse_frames.specs.Order.{by_bytes}
use Rattle.sse_frames.specs.SentParts.{setup_frames}
use Rattle.sse_simulator.specs.Leaks.{Origin, NewEntry, WordLeak, SearchLeak, Draw, EntryDraw, BlockDraw, NumberDraw, TokenDraw}
use Rattle.sse_simulator.specs.Simulator.{as_entry, as_block, before, first_of, Kept, Nothing, Token as TokenKept, number_of, token_of, number_kept, token_kept, is_entry, numbers_added, numbers_deleted, numbers_drawn, token_shown, frames_simulated, kept_of, Sim, sim_after, simulated_from}

-- Draws of one kind.

first_entries : (xs : List Entry) (ys : List Draw) → first_of as_entry (length xs) (map EntryDraw xs ++ ys) ≡ Some xs
first_entries [] ys = refl
first_entries (x ∷ xs) ys = ap (before (Some x)) (first_entries xs ys)

first_blocks : (xs : List Entry) → first_of as_block (length xs) (map BlockDraw xs) ≡ Some xs
first_blocks [] = refl
first_blocks (x ∷ xs) = ap (before (Some x)) (first_blocks xs)

-- The setup.

setup_simulated : (t : Table) (o : Offsets) (s : Setup) (kept : List Kept) → frames_simulated kept o.frame (leak_of_setup o.epoch s) (draws_of_setup t o.epoch s) ≡ Some (frames_of_setup t o s)
setup_simulated t o s kept =
    let made = λ (es bs : Option (List Entry)). option_and_then (λ entries. option_map (λ blocks. setup_frames o.frame s.shape entries blocks) bs) es in
    λ i. made
    ((ap (λ n. first_of as_entry n (map EntryDraw entries ++ map BlockDraw blocks)) (sym (length-map (entry_positions o.epoch s) (sealed t ranks))) ∙ first_entries entries (map BlockDraw blocks)) i)
    (((λ j. first_of as_block (sym (length-map (block_positions o.epoch s) (sealed t ranks)) j) (drop_at (map EntryDraw entries) (map BlockDraw blocks) (length (entry_positions o.epoch s)) (length-map entries EntryDraw ∙ length-map (entry_positions o.epoch s) (sealed t ranks)) j)) ∙ first_blocks blocks) i)
  where
    ranks : List ℕ
    ranks = ranks_of (labels_in t (block_positions o.epoch s))

    entries : List Entry
    entries = map (sealed t ranks) (entry_positions o.epoch s)

    blocks : List Entry
    blocks = map (sealed t ranks) (block_positions o.epoch s)

abbrev are_accepted : Setup → List Command → Type 0
are_accepted s past = list_all (λ accepted. accepted) (over (is_accepted s) [] past) ≡ true

module _ (t : Table) (o : Offsets) (s : Setup) where
  abbrev value : List ℕ → ℕ → List ℕ
  value word id = t (name o.epoch word Revocation id)

  abbrev number_draw : ℕ → List ℕ → Draw
  number_draw id word = NumberDraw (value word id)

  pub unsent : (past : List Command) (word : List ℕ) (id : ℕ) → number_origin o s past word id ≡ None → was_sent s past word id ≡ false
  unsent past word id e = first_place-passes word (sends_number s word id) (update_words s) (o.command + 1) [] past e

  pub sent : (past : List Command) (word : List ℕ) (id : ℕ) (first : Origin) → number_origin o s past word id ≡ Some first → was_sent s past word id ≡ true
  sent past word id first e = first_place-some word (sends_number s word id) (update_words s) (o.command + 1) [] past first e

  -- the numbers of a deletion, in the order of its words, where those that were sent are kept
  deleted : (kept : List Kept) (past : List Command) (id : ℕ)
      → ((word : List ℕ) (first : Origin) → number_origin o s past word id ≡ Some first → number_kept kept first ≡ Some (value word id))
      → (words : List (List ℕ))
      → numbers_deleted kept (map (word_deleted o s past id) words) (map (number_draw id) (filter (λ word. not (was_sent s past word id)) words)) ≡ Some (map (λ word. value word id) words)
  deleted kept past id given [] = refl
  deleted kept past id given (w ∷ ws) = by (number_origin o s past w id) (was_sent s past w id) refl refl (deleted kept past id given ws)
    where
      fresh : List (List ℕ)
      fresh = filter (λ word. not (was_sent s past word id)) ws

      by : (m : Option Origin) (b : Bool) → number_origin o s past w id ≡ m → was_sent s past w id ≡ b
          → numbers_deleted kept (map (word_deleted o s past id) ws) (map (number_draw id) fresh) ≡ Some (map (λ word. value word id) ws)
          → numbers_deleted kept (record { sent = sent_at m; seen = seen_by id (first_search o past w) } ∷ map (word_deleted o s past id) ws) (map (number_draw id) (cond (not b) (w ∷ fresh) fresh))
          ≡ Some (map (λ word. value word id) (w ∷ ws))
      by None true none was had = absurd (true≢false (sym was ∙ unsent past w id none))
      by None false none was had = ap (before (Some (value w id))) had
      by (Some first) true some was had = λ i. before (given w first some i) (had i)
      by (Some first) false some was had = absurd (true≢false (sym (sent past w id first some) ∙ was))

  -- what is kept of it
  fresh_kept : (past : List Command) (id : ℕ) (words : List (List ℕ))
      → numbers_drawn (map (word_deleted o s past id) words) (map (number_draw id) (filter (λ word. not (was_sent s past word id)) words))
      ≡ map (λ word. if was_sent s past word id then None else Some (value word id)) words
  fresh_kept past id [] = refl
  fresh_kept past id (w ∷ ws) = by (number_origin o s past w id) (was_sent s past w id) refl refl (fresh_kept past id ws)
    where
      fresh : List (List ℕ)
      fresh = filter (λ word. not (was_sent s past word id)) ws

      rest : List (Option (List ℕ))
      rest = map (λ word. if was_sent s past word id then None else Some (value word id)) ws

      by : (m : Option Origin) (b : Bool) → number_origin o s past w id ≡ m → was_sent s past w id ≡ b
          → numbers_drawn (map (word_deleted o s past id) ws) (map (number_draw id) fresh) ≡ rest
          → numbers_drawn (record { sent = sent_at m; seen = seen_by id (first_search o past w) } ∷ map (word_deleted o s past id) ws) (map (number_draw id) (cond (not b) (w ∷ fresh) fresh))
          ≡ (if b then None else Some (value w id)) ∷ rest
      by None true none was had = absurd (true≢false (sym was ∙ unsent past w id none))
      by None false none was had = ap (λ more. Some (value w id) ∷ more) had
      by (Some first) true some was had = ap (λ more. None ∷ more) had
      by (Some first) false some was had = absurd (true≢false (sym (sent past w id first some) ∙ was))

  -- What is kept.

  abbrev kept_by : List Command → Command → Kept
  kept_by past c = kept_of (leak_by o s past c) (draws_by t o.epoch s past c)

  abbrev kepts : List Kept → List Command → List Kept
  kepts earlier past = (earlier ++ Nothing ∷ []) ++ over kept_by [] past

  kepts-push : (earlier : List Kept) (past : List Command) (c : Command) → kepts earlier (past ++ c ∷ []) ≡ kepts earlier past ++ kept_by past c ∷ []
  kepts-push earlier past c =
      ap (λ more. (earlier ++ Nothing ∷ []) ++ more) (over-append kept_by [] past (c ∷ []))
      ∙ sym (append_assoc (earlier ++ Nothing ∷ []) (over kept_by [] past) (kept_by past c ∷ []))

  length-kepts : (earlier : List Kept) → length earlier ≡ o.command → (past : List Command) → length (kepts earlier past) ≡ o.command + 1 + length past
  length-kepts earlier count past =
      omega (arith, count, length-append (earlier ++ Nothing ∷ []) (over kept_by [] past), length-append earlier (Nothing ∷ []), length-over kept_by [] past)

  number_kept-more : (kept : List Kept) (k : Kept) (first : Origin) (number : List ℕ) → number_kept kept first ≡ Some number → number_kept (kept ++ k ∷ []) first ≡ Some number
  number_kept-more kept k first number e = by (slice_get kept first.command) refl
    where
      by : (m : Option Kept) → slice_get kept first.command ≡ m → number_kept (kept ++ k ∷ []) first ≡ Some number
      by None is = none_is_some number (ap (option_and_then (number_of first.place)) (sym is) ∙ e)
      by (Some x) is = ap (option_and_then (number_of first.place)) (slice_get-append kept (k ∷ []) first.command x is ∙ sym is) ∙ e

  number_kept-last : (kept : List Kept) (k : Kept) (command place : ℕ) (number : List ℕ) → length kept ≡ command → number_of place k ≡ Some number → number_kept (kept ++ k ∷ []) (origin command place) ≡ Some number
  number_kept-last kept k command place number count e =
      ap (λ n. option_and_then (number_of place) (slice_get (kept ++ k ∷ []) n)) (sym count) ∙ ap (option_and_then (number_of place)) (slice_get-behind kept k) ∙ e

  -- a document of the identifier that holds the word has it among its live words
  live_word : (docs : List Document) (word : List ℕ) (id : ℕ) → holds_pair docs word id ≡ true → list_any (bytes_eq word) (words_live docs id) ≡ true
  live_word [] word id h = absurd (true≢false (sym h))
  live_word (d ∷ docs) word id h =
      list_any-append (bytes_eq word) (if d.id == id then d.words else []) (words_live docs id)
      ∙ by (d.id == id) (live_word docs word id) h
    where
      by : (b : Bool) → (holds_pair docs word id ≡ true → list_any (bytes_eq word) (words_live docs id) ≡ true) → ((b && list_any (bytes_eq word) d.words) || holds_pair docs word id) ≡ true
          → (list_any (bytes_eq word) (if b then d.words else []) || list_any (bytes_eq word) (words_live docs id)) ≡ true
      by false had h = had h
      by true had h =
          ⊎_elim (λ here. or_left (list_any (bytes_eq word) d.words) (list_any (bytes_eq word) (words_live docs id)) here)
          (λ rest. or_right (list_any (bytes_eq word) d.words) (list_any (bytes_eq word) (words_live docs id)) (had rest))
          (or_cases (list_any (bytes_eq word) d.words) (holds_pair docs word id) h)

  are_accepted-push : (xs : List Command) (x : Command) → are_accepted s (xs ++ x ∷ []) → are_accepted s xs × (is_accepted s xs x ≡ true)
  are_accepted-push xs x accepted =
      let split : (list_all (λ accepted. accepted) (over (is_accepted s) [] xs) && (is_accepted s xs x && true)) ≡ true =
      sym (ap (list_all (λ accepted. accepted)) (over-append (is_accepted s) [] xs (x ∷ [])) ∙ list_all-append (λ accepted. accepted) (over (is_accepted s) [] xs) (is_accepted s xs x ∷ [])) ∙ accepted in
      let parts = and_parts (list_all (λ accepted. accepted) (over (is_accepted s) [] xs)) (is_accepted s xs x && true) split in
      (parts.0, (and_parts (is_accepted s xs x) true parts.1).0)

  -- the number that was first sent somewhere is kept there
  number_found : (earlier : List Kept) → length earlier ≡ o.command → (word : List ℕ) (id : ℕ) (past : List Command) → are_accepted s past → (first : Origin)
      → number_origin o s past word id ≡ Some first → number_kept (kepts earlier past) first ≡ Some (value word id)
  number_found earlier count word id =
      from_end (λ past. are_accepted s past → (first : Origin) → number_origin o s past word id ≡ Some first → number_kept (kepts earlier past) first ≡ Some (value word id))
      (λ accepted first e. none_is_some first e) push
    where
      push : (xs : List Command) (x : Command) → (are_accepted s xs → (first : Origin) → number_origin o s xs word id ≡ Some first → number_kept (kepts earlier xs) first ≡ Some (value word id))
          → are_accepted s (xs ++ x ∷ []) → (first : Origin) → number_origin o s (xs ++ x ∷ []) word id ≡ Some first → number_kept (kepts earlier (xs ++ x ∷ [])) first ≡ Some (value word id)
      push xs x had accepted first e =
          ap (λ kept. number_kept kept first) (kepts-push earlier xs x)
          ∙ by (number_origin o s xs word id) refl (sym (earliest-push o (λ before c. place_where (sends_number s word id before c) word (update_words s before c)) xs x) ∙ e)
        where
          ok : are_accepted s xs × (is_accepted s xs x ≡ true)
          ok = are_accepted-push xs x accepted

          here : (c : Command) → is_accepted s xs c ≡ true → was_sent s xs word id ≡ false → (b : Bool) → sends_number s word id xs c ≡ b
              → option_map (origin (o.command + 1 + length xs)) (place_where b word (update_words s xs c)) ≡ Some first
              → number_kept (kepts earlier xs ++ kept_by xs c ∷ []) first ≡ Some (value word id)
          here c ok none false sends is = none_is_some first is
          here (Search other) ok none true sends is = absurd (true≢false (sym sends))
          here (Add d) ok none true sends is =
              let parts = and_parts (d.id == id && list_any (bytes_eq word) d.words) (is_listed s xs word id) sends in
              let same : d.id ≡ id = eqb-true d.id id (and_parts (d.id == id) (list_any (bytes_eq word) d.words) parts.0).0 in
              let before_now : was_sent s xs word id ≡ true =
              subst (λ (n : ℕ). was_sent s xs word n ≡ true) same (relisted_was_sent s xs d word ok (ap (is_listed s xs word) same ∙ parts.1)) in
              absurd (true≢false (sym before_now ∙ none))
          here (Delete other) ok none true sends is =
              let parts = and_parts (other == id) (is_live_with s xs word id) sends in
              let same : other ≡ id = eqb-true other id parts.0 in
              let g = λ (w : List ℕ). if was_sent s xs w other then None else Some (value w other) in
              let words = words_live (live s.documents xs) other in
              let within : list_any (bytes_eq word) words ≡ true =
              live_word (live s.documents xs) word other (ap (holds_pair (live s.documents xs) word) same ∙ parts.1) in
              let stands : number_of (place_of word words) (kept_by xs (Delete other)) ≡ Some (value word id) =
              ap (λ numbers. option_and_then (λ number. number) (slice_get numbers (place_of word words))) (fresh_kept xs other words)
              ∙ ap (option_and_then (λ number. number)) (slice_get-place_of g word words within)
              ∙ ap (λ b. if b then None else Some (value word other)) (ap (was_sent s xs word) same ∙ none)
              ∙ ap (λ n. Some (value word n)) same in
              ap (number_kept (kepts earlier xs ++ kept_by xs (Delete other) ∷ [])) (inside first (origin (o.command + 1 + length xs) (place_of word words)) is)
              ∙ number_kept-last (kepts earlier xs) (kept_by xs (Delete other)) (o.command + 1 + length xs) (place_of word words) (value word id) (length-kepts earlier count xs) stands
            where
              inside : (a b : Origin) → Some b ≡ Some a → a ≡ b
              inside a b e = cc

          by : (m : Option Origin) → number_origin o s xs word id ≡ m
              → option_or m (option_map (origin (o.command + 1 + length xs)) (place_where (sends_number s word id xs x) word (update_words s xs x))) ≡ Some first
              → number_kept (kepts earlier xs ++ kept_by xs x ∷ []) first ≡ Some (value word id)
          by (Some old) was is = number_kept-more (kepts earlier xs) (kept_by xs x) first (value word id) (had ok.0 first (was ∙ is))
          by None was is = here x ok.1 (unsent xs word id was) (sends_number s word id xs x) refl is

  -- Additions.

  -- an entry for each word whose pair isn't listed
  pub entries_counted : (past : List Command) (d : Document) (words : List (List ℕ)) → length (filter is_entry (map (word_added o s past d.id) words)) ≡ length (filter (λ word. not (is_listed s past word d.id)) words)
  entries_counted past d [] = refl
  entries_counted past d (w ∷ ws) = by (is_listed s past w d.id) (number_origin o s past w d.id) (entries_counted past d ws)
    where
      rest : List WordLeak
      rest = filter is_entry (map (word_added o s past d.id) ws)

      fresh : List (List ℕ)
      fresh = filter (λ word. not (is_listed s past word d.id)) ws

      by : (b : Bool) (m : Option Origin) → length rest ≡ length fresh
          → length (cond (is_entry (record { sent = if b then sent_at m else NewEntry; seen = seen_by d.id (first_search o past w) })) (record { sent = if b then sent_at m else NewEntry; seen = seen_by d.id (first_search o past w) } ∷ rest) rest)
          ≡ length (cond (not b) (w ∷ fresh) fresh)
      by true None had = had
      by true (Some first) had = had
      by false m had = ap (λ (n : ℕ). suc n) had

  -- the number of each word whose pair is
  numbers_known : (kept : List Kept) (past : List Command) (d : Document) → is_accepted s past (Add d) ≡ true
      → ((word : List ℕ) (first : Origin) → number_origin o s past word d.id ≡ Some first → number_kept kept first ≡ Some (value word d.id))
      → (words : List (List ℕ))
      → numbers_added kept (map (word_added o s past d.id) words) ≡ Some (map (λ word. value word d.id) (filter (λ word. is_listed s past word d.id) words))
  numbers_known kept past d ok given [] = refl
  numbers_known kept past d ok given (w ∷ ws) = by (is_listed s past w d.id) (number_origin o s past w d.id) refl refl (numbers_known kept past d ok given ws)
    where
      listed : List (List ℕ)
      listed = filter (λ word. is_listed s past word d.id) ws

      by : (b : Bool) (m : Option Origin) → is_listed s past w d.id ≡ b → number_origin o s past w d.id ≡ m
          → numbers_added kept (map (word_added o s past d.id) ws) ≡ Some (map (λ word. value word d.id) listed)
          → numbers_added kept (record { sent = if b then sent_at m else NewEntry; seen = seen_by d.id (first_search o past w) } ∷ map (word_added o s past d.id) ws)
          ≡ Some (map (λ word. value word d.id) (cond b (w ∷ listed) listed))
      by true None is none had = absurd (true≢false (sym (relisted_was_sent s past d w ok is) ∙ unsent past w d.id none))
      by true (Some first) is some had = λ i. before (given w first some i) (had i)
      by false m is was had = had

  -- Searches.

  pub searched_before : (word : List ℕ) (k : ℕ) (past xs : List Command) → first_place k (over (searched_at word) past xs) ≡ None → list_any (searches_for word) xs ≡ false
  searched_before word k past [] e = refl
  searched_before word k past (x ∷ xs) e = by (searched_before word (k + 1) (past ++ x ∷ []) xs) (searches_for word x) e
    where
      by : (first_place (k + 1) (over (searched_at word) (past ++ x ∷ []) xs) ≡ None → list_any (searches_for word) xs ≡ false) → (b : Bool)
          → first_place k ((if b then Some 0 else None) ∷ over (searched_at word) (past ++ x ∷ []) xs) ≡ None → (b || list_any (searches_for word) xs) ≡ false
      by had true e = none_is_some (origin k 0) (sym e)
      by had false e = had e

  pub searched_some : (word : List ℕ) (k : ℕ) (past xs : List Command) (first : Origin) → first_place k (over (searched_at word) past xs) ≡ Some first → list_any (searches_for word) xs ≡ true
  searched_some word k past [] first e = none_is_some first e
  searched_some word k past (x ∷ xs) first e = by (searched_some word (k + 1) (past ++ x ∷ []) xs first) (searches_for word x) e
    where
      by : (first_place (k + 1) (over (searched_at word) (past ++ x ∷ []) xs) ≡ Some first → list_any (searches_for word) xs ≡ true) → (b : Bool)
          → first_place k ((if b then Some 0 else None) ∷ over (searched_at word) (past ++ x ∷ []) xs) ≡ Some first → (b || list_any (searches_for word) xs) ≡ true
      by had true e = refl
      by had false e = had e

  abbrev token : List ℕ → List ℕ
  token word = t (name o.epoch word Token 0)

  abbrev searched : List ℕ → List Command → Option Origin
  searched word past = earliest o (searched_at word) past

  -- the token that was first sent by a command is kept there
  token_found : (earlier : List Kept) → length earlier ≡ o.command → (word : List ℕ) (past : List Command) (first : Origin) → searched word past ≡ Some first → token_kept (kepts earlier past) first.command ≡ Some (token word)
  token_found earlier count word = from_end (λ past. (first : Origin) → searched word past ≡ Some first → token_kept (kepts earlier past) first.command ≡ Some (token word)) (λ first e. none_is_some first e) push
    where
      push : (xs : List Command) (x : Command) → ((first : Origin) → searched word xs ≡ Some first → token_kept (kepts earlier xs) first.command ≡ Some (token word))
          → (first : Origin) → searched word (xs ++ x ∷ []) ≡ Some first → token_kept (kepts earlier (xs ++ x ∷ [])) first.command ≡ Some (token word)
      push xs x had first e =
          ap (λ kept. token_kept kept first.command) (kepts-push earlier xs x)
          ∙ by (searched word xs) refl (sym (earliest-push o (searched_at word) xs x) ∙ e)
        where
          more : (k : Kept) → token_kept (kepts earlier xs) first.command ≡ Some (token word) → token_kept (kepts earlier xs ++ k ∷ []) first.command ≡ Some (token word)
          more k e = go (slice_get (kepts earlier xs) first.command) refl
            where
              go : (m : Option Kept) → slice_get (kepts earlier xs) first.command ≡ m → token_kept (kepts earlier xs ++ k ∷ []) first.command ≡ Some (token word)
              go None is = none_is_some (token word) (ap (option_and_then token_of) (sym is) ∙ e)
              go (Some y) is = ap (option_and_then token_of) (slice_get-append (kepts earlier xs) (k ∷ []) first.command y is ∙ sym is) ∙ e

          here : (c : Command) → searched word xs ≡ None → (b : Bool) → searches_for word c ≡ b → option_map (origin (o.command + 1 + length xs)) (if b then Some 0 else None) ≡ Some first
              → token_kept (kepts earlier xs ++ kept_by xs c ∷ []) first.command ≡ Some (token word)
          here c none false sends is = none_is_some first is
          here (Add d) none true sends is = absurd (true≢false (sym sends))
          here (Delete id) none true sends is = absurd (true≢false (sym sends))
          here (Search other) none true sends is =
              let same : word ≡ other = same_text word other (sym sends) in
              let first_now : searched other xs ≡ None = subst (λ w. searched w xs ≡ None) same none in
              let kept_is : kept_by xs (Search other) ≡ TokenKept (token word) =
              (λ i. kept_of (SearchLeak (option_map (λ found. found.command) (first_now i)) (home s other) (map (pair_leak o s xs other) (listed_pairs o s xs other)) (shown s xs other))
              (if searched_before other (o.command + 1) [] xs first_now i then [] else TokenDraw (token other) ∷ []))
              ∙ ap (λ w. TokenKept (token w)) (sym same) in
              ap (λ origin. token_kept (kepts earlier xs ++ kept_by xs (Search other) ∷ []) origin.command) (inside first (origin (o.command + 1 + length xs) 0) is)
              ∙ ap (λ n. option_and_then token_of (slice_get (kepts earlier xs ++ kept_by xs (Search other) ∷ []) n)) (sym (length-kepts earlier count xs))
              ∙ ap (option_and_then token_of) (slice_get-behind (kepts earlier xs) (kept_by xs (Search other)))
              ∙ ap token_of kept_is
            where
              inside : (a b : Origin) → Some b ≡ Some a → a ≡ b
              inside a b e = cc

          by : (m : Option Origin) → searched word xs ≡ m → option_or m (option_map (origin (o.command + 1 + length xs)) (if searches_for word x then Some 0 else None)) ≡ Some first
              → token_kept (kepts earlier xs ++ kept_by xs x ∷ []) first.command ≡ Some (token word)
          by (Some old) was is = more (kept_by xs x) (had first (was ∙ is))
          by None was is = here x was (searches_for word x) refl is

  token_sent : (earlier : List Kept) → length earlier ≡ o.command → (past : List Command) (word : List ℕ)
      → token_shown (kepts earlier past) (first_search o past word) (if list_any (searches_for word) past then [] else TokenDraw (token word) ∷ []) ≡ Some (token word)
  token_sent earlier count past word = by (searched word past) refl
    where
      by : (m : Option Origin) → searched word past ≡ m → token_shown (kepts earlier past) (option_map (λ found. found.command) (searched word past)) (if list_any (searches_for word) past then [] else TokenDraw (token word) ∷ []) ≡ Some (token word)
      by None is = λ i. token_shown (kepts earlier past) (option_map (λ found. found.command) (is i)) (if searched_before word (o.command + 1) [] past is i then [] else TokenDraw (token word) ∷ [])
      by (Some first) is = ap (λ m. token_shown (kepts earlier past) (option_map (λ found. found.command) m) (if list_any (searches_for word) past then [] else TokenDraw (token word) ∷ [])) is ∙ token_found earlier count word past first is

  -- One command.

  simulated : (earlier : List Kept) → length earlier ≡ o.command → (q : ℕ) (past : List Command) (c : Command) → are_accepted s past → is_accepted s past c ≡ true
      → frames_simulated (kepts earlier past) q (leak_by o s past c) (draws_by t o.epoch s past c) ≡ Some (frames_of t o.epoch s q past c)
  simulated earlier count q past (Add d) accepted ok =
      let made = λ (es : Option (List Entry)) (ns : Option (List (List ℕ))). option_and_then (λ entries. option_map (λ numbers. AddFrame q (by_bytes (λ entry. entry.label) entries) (by_bytes (λ number. number) numbers) ∷ []) ns) es in
      let entries = map (sealed t []) (addition_positions o.epoch s past d) in
      let counted : length (filter is_entry (map (word_added o s past d.id) d.words)) ≡ length entries =
      omega (arith, entries_counted past d d.words, length-map (addition_positions o.epoch s past d) (sealed t []), added_count past d) in
      λ i. made
      ((ap (λ n. first_of as_entry n (map EntryDraw entries)) counted ∙ ap (first_of as_entry (length entries)) (sym (append-nil (map EntryDraw entries))) ∙ first_entries entries []) i)
      (numbers_known (kepts earlier past) past d ok (λ word first e. number_found earlier count word d.id past accepted first e) d.words i)
    where
      added_count : (past : List Command) (d : Document) → length (addition_positions o.epoch s past d) ≡ length (fresh_words s past d)
      added_count past d = length-map (fresh_words s past d) _
  simulated earlier count q past (Delete id) accepted ok =
      ap (option_map (λ numbers. DeleteFrame q (by_bytes (λ number. number) numbers) ∷ []))
      (deleted (kepts earlier past) past id (λ word first e. number_found earlier count word id past accepted first e) (words_live (live s.documents past) id))
  simulated earlier count q past (Search word) accepted ok =
      ap (option_map (λ token. SearchFrame token ∷ [])) (token_sent earlier count past word)

  -- All commands.

  -- a simulator that stands after a run's commands
  abbrev standing : List Kept → List Command → Sim
  standing earlier past = record { kept = kepts earlier past; next = next_number o s past }

  next-push : (past : List Command) (c : Command) (n : ℕ) → length (filter is_update (c ∷ [])) ≡ n → next_number o s past + n ≡ next_number o s (past ++ c ∷ [])
  next-push past c n e =
      let more : length (filter is_update (past ++ c ∷ [])) ≡ length (filter is_update past) + n =
      ap length (filter-append is_update past (c ∷ [])) ∙ length-append (filter is_update past) (filter is_update (c ∷ [])) ∙ ap (λ k. length (filter is_update past) + k) e in
      omega (arith, more)

  standing-push : (earlier : List Kept) (past : List Command) (c : Command)
      → sim_after (standing earlier past) (leak_by o s past c) (draws_by t o.epoch s past c) (frames_of t o.epoch s (next_number o s past) past c) ≡ standing earlier (past ++ c ∷ [])
  standing-push earlier past (Add d) = λ i. record { kept = sym (kepts-push earlier past (Add d)) i; next = next-push past (Add d) 1 refl i }
  standing-push earlier past (Delete id) = λ i. record { kept = sym (kepts-push earlier past (Delete id)) i; next = next-push past (Delete id) 1 refl i }
  standing-push earlier past (Search word) = λ i. record { kept = sym (kepts-push earlier past (Search word)) i; next = next-push past (Search word) 0 refl i }

  -- from a simulator that stands after a run's first commands, the leakage and the draws of the others make their frames
  pub simulated_later : (earlier : List Kept) → length earlier ≡ o.command → (past later : List Command) → are_accepted s past
      → list_all (λ accepted. accepted) (over (is_accepted s) past later) ≡ true
      → simulated_from (standing earlier past) (over (leak_by o s) past later) (over (draws_by t o.epoch s) past later)
      ≡ Some (over (λ past c. frames_of t o.epoch s (next_number o s past) past c) past later)
  simulated_later earlier count past [] accepted later_ok = refl
  simulated_later earlier count past (c ∷ later) accepted later_ok =
      let parts = and_parts (is_accepted s past c) (list_all (λ accepted. accepted) (over (is_accepted s) (past ++ c ∷ []) later)) later_ok in
      let q = next_number o s past in
      let leaks = over (leak_by o s) (past ++ c ∷ []) later in
      let drawn = over (draws_by t o.epoch s) (past ++ c ∷ []) later in
      let now : frames_simulated (kepts earlier past) q (leak_by o s past c) (draws_by t o.epoch s past c) ≡ Some (frames_of t o.epoch s q past c) = simulated earlier count q past c accepted parts.0 in
      ap (option_and_then (λ frames. before (Some frames) (simulated_from (sim_after (standing earlier past) (leak_by o s past c) (draws_by t o.epoch s past c) frames) leaks drawn))) now
      ∙ ap (λ sim. before (Some (frames_of t o.epoch s q past c)) (simulated_from sim leaks drawn)) (standing-push earlier past c)
      ∙ ap (before (Some (frames_of t o.epoch s q past c))) (simulated_later earlier count (past ++ c ∷ []) later (are_accepted-more past c accepted parts.0) parts.1)
    where
      are_accepted-more : (xs : List Command) (x : Command) → are_accepted s xs → is_accepted s xs x ≡ true → are_accepted s (xs ++ x ∷ [])
      are_accepted-more xs x accepted ok =
          ap (list_all (λ accepted. accepted)) (over-append (is_accepted s) [] xs (x ∷ []))
          ∙ list_all-append (λ accepted. accepted) (over (is_accepted s) [] xs) (is_accepted s xs x ∷ [])
          ∙ and_from (list_all (λ accepted. accepted) (over (is_accepted s) [] xs)) (is_accepted s xs x && true) accepted (and_from (is_accepted s xs x) true ok refl)

-- what the simulator makes of a history's leakage and its draws is its wire: for every table, whatever values are equal in it
pub simulate_is_wire : (t : Table) (o : Offsets) (run : Run) (earlier : List Kept) → length earlier ≡ o.command → IsHistory run
    → simulated_from (record { kept = earlier; next = o.frame }) (leak o run) (draws t o run) ≡ Some (wire t o run)
simulate_is_wire t o run earlier is history =
    let s = run.setup in
    let leaks = over (leak_by o s) [] run.later in
    let drawn = over (draws_by t o.epoch s) [] run.later in
    let first : Sim = record { kept = earlier; next = o.frame } in
    ap (λ all. simulated_from first (leak o run) all) (draws-by_command t o run)
    ∙ ap (option_and_then (λ frames. before (Some frames) (simulated_from (sim_after first (leak_of_setup o.epoch s) (draws_of_setup t o.epoch s) frames) leaks drawn))) (setup_simulated t o s earlier)
    ∙ ap (λ (sim : Sim). before (Some (frames_of_setup t o s)) (simulated_from sim leaks drawn)) (λ i. record { kept = sym (append-nil (earlier ++ Nothing ∷ [])) i; next = after i })
    ∙ ap (before (Some (frames_of_setup t o s))) (simulated_later t o s earlier is [] run.later refl history.accepted)
  where
    after : o.frame + length (frames_of_setup t o run.setup) ≡ next_number o run.setup []
    after = omega (arith, length-frames_of_setup t o run.setup)
