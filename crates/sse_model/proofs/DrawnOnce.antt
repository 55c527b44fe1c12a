-- No run draws a name twice.
use Rattle.std.proofs.Common.{◌≡◌, ℕ, Bool, true, false, not, List, [], ◌∷◌, ◌++◌, length, map, refl, sym, ap, ◌∙◌, subst, eqb-true}
use Rattle.std.specs.Prelude.{All, flat_map, ◌==◌, bytes_eq, if◌then◌else◌}
use Rattle.std.specs.List.{list_any, list_all, IsDistinct}
use Rattle.std.proofs.lemmas.Bool.{or_parts}
use Rattle.std.proofs.lemmas.List.{append-nil, take_at}
use Rattle.std.proofs.lemmas.List.Concat.{flat_map_single}
use Rattle.std.proofs.lemmas.Slice.Eq.{bytes_eq-Decides}
use Rattle.std.proofs.lemmas.List.Elements.{All-nil, All-cons, All-head, All-tail, All-append, All-weaker, All-push, All-filter, All-take, All-contains, Contains-push}
use Rattle.client_registry.proofs.DistinctLaws.{IsDistinct-words}
use Rattle.client_registry.proofs.FromEnd.{from_end}
use Rattle.client_registry.proofs.LiveLaws.{among}
use Rattle.client_registry.proofs.OrderLaws.{AreApart, AreApart-from_IsDistinct}
use Rattle.client_registry.proofs.ShownLaws.{are_accepted, live_apart}
use Rattle.client_registry.specs.Command.{Command, Add, Delete, Search}
use Rattle.client_registry.specs.Document.{Document}
use Rattle.client_registry.specs.DocumentRule.{IsDocument}
use Rattle.client_registry.specs.Documents.{IsCollected}
use Rattle.client_registry.specs.Live.{after, live, is_listed, counter}
use Rattle.client_registry.specs.Over.{over}
use Rattle.client_registry.specs.Run.{Run, Offsets}
use Rattle.client_registry.specs.Setup.{Setup}
use Rattle.client_registry.specs.Sized.{is_accepted, IsSizedCommand, IsHistory}
use Rattle.sse_model.proofs.Apart.{All-two, IsDistinct-filter, IsDistinct-append}
use Rattle.sse_model.proofs.Collisions.{joined}
use Rattle.sse_model.proofs.Known.{is_known, is_known-kept, setup_is_known, drawn_is_unknown, drawn_is_known, plus_names, added_names-by_word, unsent_words}
use Rattle.sse_model.proofs.Prefixes.{run_of, names_of_setup}
use Rattle.sse_model.proofs.SameName.{same_name-Decides}
use Rattle.sse_model.proofs.SentNumbers.{drawn-push, are_accepted-push}
use Rattle.sse_model.proofs.SetupNames.{IsDistinct-kinds, IsDistinct-by_word, IsDistinct-names_of_setup}
use Rattle.sse_model.specs.Drawn.{was_sent, searches_for, drawn_by, drawn}
use Rattle.sse_model.specs.Names.{Token, PlusLabel, PlusPad, Revocation, Name, name, same_name}
use Rattle.sse_model.specs.Positions.{fresh_words}
use Rattle.sse_model.specs.Wire.{words_live}

-- The live documents.

-- each of them is a document that was collected or added
pub live_are_documents : (docs : List Document) (cs : List Command) → All IsDocument docs → All IsSizedCommand cs → All IsDocument (live docs cs)
live_are_documents docs [] valid sized = valid
live_are_documents docs (c ∷ cs) valid sized =
    live_are_documents (after docs c) cs (by c (All-head IsSizedCommand c cs sized)) (All-tail IsSizedCommand c cs sized)
  where
    by : (x : Command) → IsSizedCommand x → All IsDocument (after docs x)
    by (Add d) one = All-push IsDocument docs d valid one
    by (Delete id) one = All-filter (λ d. not (d.id == id)) IsDocument docs valid
    by (Search word) one = valid

-- an identifier that no document has is live with no words
words_live-none : (docs : List Document) (id : ℕ) → among id (map (λ d. d.id) docs) ≡ false → words_live docs id ≡ []
words_live-none [] id none = refl
words_live-none (d ∷ docs) id none =
    let parts = or_parts (d.id == id) (among id (map (λ (e : Document). e.id) docs)) none in
    λ i. (if parts.0 i then d.words else []) ++ words_live-none docs id parts.1 i

-- the live words of an identifier differ
pub IsDistinct-words_live : (docs : List Document) (id : ℕ) → AreApart (map (λ d. d.id) docs) → All IsDocument docs → IsDistinct bytes_eq (words_live docs id)
unfolding IsDistinct
IsDistinct-words_live [] id apart valid = tt
IsDistinct-words_live (d ∷ docs) id apart valid = by (d.id == id) refl (IsDistinct-words_live docs id apart.1 (All-tail IsDocument d docs valid))
  where
    by : (b : Bool) → (d.id == id) ≡ b → IsDistinct bytes_eq (words_live docs id) → IsDistinct bytes_eq ((if b then d.words else []) ++ words_live docs id)
    by true e h =
        let none : among id (map (λ (x : Document). x.id) docs) ≡ false = subst (λ n. among n (map (λ (x : Document). x.id) docs) ≡ false) (eqb-true d.id id e) apart.0 in
        subst (IsDistinct bytes_eq) (sym (ap (λ rest. d.words ++ rest) (words_live-none docs id none) ∙ append-nil d.words))
        (IsDistinct-words d.words (All-head IsDocument d docs valid).accepted)
    by false e h = h

-- One command.

module _ (epoch : ℕ) (s : Setup) (past : List Command) (apart : AreApart (map (λ d. d.id) (live s.documents past))) (valid : All IsDocument (live s.documents past)) where
  -- after commands that leave different documents live, a command draws no name twice
  pub IsDistinct-drawn_by : (c : Command) → IsSizedCommand c → IsDistinct same_name (drawn_by epoch s past c)
  unfolding IsDistinct
  IsDistinct-drawn_by (Add d) sized =
      subst (IsDistinct same_name) (sym (added_names-by_word epoch s past d))
      (IsDistinct-by_word (plus_names epoch s past)
      (λ word. All-two (λ n. n.word ≡ word) (name epoch word PlusLabel (counter s past word)) (name epoch word PlusPad (counter s past word)) refl refl)
      (λ word. IsDistinct-kinds (name epoch word PlusLabel (counter s past word)) (name epoch word PlusPad (counter s past word)) (λ e. cc))
      (fresh_words s past d)
      (IsDistinct-filter bytes_eq bytes_eq-Decides (λ word. not (is_listed s past word d.id)) d.words (IsDistinct-words d.words sized.accepted)))
  IsDistinct-drawn_by (Delete id) sized =
      subst (IsDistinct same_name) (flat_map_single (λ word. name epoch word Revocation id) (unsent_words s past id))
      (IsDistinct-by_word (λ word. name epoch word Revocation id ∷ [])
      (λ word. All-cons (λ n. n.word ≡ word) (name epoch word Revocation id) [] refl (All-nil (λ n. n.word ≡ word)))
      (λ word. (tt, tt)) (unsent_words s past id)
      (IsDistinct-filter bytes_eq bytes_eq-Decides (λ word. not (was_sent s past word id)) (words_live (live s.documents past) id)
      (IsDistinct-words_live (live s.documents past) id apart valid)))
  IsDistinct-drawn_by (Search word) sized = by (list_any (searches_for word) past)
    where
      by : (b : Bool) → IsDistinct same_name (if b then [] else name epoch word Token 0 ∷ [])
      by true = tt
      by false = (tt, tt)

-- All commands.

-- what is drawn has no repeats and is known
record IsDrawnOnce (o : Offsets) (s : Setup) (cs : List Command) : Type 0 where
  once : IsDistinct same_name (joined (drawn o (run_of s cs)))
  known : All (λ n. is_known s cs n ≡ true) (joined (drawn o (run_of s cs)))

module _ (o : Offsets) (s : Setup) (collected : IsCollected s.documents) where
  start : IsDrawnOnce o s []
  start =
      let alone = sym (append-nil (names_of_setup o.epoch s)) in
      record {
        once = subst (IsDistinct same_name) alone (IsDistinct-names_of_setup o.epoch s);
        known = subst (All (λ n. is_known s [] n ≡ true)) alone (setup_is_known o.epoch s);
      }

  one_more : (xs : List Command) (x : Command) → All IsSizedCommand xs → IsSizedCommand x → are_accepted s xs ≡ true → IsDrawnOnce o s xs → IsDrawnOnce o s (xs ++ x ∷ [])
  one_more xs x sized one accepted had =
      record {
        once =
            subst (IsDistinct same_name) (sym (drawn-push o s xs x))
            (IsDistinct-append same_name same_name-Decides (is_known s xs) before now had.known (drawn_is_unknown o.epoch s xs x) had.once
            (IsDistinct-drawn_by o.epoch s xs apart (live_are_documents s.documents xs collected.are_documents sized) x one));
        known =
            subst (All (λ n. is_known s (xs ++ x ∷ []) n ≡ true)) (sym (drawn-push o s xs x))
            (All-append (λ n. is_known s (xs ++ x ∷ []) n ≡ true) before now
            (All-weaker (λ n. is_known s xs n ≡ true) (λ n. is_known s (xs ++ x ∷ []) n ≡ true) (is_known-kept s xs x) before had.known)
            (drawn_is_known o.epoch s xs x));
      }
    where
      before : List Name
      before = joined (drawn o (run_of s xs))

      now : List Name
      now = drawn_by o.epoch s xs x

      apart : AreApart (map (λ d. d.id) (live s.documents xs))
      apart = live_apart s (AreApart-from_IsDistinct (map (λ d. d.id) s.documents) collected.different) xs accepted

  all : (cs : List Command) → All IsSizedCommand cs → are_accepted s cs ≡ true → IsDrawnOnce o s cs
  all = from_end (λ xs. All IsSizedCommand xs → are_accepted s xs ≡ true → IsDrawnOnce o s xs) (λ sized accepted. start) push
    where
      push : (xs : List Command) (x : Command) → (All IsSizedCommand xs → are_accepted s xs ≡ true → IsDrawnOnce o s xs)
          → All IsSizedCommand (xs ++ x ∷ []) → are_accepted s (xs ++ x ∷ []) ≡ true → IsDrawnOnce o s (xs ++ x ∷ [])
      push xs x had sized accepted =
          let front = subst (All IsSizedCommand) (take_at xs (x ∷ []) (length xs) refl) (All-take IsSizedCommand (length xs) (xs ++ x ∷ []) sized) in
          let first = (are_accepted-push s xs x accepted).0 in
          one_more xs x front (All-contains IsSizedCommand (xs ++ x ∷ []) x sized (Contains-push xs x)) first (had front first)

-- no run of collected documents and accepted commands draws a name twice
pub drawn_once : (o : Offsets) (run : Run) → IsCollected run.setup.documents → All IsSizedCommand run.later
    → list_all (λ accepted. accepted) (over (is_accepted run.setup) [] run.later) ≡ true
    → IsDistinct same_name (flat_map (λ n. n) (drawn o run))
drawn_once o run collected sized accepted = (all o run.setup collected run.later sized accepted).once

-- Promise P160 (inside): No history draws a name twice, and its frames are in the grammar and numbered in a row.
--   assumes: countable history, kept limits, no collision, sized table; not: That compared values rarely collide.
-- no history draws a name twice
pub drawn_once-history : (o : Offsets) (run : Run) → IsHistory run → IsDistinct same_name (flat_map (λ n. n) (drawn o run))
drawn_once-history o run history = drawn_once o run history.collected history.each history.accepted

-- each name that such a run draws is known after it: its counter is below the next one, its number was sent, its word was searched
pub drawn_are_known : (o : Offsets) (run : Run) → IsCollected run.setup.documents → All IsSizedCommand run.later
    → list_all (λ accepted. accepted) (over (is_accepted run.setup) [] run.later) ≡ true
    → All (λ n. is_known run.setup run.later n ≡ true) (flat_map (λ n. n) (drawn o run))
drawn_are_known o run collected sized accepted = (all o run.setup collected run.later sized accepted).known
