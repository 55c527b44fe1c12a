-- The words that a history names: a renewal of the key brings no new ones, as it sets up what is live.
use Rattle.std.proofs.Common.{◌≡◌, ◌||◌, ℕ, Bool, true, false, List, [], ◌∷◌, ◌++◌, nat_le, refl, sym, ap, ◌∙◌, append_assoc}
use Rattle.std.specs.List.{AllByRecursion, list_any}
use Rattle.std.specs.Prelude.{◌==◌, Some, bytes_eq, filter, flat_map, not, if◌then◌else◌}
use Rattle.std.proofs.lemmas.Cmp.{nat_list_eq_equiv}
use Rattle.std.proofs.lemmas.List.{append-nil}
use Rattle.std.proofs.lemmas.List.Concat.{flat_map-append}
use Rattle.client_registry.proofs.DistinctLaws.{list_any-first_seen}
use Rattle.client_registry.specs.Command.{Command, Add, Delete, Search}
use Rattle.client_registry.specs.Document.{Document}
use Rattle.client_registry.specs.Documents.{all_words, first_seen}
use Rattle.client_registry.specs.Epochs.{by_id, insert_by_id, joined, next_begins, with_renewal}
use Rattle.client_registry.specs.Live.{live}
use Rattle.client_registry.specs.Run.{Run, Offsets, Epochs, From, Renewed, last_run}
use Rattle.client_registry.specs.Sized.{words_named}
use Rattle.leakage_history.proofs.FirstSeen.{first_seen-again, first_seen-push}
use Rattle.script_history.specs.Reads.{words_in}

-- what a run names
abbrev pub named : List ℕ → Offsets → Run → List (List ℕ)
named key o run = all_words run.setup.documents ++ flat_map words_named run.later

pub named-longer : (key : List ℕ) (o : Offsets) (run : Run) (commands : List Command) → named key o (record { setup = run.setup; later = run.later ++ commands }) ≡ named key o run ++ flat_map words_named commands
named-longer key o run commands =
    ap (λ words. all_words run.setup.documents ++ words) (flat_map-append words_named run.later commands)
    ∙ sym (append_assoc (all_words run.setup.documents) (flat_map words_named run.later) (flat_map words_named commands))

-- Words that stand among others.

abbrev AreAmong : (known words : List (List ℕ)) → Type 0
AreAmong known words = AllByRecursion (λ word. list_any (bytes_eq word) known ≡ true) words

or_there : (x y : Bool) → y ≡ true → (x || y) ≡ true
or_there true y e = refl
or_there false y e = e

among-further : (word : List ℕ) (before known : List (List ℕ)) → list_any (bytes_eq word) known ≡ true → list_any (bytes_eq word) (before ++ known) ≡ true
among-further word [] known e = e
among-further word (w ∷ before) known e = or_there (bytes_eq word w) (list_any (bytes_eq word) (before ++ known)) (among-further word before known e)

further : (before known words : List (List ℕ)) → AreAmong known words → AreAmong (before ++ known) words
further before known [] h = tt
further before known (word ∷ words) h = (among-further word before known h.0, further before known words h.1)

themselves : (words : List (List ℕ)) → AreAmong words words
themselves [] = tt
themselves (word ∷ words) = (ap (λ b. b || list_any (bytes_eq word) words) (nat_list_eq_equiv.refl word), further (word ∷ []) words words (themselves words))

module _ (known : List (List ℕ)) where
  both : (xs ys : List (List ℕ)) → AreAmong known xs → AreAmong known ys → AreAmong known (xs ++ ys)
  both [] ys h more = more
  both (x ∷ xs) ys h more = (h.0, both xs ys h.1 more)

  front : (xs ys : List (List ℕ)) → AreAmong known (xs ++ ys) → AreAmong known xs
  front [] ys h = tt
  front (x ∷ xs) ys h = (h.0, front xs ys h.1)

  behind : (xs ys : List (List ℕ)) → AreAmong known (xs ++ ys) → AreAmong known ys
  behind [] ys h = h
  behind (x ∷ xs) ys h = behind xs ys h.1

  -- The words of documents.

  abbrev HaveTheirs : List Document → Type 0
  HaveTheirs docs = AllByRecursion (λ (d : Document). AreAmong known d.words) docs

  of_words : (docs : List Document) → AreAmong known (all_words docs) → HaveTheirs docs
  of_words [] h = tt
  of_words (d ∷ docs) h = (front d.words (all_words docs) h, of_words docs (behind d.words (all_words docs) h))

  to_words : (docs : List Document) → HaveTheirs docs → AreAmong known (all_words docs)
  to_words [] h = tt
  to_words (d ∷ docs) h = both d.words (all_words docs) h.0 (to_words docs h.1)

  one_more : (docs : List Document) (d : Document) → HaveTheirs docs → AreAmong known d.words → HaveTheirs (docs ++ d ∷ [])
  one_more [] d h one = (one, tt)
  one_more (e ∷ docs) d h one = (h.0, one_more docs d h.1 one)

  some_less : (p : Document → Bool) (docs : List Document) → HaveTheirs docs → HaveTheirs (filter p docs)
  some_less p [] h = tt
  some_less p (d ∷ docs) h = by (p d) (some_less p docs h.1)
    where
      by : (b : Bool) → HaveTheirs (filter p docs) → HaveTheirs (if b then d ∷ filter p docs else filter p docs)
      by true rest = (h.0, rest)
      by false rest = rest

  -- what is live has words of the setup and of commands
  live_words : (docs : List Document) (cs : List Command) → HaveTheirs docs → AreAmong known (flat_map words_named cs) → HaveTheirs (live docs cs)
  live_words docs [] h named = h
  live_words docs (Add d ∷ cs) h named = live_words (docs ++ d ∷ []) cs (one_more docs d h (front d.words (flat_map words_named cs) named)) (behind d.words (flat_map words_named cs) named)
  live_words docs (Delete id ∷ cs) h named = live_words (filter (λ d. not (d.id == id)) docs) cs (some_less (λ d. not (d.id == id)) docs h) named
  live_words docs (Search word ∷ cs) h named = live_words docs cs h named.1

  inserted : (d : Document) (docs : List Document) → AreAmong known d.words → HaveTheirs docs → HaveTheirs (insert_by_id d docs)
  inserted d [] one h = (one, tt)
  inserted d (e ∷ docs) one h = by (nat_le d.id e.id) (inserted d docs one h.1)
    where
      by : (b : Bool) → HaveTheirs (insert_by_id d docs) → HaveTheirs (if b then d ∷ e ∷ docs else e ∷ insert_by_id d docs)
      by true rest = (one, h)
      by false rest = (h.0, rest)

  ordered : (docs : List Document) → HaveTheirs docs → HaveTheirs (by_id docs)
  ordered [] h = tt
  ordered (d ∷ docs) h = inserted d (by_id docs) h.0 (ordered docs h.1)

-- words among others aren't seen first behind them
seen-among : (known words : List (List ℕ)) → AreAmong known words → first_seen (known ++ words) ≡ first_seen known
seen-among known [] h = ap first_seen (append-nil known)
seen-among known (word ∷ words) h =
    ap first_seen (sym (append_assoc known (word ∷ []) words))
    ∙ sym (first_seen-again (known ++ word ∷ []) words)
    ∙ ap (λ ws. first_seen (ws ++ words)) (first_seen-push known word ∙ ap (λ b. if b then first_seen known else first_seen known ++ word ∷ []) (list_any-first_seen word known ∙ h.0))
    ∙ first_seen-again known words
    ∙ seen-among known words h.1

-- the last epoch's words are a history's
of_last : (key : List ℕ) (es : Epochs) → AreAmong (joined named key es) (all_words (last_run es).setup.documents ++ flat_map words_named (last_run es).later)
of_last key (From o run) = themselves (named key o run)
of_last key (Renewed before own run) = further (joined named key before) (named own (next_begins before) run) (named own (next_begins before) run) (themselves (named own (next_begins before) run))

-- a renewal brings no new words
pub words-renewed : (es : Epochs) (key : List ℕ) → words_in (Some (with_renewal key es)) ≡ words_in (Some es)
words-renewed es key =
    let known = joined named [] es in
    let run = last_run es in
    let docs = run.setup.documents in
    let theirs = of_last [] es in
    let live_ones = live_words known docs run.later (of_words known docs (front known (all_words docs) (flat_map words_named run.later) theirs)) (behind known (all_words docs) (flat_map words_named run.later) theirs) in
    let again = to_words known (by_id (live docs run.later)) (ordered known (live docs run.later) live_ones) in
    ap (λ words. first_seen (known ++ words)) (append-nil (all_words (by_id (live docs run.later)))) ∙ seen-among known (all_words (by_id (live docs run.later))) again
