-- The history that a script means keeps all limits.
use Rattle.std.proofs.Common.{◌≡◌, ◌≢◌, ℕ, ◌+◌, ◌-◌, ◌^◌, ◌<◌, ◌≤◌, Bool, true, false, not, ◌&&◌, ◌||◌, List, [], ◌∷◌, length, nat_lt, refl, ap, ◌∙◌, subst, arith, ◌*◌, sym}
use Rattle.std.specs.Prelude.{◌==◌, filter, Option, None, Some, if◌then◌else◌}
use Rattle.std.specs.List.{list_all, position_from, AllByRecursion, IsDistinct}
use Rattle.std.specs.Option.{option_and_then, option_map}
use Rattle.std.proofs.lemmas.Bool.{true≢false, eqb-false, lt-ltb, ltb-false}
use Rattle.std.proofs.lemmas.List.Elements.{All-nil}
use Rattle.client_registry.proofs.HistoryLaws.{IsKept-begun, IsKept-renewed, IsKept-longer, commands_in-longer, frames_in-below, counter_in-below, accepts-add, accepts-delete, accepts-search}
use Rattle.client_registry.proofs.PushLaws.{IsCollected-push}
use Rattle.client_registry.specs.declared.faults.SizeFault.{SizeFault}
use Rattle.client_registry.specs.WordRule.{word_refusal}
use Rattle.client_registry.specs.Document.{Document}
use Rattle.client_registry.specs.DocumentRule.{IsDocument}
use Rattle.client_registry.specs.Documents.{IsCollected}
use Rattle.client_registry.specs.Acceptance.{frames_needed, size_refusal}
use Rattle.client_registry.specs.Epochs.{setup_renewed}
use Rattle.client_registry.specs.Command.{Command, Add, Delete, Search, is_update}
use Rattle.client_registry.specs.Histories.{is_set_up, longer, renewed, commands_in, is_live_in, is_listed_in, counter_in, frames_in, accepts, IsKept}
use Rattle.client_registry.specs.Run.{History, last_run}
use Rattle.client_registry.specs.Setup.{Setup, setup_with}
use Rattle.client_registry.specs.Sized.{IsSizedCommand}
use Rattle.sse_script.specs.declared.refusal.Refusal.TheVariants.{Zero, AlreadyLive, UnknownDocument, CounterFull, HistoryFull}
use Rattle.script_documents.specs.LineDocument.{document}
use Rattle.script_documents.specs.Refused.{word_refused, document_refusal}
use Rattle.script_documents.proofs.Passed.{some-none, neither, passed, word_passed, document_passed, docs_passed}
use Rattle.std.proofs.lemmas.List.{length-map}
use Rattle.bool_search.specs.Fields.{words_of}
use Rattle.def_script_meaning.proofs.QueryWords.{IsWord, words_are_words, words_few}
use Rattle.def_script_meaning.proofs.QueryLaws.{searching, longer-none, longer-twice, set_up-longer}
use Rattle.def_script_meaning.specs.Refused.{size_refused, index_refusal, frame_refusal, live_refusal, frames_refusal, renewal_refusal, counter_refusal, add_refusal, delete_refusal}
use Rattle.def_script_meaning.specs.Outcome.{Place, Outcome, opened, setup_after, outcome, after, is_refusal}
use Rattle.def_script_meaning.specs.Lines.{Request, Doc, SetupLine, AddLine, Del, Find, Query, RebuildLine, Line, Empty, Key, Command as CommandLine}
use Rattle.def_script_meaning.specs.Meaning.{follow, meant_from}
use Rattle.def_script_meaning.proofs.Outcomes.{ByCases, by_cases}
use Rattle.def_script_meaning.proofs.Renewals.{IsCollected-renewed}

index_passed : (docs : List Document) (b big pad : ℕ) → index_refusal docs b big pad ≡ None → size_refusal (setup_with docs b big pad) ≡ None
index_passed docs b big pad h = by (size_refusal (setup_with docs b big pad)) h
  where
    by : (r : Option SizeFault) → option_map size_refused r ≡ None → r ≡ None
    by None h = refl
    by (Some fault) h = absurd (some-none _ h)

size_passed : (s : Setup) → option_map size_refused (size_refusal s) ≡ None → size_refusal s ≡ None
size_passed s h = by (size_refusal s) h
  where
    by : (r : Option SizeFault) → option_map size_refused r ≡ None → r ≡ None
    by None h = refl
    by (Some fault) h = absurd (some-none _ h)

renewal_frames : (n : ℕ) → (if nat_lt (2 ^ 32 - 1) n then Some HistoryFull else None) ≡ None → n < 2 ^ 32
renewal_frames n = by (nat_lt (2 ^ 32 - 1) n) refl
  where
    by : (b : Bool) → nat_lt (2 ^ 32 - 1) n ≡ b → (if b then Some HistoryFull else None) ≡ None → n < 2 ^ 32
    by true e h = absurd (some-none _ h)
    by false e h' = let le : n ≤ 2 ^ 32 - 1 = ltb-false _ _ e in omega (arith, le)

-- no update frame is missing for one update more
frame_passed : (h : History) → frame_refusal h ≡ None → frames_in h + 1 < 2 ^ 32
frame_passed h = by (nat_lt (2 ^ 32 - 1) (frames_in h + 1)) refl
  where
    by : (b : Bool) → nat_lt (2 ^ 32 - 1) (frames_in h + 1) ≡ b → (if b then Some HistoryFull else None) ≡ None → frames_in h + 1 < 2 ^ 32
    by true e h = absurd (some-none _ h)
    by false e h' = let le : frames_in h + 1 ≤ 2 ^ 32 - 1 = ltb-false _ _ e in omega (arith, le)

-- no counter of a document that is added is full
module _ (h : History) (d : Document) (kept : IsKept h) where
  abbrev is_full : List ℕ → Bool
  is_full word = not (is_listed_in h word d.id) && (counter_in h word == 2 ^ 32 - 1)

  abbrev has_room : List ℕ → Bool
  has_room word = is_listed_in h word d.id || nat_lt (counter_in h word) (2 ^ 32 - 1)

  room : (listed : Bool) (count : ℕ) → count < 2 ^ 32 → (not listed && (count == 2 ^ 32 - 1)) ≡ false → (listed || nat_lt count (2 ^ 32 - 1)) ≡ true
  room true count below h = refl
  room false count below h = let other : count ≢ 2 ^ 32 - 1 = eqb-false count (2 ^ 32 - 1) h in lt-ltb count (2 ^ 32 - 1) (omega (arith, below, other))

  counters_from : (n : ℕ) (fields : List (List ℕ)) → option_map CounterFull (position_from is_full n fields) ≡ None → list_all has_room fields ≡ true
  counters_from n [] e = refl
  counters_from n (word ∷ later) e = by (is_full word) refl e (counters_from (n + 1) later)
    where
      by : (b : Bool) → is_full word ≡ b → option_map CounterFull (if b then Some n else position_from is_full (n + 1) later) ≡ None →
          (option_map CounterFull (position_from is_full (n + 1) later) ≡ None → list_all has_room later ≡ true) → (has_room word && list_all has_room later) ≡ true
      by true full e rest = absurd (some-none _ e)
      by false full e rest = ap (λ b. b && list_all has_room later) (room (is_listed_in h word d.id) (counter_in h word) (counter_in-below h word kept) full) ∙ rest e

  add_passed : d.id < 2 ^ 64 → is_set_up h ≡ true → add_refusal h d ≡ None → IsDocument d × (accepts h (Add d) ≡ true) × (frames_in h + 1 < 2 ^ 32)
  add_passed fits up e =
      let first = neither (document_refusal d.id d.words) _ e in
      let second = passed (is_live_in h d.id) (AlreadyLive d.id) _ first.1 in
      let third = neither (counter_refusal h d) (frame_refusal h) second.1 in (
        document_passed d.id d.words fits first.0,
        accepts-add h d up second.0 (counters_from 0 d.words third.0),
        frame_passed h third.1,
      )

delete_passed : (h : History) (id : ℕ) → is_set_up h ≡ true → delete_refusal h id ≡ None → (1 ≤ id) × (accepts h (Delete id) ≡ true) × (frames_in h + 1 < 2 ^ 32)
delete_passed h id up e =
    let first = passed (id == 0) Zero _ e in
    let second = passed (not (is_live_in h id)) (UnknownDocument id) _ first.1 in
    let some : id ≢ 0 = eqb-false id 0 first.0 in
    (omega (arith, some), accepts-delete h id up (not-false (is_live_in h id) second.0), frame_passed h second.1)
  where
    not-false : (b : Bool) → not b ≡ false → b ≡ true
    not-false true h = refl
    not-false false h = absurd (true≢false h)

-- the identifiers of a line are below 2^64
abbrev pub IsWithin : Request → Type 0
IsWithin (Doc id words) = id < 2 ^ 64
IsWithin (SetupLine b big pad) = Unit {0}
IsWithin (AddLine id words) = id < 2 ^ 64
IsWithin (Del id) = id < 2 ^ 64
IsWithin (Find word) = Unit {0}
IsWithin (Query fields) = Unit {0}
IsWithin (RebuildLine key) = Unit {0}

abbrev pub IsWithinItem : Option Line → Type 0
IsWithinItem None = Unit {0}
IsWithinItem (Some Empty) = Unit {0}
IsWithinItem (Some (Key key)) = Unit {0}
IsWithinItem (Some (CommandLine line)) = IsWithin line

-- the documents keep their limits, and so does the history, which has at most so many commands: 32 for each line before
pub record IsKeptAt (n : ℕ) (place : Place) : Type 0 where
  pub documents : IsCollected place.documents
  pub history : IsKept place.history
  pub few : commands_in place.history ≤ n

no_documents : IsCollected []
unfolding IsDistinct
no_documents = record { documents = omega arith; pairs = omega arith; different = tt; are_documents = All-nil IsDocument }

pub IsKeptAt-opened : (mark : Option (List ℕ → List ℕ)) (n : ℕ) (key : List ℕ) → IsKeptAt n (opened mark key)
IsKeptAt-opened mark n key = record { documents = no_documents; history = tt; few = omega arith }

kept_longer : (n : ℕ) (place : Place) → IsKeptAt n place → IsKeptAt (n + 32) place
kept_longer n place kept = record { documents = kept.documents; history = kept.history; few = omega (arith, kept.few) }

-- several searches of words keep the rules of a history
kept_searches : (h : History) (words : List (List ℕ)) → IsKept h → is_set_up h ≡ true → AllByRecursion IsWord words → IsKept (longer (searching words) h)
kept_searches h [] kept up each = subst IsKept (sym (longer-none h)) kept
kept_searches h (word ∷ words) kept up each =
    subst IsKept (sym (longer-twice h (Search word) (searching words)))
    (kept_searches (longer (Search word ∷ []) h) words
    (IsKept-longer h (Search word) kept each.0 (accepts-search h word up) (omega (arith, frames_in-below h kept)))
    (set_up-longer h (Search word ∷ []) up) each.1)

-- the place after a line keeps the limits
module _ (n : ℕ) (place : Place) (line : Request) (within : IsWithin line) (kept : IsKeptAt n place) where
  abbrev Kept : Outcome → Type 0
  Kept result = IsKeptAt (n + 32) (after result place)

  kept_command : (c : Command) → IsSizedCommand c × (accepts place.history c ≡ true) → frames_in place.history + length (filter is_update (c ∷ [])) < 2 ^ 32 → IsKeptAt (n + 32) (record place { history = longer (c ∷ []) place.history })
  kept_command c ok frames = record {
    documents = kept.documents;
    history = IsKept-longer place.history c kept.history ok.0 ok.1 frames;
    few = omega (arith, kept.few, commands_in-longer place.history (c ∷ []));
  }

  kept_renewal : (h : History) (key : List ℕ) → IsKept h → is_set_up h ≡ true → renewal_refusal h (setup_after h) ≡ None → commands_in h ≤ n → IsCollected place.documents
      → IsKeptAt (n + 32) (record place { history = renewed key h })
  kept_renewal None key was up e few docs = absurd (true≢false (sym up))
  kept_renewal (Some es) key was up e few docs =
      let s = setup_renewed (last_run es) in
      let first = neither (live_refusal s.documents) _ e in
      let second = neither (option_map size_refused (size_refusal s)) (frames_refusal (Some es) s) first.1 in
      let below : frames_in (Some es) + frames_needed s < 2 ^ 32 = renewal_frames (frames_in (Some es) + frames_needed s) second.1 in record {
        documents = docs;
        history = IsKept-renewed es key was (IsCollected-renewed es was.0 first.0) (size_passed s second.0) below;
        few = omega (arith, few);
      }

  cases : ByCases place line Kept
  cases = record {
    refuses = λ refusal. kept_longer n place kept;
    collects = λ id words is none e.
        let both = neither (document_refusal id words) _ e in
        let taken = docs_passed place.documents (document id words) both.1 in record {
          documents = IsCollected-push place.documents (document id words) kept.documents (document_passed id words (subst IsWithin is within) both.0) taken.new taken.documents taken.pairs;
          history = kept.history;
          few = omega (arith, kept.few);
        };
    sets_up = λ b big pad none e. record {
      documents = kept.documents;
      history = IsKept-begun (setup_with place.documents b big pad) kept.documents (index_passed place.documents b big pad e);
      few = omega arith;
    };
    adds = λ id words is up e.
        let known = add_passed place.history (document id words) kept.history (subst IsWithin is within) up e in
        kept_command (Add (document id words)) (known.0, known.1) known.2;
    deletes = λ id is up e.
        let known = delete_passed place.history id up e in
        kept_command (Delete id) ((known.0, subst IsWithin is within), known.1) known.2;
    renews = λ key up e. kept_renewal place.history key kept.history up (neither _ _ e).1 kept.few kept.documents;
    finds = λ word up e.
        kept_command (Search word) (word_passed 0 word (neither (option_and_then (word_refused 0) (word_refusal word)) None e).0, accepts-search place.history word up) (omega (arith, frames_in-below place.history kept.history));
    queries = λ fields up e. record {
      documents = kept.documents;
      history = kept_searches place.history (words_of fields) kept.history up (words_are_words fields e);
      few = omega (arith, kept.few, commands_in-longer place.history (searching (words_of fields)), length-map (words_of fields) (λ word. Search word), words_few fields e);
    };
  }

  pub kept_next : IsKeptAt (n + 32) (after (outcome place line) place)
  kept_next = by_cases place line Kept cases

-- and so does the history of all that follows
pub kept_follow : (n : ℕ) (place : Place) (number : ℕ) (lines : List (Option Line)) (refused : Bool) → AllByRecursion IsWithinItem lines → IsKeptAt n place
    → IsKept (follow place number lines refused).history × (commands_in (follow place number lines refused).history ≤ n + 32 * length lines)
kept_follow n place number [] refused within kept = (kept.history, omega (arith, kept.few))
kept_follow n place number (None ∷ lines) refused within kept = (kept.history, omega (arith, kept.few))
kept_follow n place number (Some Empty ∷ lines) refused within kept =
    let rest = kept_follow n place (number + 1) lines refused within.1 kept in (rest.0, omega (arith, rest.1))
kept_follow n place number (Some (Key key) ∷ lines) refused within kept = (kept.history, omega (arith, kept.few))
kept_follow n place number (Some (CommandLine line) ∷ lines) refused within kept =
    let rest = kept_follow (n + 32) (after (outcome place line) place) (number + 1) lines (refused || is_refusal (outcome place line)) within.1 (kept_next n place line within.0 kept) in
    (rest.0, omega (arith, rest.1))

pub kept_meant : (mark : Option (List ℕ → List ℕ)) (number : ℕ) (lines : List (Option Line)) → AllByRecursion IsWithinItem lines
    → IsKept (meant_from mark number lines).history × (commands_in (meant_from mark number lines).history ≤ 32 * length lines)
kept_meant mark number [] within = (tt, omega arith)
kept_meant mark number (None ∷ lines) within = (tt, omega arith)
kept_meant mark number (Some Empty ∷ lines) within = let rest = kept_meant mark (number + 1) lines within.1 in (rest.0, omega (arith, rest.1))
kept_meant mark number (Some (Key key) ∷ lines) within =
    let rest = kept_follow 0 (opened mark key) (number + 1) lines false within.1 (IsKeptAt-opened mark 0 key) in (rest.0, omega (arith, rest.1))
kept_meant mark number (Some (CommandLine line) ∷ lines) within = (tt, omega arith)
