-- What follows a place of a script: its history begins with that of the place, a line finds no collision that the history
-- after it hasn't, the answers in its printed lines are what its searches find, and its frames stand after those that were sent.
use Rattle.std.proofs.Common.{◌≡◌, ◌≤◌, ℕ, ◌+◌, Bool, false, ◌||◌, List, [], ◌∷◌, ◌++◌, length, Some, None, refl, sym, ap, ◌∙◌, subst, arith, append_assoc}
use Rattle.std.specs.Prelude.{Option, option_map, map}
use Rattle.std.proofs.lemmas.List.{append-nil, length-map}
use Rattle.client_registry.proofs.HistoryLaws.{IsFirstOf-same, IsFirstOf-trans, IsFirstOf-before, IsFirstOf-longer, IsFirstOf-renewed, found_in_turn-before, found_in_turn-update, found_in_turn-search, found_in_turn-renewed}
use Rattle.client_registry.specs.Command.{Command, Add, Delete, Search}
use Rattle.client_registry.specs.Histories.{begun_by, IsKept, IsFirstOf, found_in_turn, longer, renewed}
use Rattle.client_registry.specs.Epochs.{next_begins, setup_renewed}
use Rattle.client_registry.specs.Run.{History, Offsets, From, Renewed, last_run, at_first}
use Rattle.client_registry.specs.Setup.{Setup, setup_with}
use Rattle.keyed_fn.specs.KeyedFn.{KeyedFn}
use Rattle.sse_frames.specs.Exchange.{searches}
use Rattle.def_agreement.proofs.NoCollision.{collision_of_first-none, collision_of_renewal-none, collision_of_next-none}
use Rattle.sse_model.proofs.ExchangeLaws.{searches-setup, searches_behind-update, searches_behind-renewal}
use Rattle.sse_model.proofs.HistoryLaws.{frames_sent-before, frames_sent-begun, frames_sent-longer, frames_sent-renewed, frames_of_next-search, collision_of_next-search}
use Rattle.sse_model.proofs.Counts.{length-frames_of_setup}
use Rattle.sse_model.specs.Histories.{frames_sent, frames_of_first, frames_of_renewal, frames_of_next, table_at, HasNoCollision}
use Rattle.sse_model.specs.Names.{Table, table}
use Rattle.sse_model.specs.Wire.{frames_of, next_number}
use Rattle.script_documents.specs.LineDocument.{document}
use Rattle.client_registry.specs.Live.{matching_in}
use Rattle.bool_search.specs.Fields.{words_of}
use Rattle.def_script_meaning.proofs.QueryLaws.{found-searches, no_updates-searches, searches-searches, collision-searches}
use Rattle.def_script_meaning.proofs.UpdatesLeft.{updates_fewer}
use Rattle.def_script_meaning.specs.Carries.{frames_by, collision_cause, clash_in_hand}
use Rattle.def_script_meaning.specs.Goes.{frames_in_hand, frames_of_last, updates_count}
use Rattle.def_script_meaning.specs.Lines as script
use Rattle.def_script_meaning.specs.Lines.{Line, Empty, Key, Request}
use Rattle.def_script_meaning.specs.Meaning.{follow, meant_from}
use Rattle.def_script_meaning.specs.Outcome.{Place, Printed, Says, Finds, Matches, Outcome, Collects, Refuses, SetsUp, Does, Renews, opened, outcome, after, shown_by, is_refusal}
use Rattle.def_script_meaning.proofs.Outcomes.{by_cases}

-- the answers in printed lines
abbrev pub finds : List Printed → List (List ℕ)
finds [] = []
finds (Says line ∷ shown) = finds shown
finds (Finds ids ∷ shown) = ids ∷ finds shown
finds (Matches fields lists ∷ shown) = lists ++ finds shown

pub finds-append : (xs ys : List Printed) → finds (xs ++ ys) ≡ finds xs ++ finds ys
finds-append [] ys = refl
finds-append (Says line ∷ xs) ys = finds-append xs ys
finds-append (Finds ids ∷ xs) ys = ap (λ rest. ids ∷ rest) (finds-append xs ys)
finds-append (Matches fields lists ∷ xs) ys = ap (λ rest. lists ++ rest) (finds-append xs ys) ∙ sym (append_assoc lists (finds xs) (finds ys))

-- one command after a history sends at most one frame, and is its last
one_command : (f : KeyedFn) (key : List ℕ) (h : History) (c : Command) → (commands : List Command) → commands ≡ c ∷ [] → length (frames_of_next f key h commands) ≤ frames_in_hand (longer commands h)
one_command f key h c commands e = subst (λ cs. length (frames_of_next f key h cs) ≤ frames_in_hand (longer cs h)) (sym e) (by h)
  where
    last : (s : Setup) (later : List Command) → 1 ≤ frames_of_last s (later ++ c ∷ [])
    last s [] = omega arith
    last s (first ∷ later) = omega arith

    one : (t : Table) (o : Offsets) (s : Setup) (past : List Command) (c : Command) → length (frames_of t o.epoch s (next_number o s past) past c ++ []) ≤ 1
    one t o s past (Add d) = omega arith
    one t o s past (Delete id) = omega arith
    one t o s past (Search word) = omega arith

    by : (h : History) → length (frames_of_next f key h (c ∷ [])) ≤ frames_in_hand (longer (c ∷ []) h)
    by None = omega arith
    by (Some (From o run)) = omega (arith, one (table_at f key run) o run.setup run.later c, last run.setup run.later)
    by (Some (Renewed before own run)) = omega (arith, one (table_at f own run) (next_begins before) run.setup run.later c, last run.setup run.later)

one_alone : (f : KeyedFn) (key : List ℕ) (h : History) (c : Command) → (commands : List Command) → commands ≡ c ∷ [] → updates_count (frames_of_next f key h commands) ≤ frames_in_hand (longer commands h)
one_alone f key h c commands e = let one = one_command f key h c commands e in omega (arith, one, updates_fewer (frames_of_next f key h commands))

-- a renewal is the last command of the history with it
one_renewal : (f : KeyedFn) (own : List ℕ) (h : History) → updates_count (frames_of_renewal f own h) ≤ frames_in_hand (renewed own h)
one_renewal f own None = omega arith
one_renewal f own (Some es) =
    let s = setup_renewed (last_run es) in
    omega (arith, updates_fewer (frames_of_renewal f own (Some es)), length-frames_of_setup (table f s.shape (λ epoch. own)) (next_begins es) s)

module _ (place : Place) (line : Request) where
  abbrev result : Outcome
  result = outcome place line

  -- One line.

  -- the history after a line begins with the one before it
  pub first-next : IsFirstOf place.history (after result place).history
  first-next = by_cases place line (λ r. IsFirstOf place.history (after r place).history) (record {
    refuses = λ refusal. IsFirstOf-same place.history;
    collects = λ id words is none e. IsFirstOf-same place.history;
    sets_up = λ b big pad none e. IsFirstOf-before place.history (begun_by (setup_with place.documents b big pad)) none;
    adds = λ id words is up e. IsFirstOf-longer place.history _;
    renews = λ key up e. IsFirstOf-renewed place.history key;
    deletes = λ id is up e. IsFirstOf-longer place.history _;
    finds = λ word up e. IsFirstOf-longer place.history _;
    queries = λ fields up e. IsFirstOf-longer place.history _;
  })

  -- what the searches before a line find, and then its own answers, is what those after it find
  pub finds-next : found_in_turn (after result place).history ≡ found_in_turn place.history ++ finds (shown_by result)
  finds-next = by_cases place line (λ r. found_in_turn (after r place).history ≡ found_in_turn place.history ++ finds (shown_by r)) (record {
    refuses = λ refusal. sym (append-nil (found_in_turn place.history));
    collects = λ id words is none e. sym (append-nil (found_in_turn place.history));
    sets_up = λ b big pad none e. sym (append-nil (found_in_turn place.history) ∙ found_in_turn-before place.history none);
    adds = λ id words is up e. found_in_turn-update place.history _ refl ∙ sym (append-nil (found_in_turn place.history));
    renews = λ key up e. found_in_turn-renewed place.history key ∙ sym (append-nil (found_in_turn place.history));
    deletes = λ id is up e. found_in_turn-update place.history _ refl ∙ sym (append-nil (found_in_turn place.history));
    finds = λ word up e. found_in_turn-search place.history word up;
    queries = λ fields up e.
        found-searches place.history (words_of fields) up ∙ ap (λ found. found_in_turn place.history ++ found) (sym (append-nil (map (matching_in place.history) (words_of fields))));
  })

  -- the frames after a line are those before it, and then its own
  pub frames-next : (f : KeyedFn) → frames_sent f place.key (after result place).history ≡ frames_sent f place.key place.history ++ frames_by f place result
  frames-next f = by_cases place line (λ r. frames_sent f place.key (after r place).history ≡ frames_sent f place.key place.history ++ frames_by f place r) (record {
    refuses = λ refusal. sym (append-nil (frames_sent f place.key place.history));
    collects = λ id words is none e. sym (append-nil (frames_sent f place.key place.history));
    sets_up = λ b big pad none e.
        frames_sent-begun f place.key (setup_with place.documents b big pad)
        ∙ ap (λ frames. frames ++ frames_of_first f place.key (setup_with place.documents b big pad)) (sym (frames_sent-before f place.key place.history none));
    adds = λ id words is up e. frames_sent-longer f place.key place.history _;
    deletes = λ id is up e. frames_sent-longer f place.key place.history _;
    finds = λ word up e. frames_sent-longer f place.key place.history _;
    queries = λ fields up e. frames_sent-longer f place.key place.history _;
    renews = λ key up e. frames_sent-renewed f place.key place.history key;
  })

  -- and are at most those of the history's last command
  pub few-next : (f : KeyedFn) → updates_count (frames_by f place result) ≤ frames_in_hand (after result place).history
  few-next f = by_cases place line (λ r. updates_count (frames_by f place r) ≤ frames_in_hand (after r place).history) (record {
    refuses = λ refusal. omega arith;
    collects = λ id words is none e. omega arith;
    sets_up = λ b big pad none e. omega (arith, updates_fewer (frames_of_first f place.key (setup_with place.documents b big pad)), length-frames_of_setup (table f (setup_with place.documents b big pad).shape (λ epoch. place.key)) at_first (setup_with place.documents b big pad));
    adds = λ id words is up e. one_alone f place.key place.history _ _ refl;
    deletes = λ id is up e. one_alone f place.key place.history _ _ refl;
    finds = λ word up e. one_alone f place.key place.history _ _ refl;
    queries = λ fields up e. omega (arith, no_updates-searches f place.key place.history (words_of fields));
    renews = λ key up e. one_renewal f key place.history;
  })

  -- a line sends as many searches as it prints answers
  pub searches-next : (f : KeyedFn) → searches (frames_by f place result) ≡ length (finds (shown_by result))
  searches-next f = by_cases place line (λ r. searches (frames_by f place r) ≡ length (finds (shown_by r))) (record {
    refuses = λ refusal. refl;
    collects = λ id words is none e. refl;
    sets_up = λ b big pad none e. searches-setup _ at_first (setup_with place.documents b big pad);
    adds = λ id words is up e. searches_behind-update f place.key place.history _ refl;
    deletes = λ id is up e. searches_behind-update f place.key place.history _ refl;
    finds = λ word up e. ap searches (frames_of_next-search f place.key place.history word up);
    queries = λ fields up e.
        searches-searches f place.key place.history (words_of fields) up
        ∙ sym (length-map (words_of fields) (matching_in place.history))
        ∙ ap length (sym (append-nil (map (matching_in place.history) (words_of fields))));
    renews = λ key up e. searches_behind-renewal f place.key place.history key;
  })

-- where the history after a line keeps the limits and has no collision, there is none in hand
pub no_clash-next : (f : KeyedFn) (place : Place) (line : Request) → IsKept (after (outcome place line) place).history → HasNoCollision f place.key (after (outcome place line) place).history
    → clash_in_hand f place (outcome place line) ≡ None
no_clash-next f place line = by_cases place line (λ r. IsKept (after r place).history → HasNoCollision f place.key (after r place).history → clash_in_hand f place r ≡ None) (record {
  refuses = λ refusal kept free. refl;
  collects = λ id words is none e kept free. refl;
  sets_up = λ b big pad none e kept free.
      ap (option_map collision_cause) (collision_of_first-none f place.key (setup_with place.documents b big pad) free);
  adds = λ id words is up e kept free. ap (option_map collision_cause) (collision_of_next-none f place.key place.history (Add (document id words)) kept free);
  deletes = λ id is up e kept free. ap (option_map collision_cause) (collision_of_next-none f place.key place.history (Delete id) kept free);
  finds = λ word up e kept free. ap (option_map collision_cause) (collision_of_next-search f place.key place.history word);
  queries = λ fields up e kept free. ap (option_map collision_cause) (collision-searches f place.key place.history (words_of fields));
  renews = λ key up e kept free. ap (option_map collision_cause) (collision_of_renewal-none f place.key key place.history free);
})

-- no line changes the key
pub after-key : (result : Outcome) (place : Place) → (after result place).key ≡ place.key
after-key (Collects d) place = refl
after-key (Refuses refusal) place = refl
after-key (SetsUp s) place = refl
after-key (Does commands shown) place = refl
after-key (Renews key s) place = refl

-- All lines.

pub follow-key : (place : Place) (number : ℕ) (lines : List (Option Line)) (refused : Bool) → (follow place number lines refused).key ≡ Some place.key
follow-key place number [] refused = refl
follow-key place number (None ∷ lines) refused = refl
follow-key place number (Some Empty ∷ lines) refused = follow-key place (number + 1) lines refused
follow-key place number (Some (Key key) ∷ lines) refused = refl
follow-key place number (Some (script.Command line) ∷ lines) refused =
    let r = outcome place line in
    follow-key (after r place) (number + 1) lines (refused || is_refusal r) ∙ ap (λ k. Some k) (after-key r place)

pub first-follow : (place : Place) (number : ℕ) (lines : List (Option Line)) (refused : Bool) → IsFirstOf place.history (follow place number lines refused).history
first-follow place number [] refused = IsFirstOf-same place.history
first-follow place number (None ∷ lines) refused = IsFirstOf-same place.history
first-follow place number (Some Empty ∷ lines) refused = first-follow place (number + 1) lines refused
first-follow place number (Some (Key key) ∷ lines) refused = IsFirstOf-same place.history
first-follow place number (Some (script.Command line) ∷ lines) refused =
    let next = after (outcome place line) place in
    IsFirstOf-trans place.history next.history _ (first-next place line) (first-follow next (number + 1) lines (refused || is_refusal (outcome place line)))

pub finds-follow : (place : Place) (number : ℕ) (lines : List (Option Line)) (refused : Bool)
    → found_in_turn (follow place number lines refused).history ≡ found_in_turn place.history ++ finds (follow place number lines refused).shown
finds-follow place number [] refused = sym (append-nil (found_in_turn place.history))
finds-follow place number (None ∷ lines) refused = sym (append-nil (found_in_turn place.history))
finds-follow place number (Some Empty ∷ lines) refused = finds-follow place (number + 1) lines refused
finds-follow place number (Some (Key key) ∷ lines) refused = sym (append-nil (found_in_turn place.history))
finds-follow place number (Some (script.Command line) ∷ lines) refused =
    let r = outcome place line in
    let rest = follow (after r place) (number + 1) lines (refused || is_refusal r) in
    finds-follow (after r place) (number + 1) lines (refused || is_refusal r)
    ∙ ap (λ found. found ++ finds rest.shown) (finds-next place line)
    ∙ append_assoc (found_in_turn place.history) (finds (shown_by r)) (finds rest.shown)
    ∙ ap (λ found. found_in_turn place.history ++ found) (sym (finds-append (shown_by r) rest.shown))

-- the answers in the printed lines of a script are what the searches of its history find
pub finds-meant : (mark : Option (List ℕ → List ℕ)) (number : ℕ) (lines : List (Option Line)) → found_in_turn (meant_from mark number lines).history ≡ finds (meant_from mark number lines).shown
finds-meant mark number [] = refl
finds-meant mark number (None ∷ lines) = refl
finds-meant mark number (Some Empty ∷ lines) = finds-meant mark (number + 1) lines
finds-meant mark number (Some (Key key) ∷ lines) = finds-follow (opened mark key) (number + 1) lines false
finds-meant mark number (Some (script.Command line) ∷ lines) = refl
