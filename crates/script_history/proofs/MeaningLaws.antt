-- A reading that no device disturbed, with memory for all of it, did what its script means.
use Rattle.std.proofs.Common.{◌≡◌, ◌≤◌, ◌<◌, inl, inr, ℕ, ◌+◌, ◌*◌, ◌-◌, ◌^◌, Bool, false, ◌||◌, List, [], ◌∷◌, ◌++◌, length, nat_lt, Option, None, Some, refl, sym, ap, subst, ◌∙◌, append_assoc, length-append, arith}
use Rattle.std.specs.Prelude.{filter, flat_map, fold, map, if◌then◌else◌}
use Rattle.std.specs.Io.KnownBytes.{append_known}
use Rattle.std.proofs.lemmas.Bool.{le-ltb}
use Rattle.std.proofs.lemmas.List.{append-nil, length-map}
use Rattle.client_registry.proofs.HistoryLaws.{IsKept-first, joined-first}
use Rattle.client_registry.specs.Command.{Command as Meant}
use Rattle.client_registry.specs.Documents.{first_seen}
use Rattle.client_registry.specs.Epochs.{Step, Does as DoesOne, Renews, joined, step_after}
use Rattle.client_registry.specs.Histories.{IsFirstOf, commands_in, longer, renewed}
use Rattle.client_registry.specs.Run.{Epochs, From, Renewed, History}
use Rattle.client_registry.specs.Sized.{words_named}
use Rattle.def_script_meaning.proofs.FollowedPlaces.{first-follow}
use Rattle.def_script_meaning.proofs.Outcomes.{by_cases}
use Rattle.def_script_meaning.proofs.Kept.{kept_meant}
use Rattle.def_script_meaning.proofs.Within.{IsWithin-lines_in}
use Rattle.def_script_meaning.specs.Lines.{Line, Empty, Key, Command, Request, line_in, script_lines}
use Rattle.def_script_meaning.specs.Meaning.{follow, meant_from, meaning}
use Rattle.def_script_meaning.specs.Outcome.{Place, Printed, said, Refuses, Does, Renews as Renewal, setup_after, opened, outcome, after, shown_by, is_refusal}
use Rattle.sse_script.specs.TextLines.{lines_of}
use Rattle.sse_script.specs.Texts.{text_of}
use Rattle.sse_script.specs.declared.refusal.Refusal.TheVariants.{HistoryFull}
use Rattle.script_history.specs.Reads.{ReadEnd, Whole, EndsSo, StopsUnread, StopsPrinting, Reads, ReadsFirst, IsCountable, is_full, numbered, read_outcome, refusal_in, refused_text, words_in}
use Rattle.script_history.specs.Meant.{IsCalm, IsReadAs, end_of, is_refused_line}
use Rattle.script_history.proofs.CommandRefused.{grown}
use Rattle.script_history.proofs.KnownWords.{named, named-longer}

-- Where nothing disturbs a reading.

module _ (now last : Option (List ℕ)) (end : ReadEnd) (calm : IsCalm end) where
  goes_on : StopsUnread now last end → ⊥
  goes_on unread = elim unread.stops [ inl e ↦ calm.source e | inr e ↦ calm.memory e ]

  prints : (text : List ℕ) → StopsPrinting text now last end → ⊥
  prints text stops = elim stops.stops [ inl e ↦ calm.sink e | inr e ↦ calm.memory e ]

  ends_so : (so : ReadEnd) → EndsSo so now last end → (last ≡ now) × (end ≡ so)
  ends_so so ends = elim ends [ inl p ↦ p | inr unread ↦ absurd (goes_on unread) ]

-- Texts.

known-nil : (o : Option (List ℕ)) → append_known o [] ≡ o
known-nil None = refl
known-nil (Some xs) = ap (λ ys. Some ys) (append-nil xs)

known-append : (o : Option (List ℕ)) (xs ys : List ℕ) → append_known (append_known o xs) ys ≡ append_known o (xs ++ ys)
known-append None xs ys = refl
known-append (Some zs) xs ys = ap (λ ws. Some ws) (append_assoc zs xs ys)

abbrev refusals_text : List Printed → List ℕ
refusals_text shown = flat_map text_of (filter is_refused_line (map said shown))

-- of a line's printed lines the refusal is read
text_first : (place : Place) (line : Request) (shown : List Printed)
    → refusals_text (shown_by (outcome place line) ++ shown) ≡ refused_text (refusal_in (outcome place line)) ++ refusals_text shown
text_first place line shown = by_cases place line (λ o. refusals_text (shown_by o ++ shown) ≡ refused_text (refusal_in o) ++ refusals_text shown) (record {
  refuses = λ refusal. refl;
  collects = λ id words is none e. refl;
  sets_up = λ b big pad none e. refl;
  adds = λ id words is up e. refl;
  deletes = λ id is up e. refl;
  finds = λ word up e. refl;
  queries = λ fields up e. refl;
  renews = λ key up e. refl;
})

-- Histories that can be numbered.

-- with more steps there are no fewer commands
one_more : (es : Epochs) (step : Step) → commands_in (Some es) ≤ commands_in (Some (step_after es step))
one_more (From o run) (DoesOne c) = omega (arith, length-append run.later (c ∷ []))
one_more (Renewed before key run) (DoesOne c) = omega (arith, length-append run.later (c ∷ []))
one_more es (Renews key) = omega arith

more_commands : (es : Epochs) (steps : List Step) → commands_in (Some es) ≤ commands_in (Some (fold step_after es steps))
more_commands es [] = omega arith
more_commands es (step ∷ steps) = omega (arith, one_more es step, more_commands (step_after es step) steps)

-- and no fewer words
more_words : (es : Epochs) (steps : List Step) → length (words_in (Some es)) ≤ length (words_in (Some (fold step_after es steps)))
more_words es steps =
    let rest = joined-first named (λ key o run commands. flat_map words_named commands) named-longer [] es steps in
    let known = joined named [] es in
    let more = grown known rest.0 in
    omega (arith, ap (λ words. length (first_seen words)) rest.1, ap length more.1.0, length-append (first_seen known) more.0)

countable_first : (part whole : History) → IsFirstOf part whole → IsCountable whole → IsCountable part
countable_first None whole first countable = record { kept = tt; commands = omega arith; words = omega arith }
countable_first (Some es) None first countable = absurd first
countable_first (Some es) (Some whole) first countable = record {
  kept = IsKept-first (Some es) (Some whole) first countable.kept;
  commands = omega (arith, countable.commands, ap (λ xs. commands_in (Some xs)) first.1, more_commands es first.0);
  words = omega (arith, countable.words, ap (λ xs. length (words_in (Some xs))) first.1, more_words es first.0);
}

not_full : (h : History) → IsCountable h → is_full h ≡ false
not_full None countable = refl
not_full (Some es) countable =
    ap (λ b. b || nat_lt (2 ^ 32 - 1) (length (words_in (Some es)))) (le-ltb (2 ^ 32 - 1) (commands_in (Some es) + 1) (omega (arith, countable.commands)))
    ∙ le-ltb (2 ^ 32 - 1) (length (words_in (Some es))) (omega (arith, countable.words))

-- where the history after a line can be counted, the line comes to what it comes to in a run
same_outcome : (place : Place) (line : Request) → IsCountable (after (outcome place line) place).history → read_outcome place line ≡ outcome place line
same_outcome place line = by_cases place line (λ o. IsCountable (after o place).history → numbered place.history o ≡ o) (record {
  refuses = λ refusal countable. refl;
  collects = λ id words is none e countable. refl;
  sets_up = λ b big pad none e countable. refl;
  adds = λ id words is up e countable. fits _ _ countable;
  deletes = λ id is up e countable. fits _ _ countable;
  finds = λ word up e countable. fits _ _ countable;
  queries = λ fields up e countable. fits _ _ countable;
  renews = λ key up e countable. ap (λ b. if b then Refuses HistoryFull else Renewal key (setup_after place.history)) (not_full (renewed key place.history) countable);
})
  where
    fits : (commands : List Meant) (shown : Printed) → IsCountable (longer commands place.history) → numbered place.history (Does commands shown) ≡ Does commands shown
    fits commands shown countable = ap (λ b. if b then Refuses HistoryFull else Does commands shown) (not_full (longer commands place.history) countable)

-- Readings.

-- the number behind one line and those after it
next-line : {X : Type 0} (number : ℕ) (line : X) (lines : List X) → number + 1 + length lines ≡ number + length (line ∷ lines)
next-line number line lines = omega arith

-- and behind none
no-line : (number : ℕ) → number ≡ number + 0
no-line number = omega arith

-- Promise P164, also here
-- from a place
pub reads-follow : (place : Place) (number : ℕ) (lines : List (Option Line)) (refused : Bool) (now last : Option (List ℕ)) (end : ReadEnd) → Reads place number lines refused now last end → IsCalm end
    → IsCountable (follow place number lines refused).history → IsReadAs (follow place number lines refused) (number + length lines) now last end
reads-follow place number [] refused now last end reads calm countable =
    let so = ends_so now last end calm _ reads in record { ends = so.1 ∙ ap (Whole place.key place.history refused) (no-line number); printed = so.0 ∙ sym (known-nil now) }
reads-follow place number (None ∷ lines) refused now last end reads calm countable =
    let so = ends_so now last end calm _ reads in record { ends = so.1; printed = so.0 ∙ sym (known-nil now) }
reads-follow place number (Some Empty ∷ lines) refused now last end reads calm countable =
    elim reads [
      | inl unread ↦ absurd (goes_on now last end calm unread)
      | inr rest ↦
          subst (λ next. IsReadAs (follow place (number + 1) lines refused) next now last end) (next-line number (Some Empty) lines) (reads-follow place (number + 1) lines refused now last end rest calm countable)
    ]
reads-follow place number (Some (Key key) ∷ lines) refused now last end reads calm countable =
    let so = ends_so now last end calm _ reads in record { ends = so.1; printed = so.0 ∙ sym (known-nil now) }
reads-follow place number (Some (Command line) ∷ lines) refused now last end reads calm countable =
    let o = outcome place line in
    let next = after o place in
    let m = follow next (number + 1) lines (refused || is_refusal o) in
    let same = same_outcome place line (countable_first next.history m.history (first-follow next (number + 1) lines (refused || is_refusal o)) countable) in
    elim reads [
      | inl unread ↦ absurd (goes_on now last end calm unread)
      | inr others ↦ elim others [
        | inl stops ↦ absurd (prints now last end calm _ stops)
        | inr rest ↦
            let after_it = reads-follow next (number + 1) lines (refused || is_refusal o) (append_known now (refused_text (refusal_in o))) last end
            (subst (λ r. Reads (after r place) (number + 1) lines (refused || is_refusal r) (append_known now (refused_text (refusal_in r))) last end) same rest) calm countable in
            record {
              ends = after_it.ends ∙ ap (λ n. end_of m.key m.history n m.end) (next-line number (Some (Command line)) lines);
              printed = after_it.printed ∙ known-append now (refused_text (refusal_in o)) (refusals_text m.shown) ∙ ap (append_known now) (sym (text_first place line m.shown));
            }
      ]
    ]

-- from before the key line
pub reads-meant : (mark : Option (List ℕ → List ℕ)) (number : ℕ) (lines : List (Option Line)) (now last : Option (List ℕ)) (end : ReadEnd) → ReadsFirst mark number lines now last end → IsCalm end
    → IsCountable (meant_from mark number lines).history → IsReadAs (meant_from mark number lines) (number + length lines) now last end
reads-meant mark number [] now last end reads calm countable =
    let so = ends_so now last end calm _ reads in record { ends = so.1; printed = so.0 ∙ sym (known-nil now) }
reads-meant mark number (None ∷ lines) now last end reads calm countable =
    let so = ends_so now last end calm _ reads in record { ends = so.1; printed = so.0 ∙ sym (known-nil now) }
reads-meant mark number (Some Empty ∷ lines) now last end reads calm countable =
    elim reads [
      | inl unread ↦ absurd (goes_on now last end calm unread)
      | inr rest ↦ subst (λ next. IsReadAs (meant_from mark (number + 1) lines) next now last end) (next-line number (Some Empty) lines) (reads-meant mark (number + 1) lines now last end rest calm countable)
    ]
reads-meant mark number (Some (Key key) ∷ lines) now last end reads calm countable =
    elim reads [
      | inl unread ↦ absurd (goes_on now last end calm unread)
      | inr rest ↦
          subst (λ next. IsReadAs (follow (opened mark key) (number + 1) lines false) next now last end) (next-line number (Some (Key key)) lines) (reads-follow (opened mark key) (number + 1) lines false now last end rest calm countable)
    ]
reads-meant mark number (Some (Command line) ∷ lines) now last end reads calm countable =
    let so = ends_so now last end calm _ reads in record { ends = so.1; printed = so.0 ∙ sym (known-nil now) }

-- Promise P164 (inside): A script that is read to its end is read as it means, and its refusals are the ones printed.
--   assumes: observable devices, no device fault, enough memory, countable history
-- of a script's bytes
pub reads-meaning : (mark : Option (List ℕ → List ℕ)) (bytes : List ℕ) (now last : Option (List ℕ)) (end : ReadEnd) → ReadsFirst mark 1 (script_lines bytes) now last end → IsCalm end
    → IsCountable (meaning mark bytes).history → IsReadAs (meaning mark bytes) (length (script_lines bytes) + 1) now last end
reads-meaning mark bytes now last end reads calm countable =
    subst (λ next. IsReadAs (meaning mark bytes) next now last end) (number-behind (length (script_lines bytes))) (reads-meant mark 1 (script_lines bytes) now last end reads calm countable)
  where
    number-behind : (n : ℕ) → 1 + n ≡ n + 1
    number-behind n = omega arith

-- a script's history can be counted where its lines are few enough, and its words too
pub meaning_is_countable : (mark : Option (List ℕ → List ℕ)) (bytes : List ℕ) → 32 * length (lines_of bytes) + 1 < 2 ^ 32 → length (words_in (meaning mark bytes).history) < 2 ^ 32 → IsCountable (meaning mark bytes).history
meaning_is_countable mark bytes few words =
    let kept = kept_meant mark 1 (script_lines bytes) (IsWithin-lines_in (lines_of bytes)) in
    record { kept = kept.0; commands = omega (arith, few, kept.1, length-map (lines_of bytes) line_in); words = words }
