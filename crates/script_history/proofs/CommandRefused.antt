-- Why a command isn't taken, by what a history says of it, and what is so of one that is.
use Rattle.std.proofs.Common.{◌≡◌, ◌≢◌, ℕ, ◌+◌, ◌-◌, ◌^◌, ◌<◌, ◌≤◌, Bool, true, false, not, ◌&&◌, ◌||◌, List, [], ◌∷◌, ◌++◌, length, Option, None, Some, nat_lt, refl, sym, ap, ◌∙◌, arith}
use Rattle.std.specs.Prelude.{◌==◌, bytes_eq, filter, flat_map, option_map, position, if◌then◌else◌}
use Rattle.std.specs.List.{position_from}
use Rattle.std.specs.Option.{option_or}
use Rattle.std.proofs.lemmas.Bool.{eqb-true, eqb-false, lt-ltb, le-ltb, ltb-false}
use Rattle.std.proofs.lemmas.Iterator.Adapters.{position_from-zero}
use Rattle.std.proofs.lemmas.List.{append-nil, length-append}
use Rattle.std.proofs.lemmas.List.Elements.{filter-append}
use Rattle.client_registry.proofs.HistoryLaws.{IsKept-longer, counter_in-below, joined-longer}
use Rattle.client_registry.proofs.SizedLaws.{update_frames-push}
use Rattle.client_registry.proofs.WordsLaws.{length-first_seen}
use Rattle.client_registry.specs.Command.{Command, Add, Delete, Search, is_update}
use Rattle.client_registry.specs.Document.{Document}
use Rattle.client_registry.specs.Documents.{first_seen, is_live}
use Rattle.client_registry.specs.Epochs.{joined, with_commands}
use Rattle.client_registry.specs.Histories.{IsKept, commands_in, counter_in, frames_in, is_listed_in, is_live_in}
use Rattle.client_registry.specs.Live.{counter, is_listed, live}
use Rattle.client_registry.specs.Run.{Epochs, From, Renewed, last_run}
use Rattle.client_registry.specs.Sized.{IsSizedCommand, words_named}
use Rattle.leakage_history.proofs.Refusals.{no_refusal}
use Rattle.leakage_history.specs.Refusal.{full_position, push_refusal}
use Rattle.leakage_history.specs.declared.fault.HistoryFault.{HistoryFault}
use Rattle.leakage_history.specs.declared.fault.HistoryFault.TheVariants as faults
use Rattle.def_script_meaning.specs.Refused.{frame_refusal}
use Rattle.sse_script.specs.declared.refusal.Refusal.{Refusal}
use Rattle.sse_script.specs.declared.refusal.Refusal.TheVariants.{AlreadyLive, UnknownDocument, CounterFull, HistoryFull}
use Rattle.script_history.specs.Numbered.{accept_refusal, fault_refusal, update_refusal}
use Rattle.script_history.specs.Reads.{IsCountable, number_refusal, words_in}
use Rattle.script_history.proofs.KnownWords.{named, named-longer}

-- what a fault says, where there is one
abbrev said : Option HistoryFault → Option Refusal
said None = None
said (Some fault) = fault_refusal fault

module _ (es : Epochs) (kept : IsKept (Some es)) where
  -- a counter of a history that keeps its limits is at its last value where it isn't below it
  counter_same : (id : ℕ) (word : List ℕ)
      → (not (is_listed_in (Some es) word id) && (counter_in (Some es) word == 2 ^ 32 - 1)) ≡ not (is_listed (last_run es).setup (last_run es).later word id || nat_lt (counter (last_run es).setup (last_run es).later word) (2 ^ 32 - 1))
  counter_same id word = by (is_listed (last_run es).setup (last_run es).later word id) (nat_lt (counter (last_run es).setup (last_run es).later word) (2 ^ 32 - 1)) refl
    where
      at : (b : Bool) → (counter (last_run es).setup (last_run es).later word == 2 ^ 32 - 1) ≡ b → nat_lt (counter (last_run es).setup (last_run es).later word) (2 ^ 32 - 1) ≡ not b
      at true is = le-ltb _ _ (omega (arith, eqb-true _ _ is))
      at false is = let other : counter (last_run es).setup (last_run es).later word ≢ 2 ^ 32 - 1 = eqb-false _ _ is in lt-ltb _ _ (omega (arith, other, counter_in-below (Some es) word kept))

      not_not : (b : Bool) → b ≡ not (not b)
      not_not true = refl
      not_not false = refl

      by : (listed below : Bool) → nat_lt (counter (last_run es).setup (last_run es).later word) (2 ^ 32 - 1) ≡ below
          → (not listed && (counter (last_run es).setup (last_run es).later word == 2 ^ 32 - 1)) ≡ not (listed || below)
      by true below is = refl
      by false below is = not_not (counter (last_run es).setup (last_run es).later word == 2 ^ 32 - 1) ∙ ap not (sym (at (counter (last_run es).setup (last_run es).later word == 2 ^ 32 - 1) refl) ∙ is)

  module _ (d : Document) where
    abbrev lacks : List ℕ → Bool
    lacks word = not (is_listed_in (Some es) word d.id) && (counter_in (Some es) word == 2 ^ 32 - 1)

    first_full : position_from lacks 0 d.words ≡ full_position (last_run es) d
    first_full = sym (position_from-zero lacks d.words) ∙ (λ i. position (λ word. counter_same d.id word i) d.words)

    add_refused : accept_refusal es (Add d) ≡ (if is_live_in (Some es) d.id then Some (AlreadyLive d.id) else option_or (option_map CounterFull (full_position (last_run es) d)) (frame_refusal (Some es)))
    add_refused = ap (λ p. if is_live_in (Some es) d.id then Some (AlreadyLive d.id) else option_or (option_map CounterFull p) (frame_refusal (Some es))) first_full

  -- a fault of the history is the refusal
  pub accept-some : (c : Command) (fault : HistoryFault) → push_refusal (last_run es) c ≡ Some fault → accept_refusal es c ≡ fault_refusal fault
  accept-some (Add d) fault e = add_refused d ∙ by (is_live (live (last_run es).setup.documents (last_run es).later) d.id) (full_position (last_run es) d) e
    where
      by : (b : Bool) (p : Option ℕ) → (if b then Some (faults.AlreadyLive d.id) else option_map (λ p. faults.CounterFull p) p) ≡ Some fault
          → (if b then Some (AlreadyLive d.id) else option_or (option_map CounterFull p) (frame_refusal (Some es))) ≡ fault_refusal fault
      by true p e = ap said e
      by false (Some p) e = ap said e
      by false None e = absurd (cc)
  accept-some (Delete id) fault e = by (is_live (live (last_run es).setup.documents (last_run es).later) id) e
    where
      by : (b : Bool) → (if b then None else Some (faults.UnknownDocument id)) ≡ Some fault → (if not b then Some (UnknownDocument id) else frame_refusal (Some es)) ≡ fault_refusal fault
      by true e = absurd (cc)
      by false e = ap said e
  accept-some (Search word) fault e = absurd (cc)

  -- with none, only a number for its frame can be wanting
  pub accept-none : (c : Command) → push_refusal (last_run es) c ≡ None → accept_refusal es c ≡ update_refusal es c
  accept-none (Add d) e = add_refused d ∙ by (is_live (live (last_run es).setup.documents (last_run es).later) d.id) (full_position (last_run es) d) e
    where
      by : (b : Bool) (p : Option ℕ) → (if b then Some (faults.AlreadyLive d.id) else option_map (λ p. faults.CounterFull p) p) ≡ None
          → (if b then Some (AlreadyLive d.id) else option_or (option_map CounterFull p) (frame_refusal (Some es))) ≡ frame_refusal (Some es)
      by true p e = absurd (cc)
      by false (Some p) e = absurd (cc)
      by false None e = refl
  accept-none (Delete id) e = by (is_live (live (last_run es).setup.documents (last_run es).later) id) e
    where
      by : (b : Bool) → (if b then None else Some (faults.UnknownDocument id)) ≡ None → (if not b then Some (UnknownDocument id) else frame_refusal (Some es)) ≡ frame_refusal (Some es)
      by true e = refl
      by false e = absurd (cc)
  accept-none (Search word) e = refl

  -- where nothing refuses a command, the history doesn't, and its frame has a number
  pub no_fault : (c : Command) → accept_refusal es c ≡ None → push_refusal (last_run es) c ≡ None
  no_fault (Add d) e = by (is_live (live (last_run es).setup.documents (last_run es).later) d.id) (full_position (last_run es) d) (sym (add_refused d) ∙ e)
    where
      by : (b : Bool) (p : Option ℕ) → (if b then Some (AlreadyLive d.id) else option_or (option_map CounterFull p) (frame_refusal (Some es))) ≡ None
          → (if b then Some (faults.AlreadyLive d.id) else option_map (λ p. faults.CounterFull p) p) ≡ None
      by true p e = absurd (cc)
      by false (Some p) e = absurd (cc)
      by false None e = refl
  no_fault (Delete id) e = by (is_live (live (last_run es).setup.documents (last_run es).later) id) e
    where
      by : (b : Bool) → (if not b then Some (UnknownDocument id) else frame_refusal (Some es)) ≡ None → (if b then None else Some (faults.UnknownDocument id)) ≡ None
      by true e = refl
      by false e = absurd (cc)
  no_fault (Search word) e = refl

  frame_free : frame_refusal (Some es) ≡ None → frames_in (Some es) + 1 < 2 ^ 32
  frame_free = by (nat_lt (2 ^ 32 - 1) (frames_in (Some es) + 1)) refl
    where
      by : (b : Bool) → nat_lt (2 ^ 32 - 1) (frames_in (Some es) + 1) ≡ b → (if b then Some HistoryFull else None) ≡ None → frames_in (Some es) + 1 < 2 ^ 32
      by true is e = absurd (cc)
      by false is e = let le : frames_in (Some es) + 1 ≤ 2 ^ 32 - 1 = ltb-false _ _ is in omega (arith, le)

  pub frames_fit : (c : Command) → accept_refusal es c ≡ None → frames_in (Some es) + length (filter is_update (c ∷ [])) < 2 ^ 32
  frames_fit (Add d) e = frame_free (sym (accept-none (Add d) (no_fault (Add d) e)) ∙ e)
  frames_fit (Delete id) e = frame_free (sym (accept-none (Delete id) (no_fault (Delete id) e)) ∙ e)
  frames_fit (Search word) e = omega (arith, kept.1)

-- Words.

length-kept : {X : Type 0} (p : X → Bool) (xs : List X) → length (filter p xs) ≤ length xs
length-kept p [] = omega arith
length-kept p (x ∷ xs) = by (p x) (length-kept p xs)
  where
    by : (b : Bool) → length (filter p xs) ≤ length xs → length (if b then x ∷ filter p xs else filter p xs) ≤ length (x ∷ xs)
    by true le = omega (arith, le)
    by false le = omega (arith, le)

-- the different words of a longer list: those of its front, and no more others than it has words behind
pub grown : (xs ys : List (List ℕ)) → (more : List (List ℕ)) × ((first_seen (xs ++ ys) ≡ first_seen xs ++ more) × (length more ≤ length ys))
grown [] ys = (first_seen ys, (refl, length-first_seen ys))
grown (x ∷ xs) ys =
    let rest = grown xs ys in
    let other : List ℕ → Bool = λ w. not (bytes_eq x w) in (
      filter other rest.0,
      (
        ap (λ words. x ∷ filter other words) rest.1.0 ∙ ap (λ words. x ∷ words) (filter-append other (first_seen xs) rest.0),
        omega (arith, length-kept other rest.0, rest.1.1),
      ),
    )

-- a command brings no more different words than it names
pub words_grow : (es : Epochs) (c : Command) → length (words_in (Some (with_commands (c ∷ []) es))) ≤ length (words_in (Some es)) + length (words_named c)
words_grow es c =
    let known = joined named [] es in
    let rest = grown known (words_named c) in
    let same : joined named [] (with_commands (c ∷ []) es) ≡ known ++ words_named c =
    joined-longer named (λ key o run commands. flat_map words_named commands) named-longer [] es (c ∷ []) ∙ ap (λ words. known ++ words) (append-nil (words_named c)) in
    omega (arith, ap (λ words. length (first_seen words)) same, ap length rest.1.0, length-append (first_seen known) rest.0, rest.1.1)

-- Numbers.

-- there is one command more for each
pub commands_more : (es : Epochs) (cs : List Command) → commands_in (Some (with_commands cs es)) ≡ commands_in (Some es) + length cs
commands_more (From o run) cs = omega (arith, length-append run.later cs)
commands_more (Renewed before key run) cs = omega (arith, length-append run.later cs)

-- and a frame more for an update
pub frames_more : (es : Epochs) (c : Command) → frames_in (Some (with_commands (c ∷ []) es)) ≡ frames_in (Some es) + length (filter is_update (c ∷ []))
frames_more (From o run) c = omega (arith, update_frames-push run c)
frames_more (Renewed before key run) c = omega (arith, update_frames-push run c)

-- the history with a command has as many commands as can be numbered
pub number_refusal-full : (es : Epochs) (c : Command) → 2 ^ 32 ≤ commands_in (Some es) + 2 → number_refusal (Some es) (c ∷ []) ≡ Some HistoryFull
number_refusal-full es c le =
    ap (λ b. if b || nat_lt (2 ^ 32 - 1) (length (words_in (Some (with_commands (c ∷ []) es)))) then Some HistoryFull else None)
    (lt-ltb (2 ^ 32 - 1) (commands_in (Some (with_commands (c ∷ []) es)) + 1) (omega (arith, le, commands_more es (c ∷ []))))

-- or it can be numbered
pub number_refusal-none : (es : Epochs) (c : Command) (so_many : ℕ) → commands_in (Some es) + 2 < 2 ^ 32 → length (words_in (Some es)) + length (words_named c) ≤ so_many → so_many < 2 ^ 32 → number_refusal (Some es) (c ∷ []) ≡ None
number_refusal-none es c so_many few within fits =
    ap (λ b. if b || nat_lt (2 ^ 32 - 1) (length (words_in (Some (with_commands (c ∷ []) es)))) then Some HistoryFull else None)
    (le-ltb (2 ^ 32 - 1) (commands_in (Some (with_commands (c ∷ []) es)) + 1) (omega (arith, few, commands_more es (c ∷ []))))
    ∙ ap (λ b. if b then Some HistoryFull else None) (le-ltb (2 ^ 32 - 1) (length (words_in (Some (with_commands (c ∷ []) es)))) (omega (arith, within, fits, words_grow es c)))

-- and then it is counted
pub counted_with : (es : Epochs) (c : Command) (so_many : ℕ) → IsCountable (Some es) → IsSizedCommand c → accept_refusal es c ≡ None → commands_in (Some es) + 2 < 2 ^ 32 → length (words_in (Some es)) + length (words_named c) ≤ so_many → so_many < 2 ^ 32
    → IsCountable (Some (with_commands (c ∷ []) es))
counted_with es c so_many counted one none few within fits = record {
  kept = IsKept-longer (Some es) c counted.kept one (no_refusal (last_run es) c (no_fault es counted.kept c none)) (frames_fit es counted.kept c none);
  commands = omega (arith, few, commands_more es (c ∷ []));
  words = omega (arith, within, fits, words_grow es c);
}
