-- What the plans of a client say of the script's lines: the same refusals, the frames and the clash of a command after a
-- history, and what a client stands for behind a setup and after a search.
use Rattle.std.proofs.Common.{◌≡◌, ◌≢◌, ℕ, ◌+◌, ◌-◌, ◌^◌, Bool, true, false, not, ◌||◌, ◌&&◌, List, [], ◌∷◌, ◌++◌, length, Option, None, Some, is_some, nat_le, nat_lt, refl, sym, ap, subst, ◌∙◌, arith, Err, Ok, inl, inr}
use Rattle.std.specs.Prelude.{IfSome, IsSome, Result, ◌==◌, if◌then◌else◌, option_map, position, IfErr, IfOk}
use Rattle.std.specs.List.{list_any, position_from}
use Rattle.std.specs.Option.{option_and_then, option_or}
use Rattle.std.specs.Result.{result_err}
use Rattle.std.proofs.lemmas.Bool.{true≢false, ne_eqb, eqb-true, eqb-false, leb-true, leb-false, lt-ltb, le-ltb}
use Rattle.std.proofs.lemmas.Iterator.Adapters.{position_from-zero}
use Rattle.std.proofs.lemmas.List.{append-nil}
use Rattle.std.proofs.lemmas.List.Folds.{list_any-append}
use Rattle.client_registry.proofs.FactsLaws.{is_some-words_with_id}
use Rattle.client_registry.proofs.HistoryLaws.{IsKept-longer, counter_in-below}
use Rattle.client_registry.proofs.LiveLaws.{added_list-push, live-push}
use Rattle.client_registry.proofs.SizedLaws.{update_frames-push}
use Rattle.client_registry.specs.Command.{Command, Add, Delete, Search}
use Rattle.client_registry.specs.Document.{Document}
use Rattle.client_registry.specs.Facts.{facts_of, has_counter, words_with_id}
use Rattle.client_registry.specs.Histories.{IsKept, counter_in, frames_in, is_listed_in, is_live_in, is_set_up, longer}
use Rattle.client_registry.specs.Live.{adds_pair, added_list, counter, holds_pair, is_listed, live}
use Rattle.client_registry.specs.Epochs.{begins, key_now, next_begins, with_commands}
use Rattle.client_registry.specs.Run.{History, Run, Offsets, Epochs, From, Renewed, last_run}
use Rattle.client_registry.specs.Setup.{Setup}
use Rattle.client_registry.specs.Sized.{IsSizedCommand}
use Rattle.keyed_fn.specs.KeyedFn.{KeyedFn}
use Rattle.sse_model.specs.Compared.{Collision, Labels, Numbers, Places, equal_among}
use Rattle.sse_model.specs.Epochs.{key_in, keys_under}
use Rattle.sse_model.specs.Histories.{collision_of_next, frames_of_next}
use Rattle.sse_model.specs.Names.{Revocation, name, table}
use Rattle.sse_model.specs.Wire.{next_number, words_live}
use Rattle.sse_script.specs.Shown.{Cause}
use Rattle.sse_script.specs.declared.refusal.Refusal.{Refusal}
use Rattle.sse_script.specs.declared.refusal.Refusal.TheVariants.{Zero, AlreadyLive, CounterFull, HistoryFull, UnknownDocument}
use Rattle.def_script_meaning.specs.Carries.{collision_cause, keys_at}
use Rattle.def_script_meaning.specs.Outcome.{Place, marks_in}
use Rattle.def_script_meaning.specs.Refused as script
use Rattle.script_documents.specs.Refused.{document_refusal}
use Rattle.client_core.specs.StandsFor as client
use Rattle.client_core.specs.StandsFor.{StandsFor, add_fault, collision_next, delete_fault, frames_next, with_command}
use Rattle.client_core.specs.UpdateFaults.{clash_fault}
use Rattle.client_core.specs.declared.command_fault.CommandFault.{CommandFault}
use Rattle.client_core.specs.declared.command_fault.CommandFault.TheVariants as faults
use Rattle.client_core.specs.declared.ready.Ready.{Ready}
use Rattle.sse_client.specs.UpdateFaults.{answer_to_command, refusal_in}
use Rattle.sse_client.specs.UpdatePlans.{IsUnplanned}

-- Refusals.

module _ (o : Offsets) (run : Run) where
  -- no number is left for one frame more
  full_same : nat_lt (2 ^ 32 - 1) (frames_in (Some (From o run)) + 1) ≡ nat_le (2 ^ 32 - 1) (next_number o run.setup run.later)
  full_same = by (nat_le (2 ^ 32 - 1) (next_number o run.setup run.later)) refl
    where
      by : (b : Bool) → nat_le (2 ^ 32 - 1) (next_number o run.setup run.later) ≡ b → nat_lt (2 ^ 32 - 1) (frames_in (Some (From o run)) + 1) ≡ b
      by true is = lt-ltb (2 ^ 32 - 1) (frames_in (Some (From o run)) + 1) (omega (arith, leb-true _ _ is))
      by false is = le-ltb (2 ^ 32 - 1) (frames_in (Some (From o run)) + 1) (omega (arith, leb-false _ _ is))

  live_same : (id : ℕ) → is_live_in (Some (From o run)) id ≡ is_some ((facts_of run.setup run.later).live id)
  live_same id = sym (is_some-words_with_id (live run.setup.documents run.later) id)

  -- a counter of a history that keeps its limits is at its last value where it isn't below it
  counter_same : IsKept (Some (From o run)) → (id : ℕ) (word : List ℕ)
      → (not (is_listed_in (Some (From o run)) word id) && (counter_in (Some (From o run)) word == 2 ^ 32 - 1)) ≡ not (has_counter (facts_of run.setup run.later) id word)
  counter_same kept id word = by (is_listed run.setup run.later word id) (nat_lt (counter run.setup run.later word) (2 ^ 32 - 1)) refl
    where
      at : (b : Bool) → (counter run.setup run.later word == 2 ^ 32 - 1) ≡ b → nat_lt (counter run.setup run.later word) (2 ^ 32 - 1) ≡ not b
      at true is = le-ltb _ _ (omega (arith, eqb-true _ _ is))
      at false is = let other : counter run.setup run.later word ≢ 2 ^ 32 - 1 = eqb-false _ _ is in lt-ltb _ _ (omega (arith, other, counter_in-below (Some (From o run)) word kept))

      not_not : (b : Bool) → b ≡ not (not b)
      not_not true = refl
      not_not false = refl

      by : (listed below : Bool) → nat_lt (counter run.setup run.later word) (2 ^ 32 - 1) ≡ below
          → (not listed && (counter run.setup run.later word == 2 ^ 32 - 1)) ≡ not (listed || below)
      by true below is = refl
      by false below is = not_not (counter run.setup run.later word == 2 ^ 32 - 1) ∙ ap not (sym (at (counter run.setup run.later word == 2 ^ 32 - 1) refl) ∙ is)

  module _ (kept : IsKept (Some (From o run))) (d : Document) where
    abbrev is_full : List ℕ → Bool
    is_full word = not (is_listed_in (Some (From o run)) word d.id) && (counter_in (Some (From o run)) word == 2 ^ 32 - 1)

    abbrev lacks : List ℕ → Bool
    lacks word = not (has_counter (facts_of run.setup run.later) d.id word)

    first_full : position_from is_full 0 d.words ≡ position lacks d.words
    first_full = sym (position_from-zero is_full d.words) ∙ (λ i. position (λ word. counter_same kept d.id word i) d.words)

    -- an addition is refused by the script for the cause that a client finds, where its words are a document's
    pub refuses-add : script.add_refusal (Some (From o run)) d ≡ option_or (document_refusal d.id d.words) (option_and_then (λ fault. refusal_in (answer_to_command fault)) (client.add_refusal o run d))
    refuses-add =
        (λ i. option_or (document_refusal d.id d.words) (if live_same d.id i then Some (AlreadyLive d.id) else option_or (option_map CounterFull (first_full i)) (if full_same i then Some HistoryFull else None)))
        ∙ ap (option_or (document_refusal d.id d.words)) (by (is_some ((facts_of run.setup run.later).live d.id)) (position lacks d.words) (nat_le (2 ^ 32 - 1) (next_number o run.setup run.later)))
      where
        by : (b : Bool) (p : Option ℕ) (full : Bool)
            → (if b then Some (AlreadyLive d.id) else option_or (option_map CounterFull p) (if full then Some HistoryFull else None))
            ≡ option_and_then (λ fault. refusal_in (answer_to_command fault)) (if b then Some (faults.AlreadyLive d.id) else option_or (option_map (λ p. faults.CounterFull p) p) (if full then Some faults.HistoryFull else None))
        by true p full = refl
        by false (Some p) full = refl
        by false None true = refl
        by false None false = refl

  -- and so is a deletion, of an identifier that isn't 0
  pub refuses-delete : (id : ℕ) → id ≢ 0 → script.delete_refusal (Some (From o run)) id ≡ option_and_then (λ fault. refusal_in (answer_to_command fault)) (client.delete_refusal o run id)
  refuses-delete id some =
      (λ i. if ne_eqb id 0 some i then Some Zero else if not (live_same id i) then Some (UnknownDocument id) else if full_same i then Some HistoryFull else None)
      ∙ by (is_some ((facts_of run.setup run.later).live id)) (nat_le (2 ^ 32 - 1) (next_number o run.setup run.later))
    where
      by : (b full : Bool) → (if not b then Some (UnknownDocument id) else if full then Some HistoryFull else None)
          ≡ option_and_then (λ fault. refusal_in (answer_to_command fault)) (if b then (if full then Some faults.HistoryFull else None) else Some (faults.UnknownDocument id))
      by true true = refl
      by true false = refl
      by false full = refl

-- The frames and the clash of one command.

module _ (f : KeyedFn) (key : List ℕ) (o : Offsets) (run : Run) (c : Command) where
  pub frames-next : frames_of_next f key (Some (From o run)) (c ∷ []) ≡ frames_next f (λ epoch. key) o run c
  frames-next = append-nil (frames_next f (λ epoch. key) o run c)

  pub collision-next : collision_of_next f key (Some (From o run)) (c ∷ []) ≡ collision_next f (λ epoch. key) o run c
  collision-next = alone (collision_next f (λ epoch. key) o run c)
    where
      alone : (equal : Option Collision) → option_or equal None ≡ equal
      alone None = refl
      alone (Some x) = refl

-- Plans.

-- a fault that is a refusal
abbrev Refuses : CommandFault → Type 0
Refuses fault = IsSome (refusal_in (answer_to_command fault))

module _ (o : Offsets) (run : Run) where
  refuses_to_add : (d : Document) → IfSome (client.add_refusal o run d) Refuses
  refuses_to_add d = by (is_some ((facts_of run.setup run.later).live d.id)) (position (λ word. not (has_counter (facts_of run.setup run.later) d.id word)) d.words) (nat_le (2 ^ 32 - 1) (next_number o run.setup run.later))
    where
      by : (b : Bool) (p : Option ℕ) (full : Bool) → IfSome (if b then Some (faults.AlreadyLive d.id) else option_or (option_map (λ p. faults.CounterFull p) p) (if full then Some faults.HistoryFull else None)) Refuses
      by true p full = refl
      by false (Some p) full = refl
      by false None true = refl
      by false None false = tt

  refuses_to_delete : (id : ℕ) → IfSome (client.delete_refusal o run id) Refuses
  refuses_to_delete id = by (is_some ((facts_of run.setup run.later).live id)) (nat_le (2 ^ 32 - 1) (next_number o run.setup run.later))
    where
      by : (b full : Bool) → IfSome (if b then (if full then Some faults.HistoryFull else None) else Some (faults.UnknownDocument id)) Refuses
      by true true = refl
      by true false = tt
      by false full = refl

-- two equal values of an update: it has no places
abbrev IsOfUpdate : Collision → Type 0
IsOfUpdate (Labels first second) = Unit {0}
IsOfUpdate (Places first second) = ⊥
IsOfUpdate (Numbers first second) = Unit {0}

-- equal values of a command are labels or numbers
no_places : (f : KeyedFn) (keys : ℕ → List ℕ) (o : Offsets) (run : Run) (c : Command) → IfSome (collision_next f keys o run c) IsOfUpdate
no_places f keys o run (Add d) = by (equal_among _ _ d.words) (equal_among _ _ d.words)
  where
    by : (labels numbers : Option (ℕ × ℕ)) → IfSome (option_or (option_map (λ places. Labels places.0 places.1) labels) (option_map (λ places. Numbers places.0 places.1) numbers)) IsOfUpdate
    by (Some two) numbers = tt
    by None (Some two) = tt
    by None None = tt
no_places f keys o run (Delete id) = by (equal_among (λ word. true) (λ word. table f run.setup.shape keys (name o.epoch word Revocation id)) (words_live (live run.setup.documents run.later) id))
  where
    by : (numbers : Option (ℕ × ℕ)) → IfSome (option_map (λ places. Numbers places.0 places.1) numbers) IsOfUpdate
    by (Some two) = tt
    by None = tt
no_places f keys o run (Search word) = tt

-- what came of the plan of an update that the script refuses for this reason, or for none, and whose equal values have this
-- printed cause, or that has none
pub record IsPlanFor {X : Type 0} (why : Option Refusal) (clash : Option Cause) (r : Result X CommandFault) : Type 0 where
  pub planned : IfOk r (λ x. (why ≡ None) × (clash ≡ None))
  pub fault : IfErr r (λ fault. IsUnplanned why clash (answer_to_command fault))

module _ (refusal : Option CommandFault) (equal : Option Collision) (refuses : IfSome refusal Refuses) (update : IfSome equal IsOfUpdate) where
  abbrev why : Option Refusal
  why = option_and_then (λ fault. refusal_in (answer_to_command fault)) refusal

  abbrev clash : Option Cause
  clash = option_map collision_cause equal

  -- a fault that isn't want of memory is the client's reason, or else its equal values
  named : (fault : CommandFault) → Some fault ≡ option_or refusal (option_map clash_fault equal) → IsUnplanned why clash (answer_to_command fault)
  named fault is = by refusal refuses equal update is
    where
      equals : (c : Collision) → IsOfUpdate c → IsUnplanned None (Some (collision_cause c)) (answer_to_command (clash_fault c))
      equals (Labels first second) here = inr (refl, refl)
      equals (Places first second) here = absurd here
      equals (Numbers first second) here = inr (refl, refl)

      by : (o : Option CommandFault) → IfSome o Refuses → (c : Option Collision) → IfSome c IsOfUpdate → Some fault ≡ option_or o (option_map clash_fault c)
          → IsUnplanned (option_and_then (λ fault. refusal_in (answer_to_command fault)) o) (option_map collision_cause c) (answer_to_command fault)
      by (Some x) some c update is = let same : x ≡ fault = cc in subst (λ e. IsUnplanned (refusal_in (answer_to_command x)) (option_map collision_cause c) (answer_to_command e)) same (refused x some c)
        where
          refused : (x : CommandFault) → Refuses x → (c : Option Collision) → IsUnplanned (refusal_in (answer_to_command x)) (option_map collision_cause c) (answer_to_command x)
          refused (faults.AlreadyLive id) some c = refl
          refused (faults.UnknownDocument id) some c = refl
          refused (faults.CounterFull p) some c = refl
          refused faults.HistoryFull some c = refl
          refused (faults.LabelClash i j) some c = absurd (true≢false (sym some))
          refused (faults.NumberClash i j) some c = absurd (true≢false (sym some))
          refused faults.NoMemory some c = absurd (true≢false (sym some))
      by None none None update is = absurd (cc)
      by None none (Some c) update is = let same : clash_fault c ≡ fault = cc in subst (λ e. IsUnplanned None (Some (collision_cause c)) (answer_to_command e)) same (equals c update)

  -- by the clause of a plan that tells its fault
  plan_for : {X : Type 0} (r : Result X CommandFault) → (r ≢ Err faults.NoMemory → result_err r ≡ option_or refusal (option_map clash_fault equal)) → IsPlanFor why clash r
  plan_for {X} (Ok x) fault = record { planned = by refusal equal (fault (λ memory. absurd (cc))); fault = tt }
    where
      by : (o : Option CommandFault) (c : Option Collision) → None ≡ option_or o (option_map clash_fault c) → (option_and_then (λ fault. refusal_in (answer_to_command fault)) o ≡ None) × (option_map collision_cause c ≡ None)
      by None None h = (refl, refl)
      by None (Some c) h = absurd (cc)
      by (Some x) c h = absurd (cc)
  plan_for {X} (Err e) fault = record { planned = tt; fault = by e fault }
    where
      by : (e : CommandFault) → ((◌≢◌ {A = Result X CommandFault} (Err e) (Err faults.NoMemory)) → Some e ≡ option_or refusal (option_map clash_fault equal)) → IsUnplanned why clash (answer_to_command e)
      by (faults.AlreadyLive id) h = named _ (h (λ memory. cc))
      by (faults.UnknownDocument id) h = named _ (h (λ memory. cc))
      by (faults.CounterFull p) h = named _ (h (λ memory. cc))
      by faults.HistoryFull h = named _ (h (λ memory. cc))
      by (faults.LabelClash i j) h = named _ (h (λ memory. cc))
      by (faults.NumberClash i j) h = named _ (h (λ memory. cc))
      by faults.NoMemory h = inl refl

-- Plans at a place of a script.

module _ (f : KeyedFn) (place : Place) (es : Epochs) (history : place.history ≡ Some es) where
  abbrev o : Offsets
  o = begins es

  abbrev run : Run
  run = last_run es

  -- the frames and the clash of one command at a place are those after its history
  pub frames-at : (c : Command) → frames_of_next f place.key place.history (c ∷ []) ≡ frames_next f (keys_at place) o run c
  frames-at c =
      ap (λ h. frames_of_next f place.key h (c ∷ [])) history
      ∙ frames-next f (key_now place.key es) o run c
      ∙ sym (ap (λ h. frames_next f (keys_under place.key h) o run c) history)

  pub clash-at : (c : Command) → option_map collision_cause (collision_of_next f place.key place.history (c ∷ [])) ≡ option_map collision_cause (collision_next f (keys_at place) o run c)
  clash-at c =
      ap (λ h. option_map collision_cause (collision_of_next f place.key h (c ∷ []))) history
      ∙ ap (option_map collision_cause) (collision-next f (key_now place.key es) o run c ∙ sym (ap (λ h. collision_next f (keys_under place.key h) o run c) history))

  module _ {X : Type 0} (r : Result X CommandFault) where
    -- the plan of an addition whose words are a document's, where the client stands for the history of the place
    pub plan-add-at : IsKept (Some (From o run)) → (d : Document) → document_refusal d.id d.words ≡ None → (r ≢ Err faults.NoMemory → result_err r ≡ add_fault f (keys_at place) o run d)
        → IsPlanFor (script.add_refusal place.history d) (option_map collision_cause (collision_of_next f place.key place.history (Add d ∷ []))) r
    plan-add-at kept d valid fault =
        let here = ap (λ h. script.add_refusal h d) history ∙ refuses-add o run kept d ∙ ap (λ r. option_or r (option_and_then (λ fault. refusal_in (answer_to_command fault)) (client.add_refusal o run d))) valid in
        subst (λ why. IsPlanFor why (option_map collision_cause (collision_of_next f place.key place.history (Add d ∷ []))) r) (sym here)
        (subst (λ clash. IsPlanFor (option_and_then (λ fault. refusal_in (answer_to_command fault)) (client.add_refusal o run d)) clash r) (sym (clash-at (Add d)))
        (plan_for (client.add_refusal o run d) (collision_next f (keys_at place) o run (Add d)) (refuses_to_add o run d) (no_places f (keys_at place) o run (Add d)) r fault))

    -- and of a deletion of an identifier that isn't 0
    pub plan-delete-at : (id : ℕ) → id ≢ 0 → (r ≢ Err faults.NoMemory → result_err r ≡ delete_fault f (keys_at place) o run id)
        → IsPlanFor (script.delete_refusal place.history id) (option_map collision_cause (collision_of_next f place.key place.history (Delete id ∷ []))) r
    plan-delete-at id some fault =
        let here = ap (λ h. script.delete_refusal h id) history ∙ refuses-delete o run id some in
        subst (λ why. IsPlanFor why (option_map collision_cause (collision_of_next f place.key place.history (Delete id ∷ []))) r) (sym here)
        (subst (λ clash. IsPlanFor (option_and_then (λ fault. refusal_in (answer_to_command fault)) (client.delete_refusal o run id)) clash r) (sym (clash-at (Delete id)))
        (plan_for (client.delete_refusal o run id) (collision_next f (keys_at place) o run (Delete id)) (refuses_to_delete o run id) (no_places f (keys_at place) o run (Delete id)) r fault))

-- What a client stands for.

-- a search changes no fact
facts-search : (s : Setup) (past : List Command) (word : List ℕ) → facts_of s past ≡ facts_of s (past ++ Search word ∷ [])
facts-search s past word = λ i. record {
  live = λ id. ap (λ docs. words_with_id docs id) (sym (live-push s.documents past (Search word))) i;
  listed = λ other id. ap (λ b. holds_pair s.documents other id || b) (none (list_any (adds_pair other id) past) ∙ sym (list_any-append (adds_pair other id) past (Search word ∷ []))) i;
  counter = λ other. sym (ap length (added_list-push s past (Search word) other ∙ append-nil (added_list s past other))) i;
}
  where
    none : (b : Bool) → b ≡ (b || (false || false))
    none true = refl
    none false = refl

-- commands leave a history the key of its last epoch
pub key_in-longer : (key : List ℕ) (h : History) (cs : List Command) → key_in key h ≡ key_in key (longer cs h)
key_in-longer key None cs = refl
key_in-longer key (Some (From begin last)) cs = refl
key_in-longer key (Some (Renewed before own last)) cs = refl

-- and the marks of its epochs
pub marks_in-longer : (mark : List ℕ → List ℕ) (key : List ℕ) (h : History) (cs : List Command) → marks_in mark key h ≡ marks_in mark key (longer cs h)
marks_in-longer mark key None cs = refl
marks_in-longer mark key (Some (From begin last)) cs = refl
marks_in-longer mark key (Some (Renewed before own last)) cs = refl

-- before a setup the key is the first one
pub key_in-before : (key : List ℕ) (h : History) → is_set_up h ≡ false → key_in key h ≡ key
key_in-before key None before = refl
key_in-before key (Some es) before = absurd (true≢false before)

-- and a client its key
pub StandsFor-longer : (f : KeyedFn) (key : List ℕ) (h : History) (cs : List Command) (es : Epochs) (state : Ready) → h ≡ Some es → StandsFor f (keys_under key h) (begins es) (record (last_run es) { later = (last_run es).later ++ cs }) state
    → StandsFor f (keys_under key (longer cs h)) (begins (with_commands cs es)) (last_run (with_commands cs es)) state
StandsFor-longer f key h cs es state is s = by es is s
  where
    by : (es : Epochs) → h ≡ Some es → StandsFor f (keys_under key h) (begins es) (record (last_run es) { later = (last_run es).later ++ cs }) state
        → StandsFor f (keys_under key (longer cs h)) (begins (with_commands cs es)) (last_run (with_commands cs es)) state
    by (From begin last) is s = subst (λ k. StandsFor f (λ epoch. k) begin (record last { later = last.later ++ cs }) state) (key_in-longer key h cs) s
    by (Renewed before own last) is s = subst (λ k. StandsFor f (λ epoch. k) (next_begins before) (record last { later = last.later ++ cs }) state) (key_in-longer key h cs) s

-- after a search a client stands for the history with it
pub StandsFor-search : (f : KeyedFn) (keys : ℕ → List ℕ) (o : Offsets) (run : Run) (word : List ℕ) (state : Ready) → IsSizedCommand (Search word) → StandsFor f keys o run state → StandsFor f keys o (with_command run (Search word)) state
StandsFor-search f keys begin before word state sized s = record {
  kept = IsKept-longer (Some (From begin before)) (Search word) s.kept sized refl (omega (arith, s.kept.1));
  registry = s.registry ∙ facts-search before.setup before.later word;
  number = omega (arith, s.number, update_frames-push before (Search word));
  word_keys = s.word_keys;
  past = record { shape = s.past.shape; pad = s.past.pad };
}
