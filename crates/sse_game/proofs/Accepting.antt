-- Which commands a history takes, by what the code asks of it.
use Rattle.std.proofs.Common.{◌≡◌, ◌≢◌, ℕ, suc, ◌+◌, ◌-◌, ◌<◌, ◌≤◌, ◌^◌, Bool, true, false, cond, not, ◌&&◌, ◌||◌, List, [], ◌∷◌, length, filter, nat_lt, nat_le, position, Option, None, Some, Ok, Err, refl, sym, ap, ◌∙◌, arith}
use Rattle.std.specs.List.{list_all}
use Rattle.std.specs.Option.{option_and_then, option_or}
use Rattle.std.specs.Prelude.{IfSome, IsOk, IsOkUnless, Result, is_none, option_map, if◌then◌else◌}
use Rattle.std.proofs.lemmas.Bool.{and_parts, true≢false, ltb-true, ltb-false, leb-true, leb-false, le-ltb, lt-ltb}
use Rattle.client_live_docs.specs.LiveAfter.{live_refusal}
use Rattle.client_registry.proofs.Positions.{position-cons}
use Rattle.client_registry.proofs.SizedLaws.{accepted_frames}
use Rattle.client_registry.specs.Acceptance.{frames_needed, size_refusal}
use Rattle.client_registry.specs.Command.{Command, Add, Delete, Search, is_update}
use Rattle.client_registry.specs.Documents.{IsCollected, is_live, pairs_of}
use Rattle.client_registry.specs.Epochs.{Does, Renews, next_begins, setup_renewed, with_commands, with_renewal}
use Rattle.client_registry.specs.Live.{counter, is_listed, live}
use Rattle.client_registry.specs.Histories.{begun_by}
use Rattle.client_registry.specs.Run.{Epochs, From, Run, at_first, last_run}
use Rattle.client_registry.specs.Setup.{Setup}
use Rattle.client_registry.specs.Sized.{is_accepted}
use Rattle.client_registry.specs.declared.faults.DocsFault.{DocsFault}
use Rattle.client_registry.specs.declared.faults.DocsFault.TheVariants.{NoMemory, TooManyDocuments, TooManyPairs}
use Rattle.client_registry.specs.declared.faults.SizeFault.{SizeFault}
use Rattle.def_duel.specs.Choices.{Goes, SetsUp, can_set_up, can_take, is_numbered}
use Rattle.leakage_history.specs.Refusal.{push_refusal}
use Rattle.leakage_history.specs.Renewals.{fault_of_docs, fault_of_size, renewal_refusal}
use Rattle.leakage_history.specs.declared.renewal_fault.RenewalFault.TheVariants.{HistoryFull}
use Rattle.leakage_history.specs.declared.fault.HistoryFault.TheVariants.{AlreadyLive, UnknownDocument, CounterFull}
use Rattle.sse_game.proofs.Growing.{next-does, next-renews}

-- what nothing refuses is accepted, and what is accepted nothing refuses
pub none-accepted : (run : Run) (c : Command) → is_none (push_refusal run c) ≡ is_accepted run.setup run.later c
none-accepted run (Add d) = by (is_live (live run.setup.documents run.later) d.id) (none_full d.words)
  where
    has : List ℕ → Bool
    has word = is_listed run.setup run.later word d.id || nat_lt (counter run.setup run.later word) (2 ^ 32 - 1)

    later : (b : Bool) (o : Option ℕ) (all : Bool) → is_none o ≡ all → is_none (cond (not b) (Some 0) (option_map (λ n. suc n) o)) ≡ (b && all)
    later true None all e = e
    later true (Some n) all e = e
    later false o all e = refl

    none_full : (words : List (List ℕ)) → is_none (position (λ word. not (has word)) words) ≡ list_all has words
    none_full [] = refl
    none_full (word ∷ words) =
        ap is_none (position-cons (λ w. not (has w)) word words) ∙ later (has word) (position (λ w. not (has w)) words) (list_all has words) (none_full words)

    named : (o : Option ℕ) (all : Bool) → is_none o ≡ all → is_none (option_map (λ p. CounterFull p) o) ≡ all
    named None all e = e
    named (Some n) all e = e

    by : (b : Bool) → is_none (position (λ word. not (has word)) d.words) ≡ list_all has d.words
        → is_none (if b then Some (AlreadyLive d.id) else option_map (λ p. CounterFull p) (position (λ word. not (has word)) d.words)) ≡ (not b && list_all has d.words)
    by true e = refl
    by false e = named (position (λ word. not (has word)) d.words) (list_all has d.words) e
none-accepted run (Delete id) = by (is_live (live run.setup.documents run.later) id)
  where
    by : (b : Bool) → is_none (if b then None else Some (UnknownDocument id)) ≡ b
    by true = refl
    by false = refl
none-accepted run (Search word) = refl

-- comparisons that mean the same
pub lt_same : (a b c d : ℕ) → (a < b → c < d) → (c < d → a < b) → nat_lt a b ≡ nat_lt c d
lt_same a b c d to from = by (nat_lt a b) refl (nat_lt c d) refl
  where
    by : (x : Bool) → nat_lt a b ≡ x → (y : Bool) → nat_lt c d ≡ y → x ≡ y
    by true p true q = refl
    by false p false q = refl
    by true p false q = absurd (omega (arith, to (ltb-true a b p), ltb-false c d q))
    by false p true q = absurd (omega (arith, from (ltb-true c d q), ltb-false a b p))

pub le_same : (a b c d : ℕ) → (a ≤ b → c < d) → (c < d → a ≤ b) → nat_le a b ≡ nat_lt c d
le_same a b c d to from = by (nat_le a b) refl (nat_lt c d) refl
  where
    by : (x : Bool) → nat_le a b ≡ x → (y : Bool) → nat_lt c d ≡ y → x ≡ y
    by true p true q = refl
    by false p false q = refl
    by true p false q = absurd (omega (arith, to (leb-true a b p), ltb-false c d q))
    by false p true q = absurd (omega (arith, from (ltb-true c d q), leb-false a b p))

module _ (es : Epochs) (commands frames : ℕ) (number : commands ≡ (next_begins es).command) (taken : frames ≡ (next_begins es).frame) (below : frames < 2 ^ 32) where
  numbers_left : (after : Epochs) (more : ℕ) → (next_begins after).command ≡ (next_begins es).command + 1 → (next_begins after).frame ≡ (next_begins es).frame + more
      → (nat_lt commands (2 ^ 32 - 1) && nat_le more (2 ^ 32 - 1 - frames)) ≡ (nat_lt (next_begins after).command (2 ^ 32) && nat_lt (next_begins after).frame (2 ^ 32))
  numbers_left after more next next2 = λ i.
      lt_same commands (2 ^ 32 - 1) (next_begins after).command (2 ^ 32) (λ lt. omega (arith, lt, next, number)) (λ lt. omega (arith, lt, next, number)) i
      && le_same more (2 ^ 32 - 1 - frames) (next_begins after).frame (2 ^ 32) (λ le. omega (arith, le, next2, taken, below)) (λ lt. omega (arith, lt, next2, taken, below)) i

  pub takes-does : (c : Command)
      → (is_none (push_refusal (last_run es) c) && (nat_lt commands (2 ^ 32 - 1) && nat_le (length (filter is_update (c ∷ []))) (2 ^ 32 - 1 - frames))) ≡ can_take (Some es) (Goes (Does c))
  takes-does c = let next = next-does es c in
      λ i. none-accepted (last_run es) c i && numbers_left (with_commands (c ∷ []) es) (length (filter is_update (c ∷ []))) next.0 next.1 i

  pub takes-renews : (key : List ℕ)
      → (can_set_up (setup_renewed (last_run es)) && (nat_lt commands (2 ^ 32 - 1) && nat_le (frames_needed (setup_renewed (last_run es))) (2 ^ 32 - 1 - frames))) ≡ can_take (Some es) (Goes (Renews key))
  takes-renews key = let next = next-renews es key in
      λ i. can_set_up (setup_renewed (last_run es)) && numbers_left (with_renewal key es) (frames_needed (setup_renewed (last_run es))) next.0 next.1 i

-- Setups.

pub renews_if : (setup commands frames : Bool) → (commands && (setup && frames)) ≡ (setup && (commands && frames))
renews_if true true frames = refl
renews_if true false frames = refl
renews_if false true frames = refl
renews_if false false frames = refl

module _ (s : Setup) where
  -- documents that aren't too many are set up if their index has a size
  pub live_none : live_refusal s.documents ≡ None → can_set_up s ≡ is_none (size_refusal s)
  live_none = by (nat_lt (2 ^ 18) (length s.documents)) (nat_lt (2 ^ 20) (pairs_of s.documents))
    where
      by : (a b : Bool) → (if a then Some (TooManyDocuments (length s.documents)) else if b then Some (TooManyPairs (pairs_of s.documents)) else None) ≡ None
          → (not a && not b && is_none (size_refusal s)) ≡ is_none (size_refusal s)
      by true b e = absurd (cc)
      by false true e = absurd (cc)
      by false false e = refl

  -- too many aren't
  pub live_some : (fault : DocsFault) → live_refusal s.documents ≡ Some fault → can_set_up s ≡ false
  live_some fault = by (nat_lt (2 ^ 18) (length s.documents)) (nat_lt (2 ^ 20) (pairs_of s.documents))
    where
      by : (a b : Bool) → (if a then Some (TooManyDocuments (length s.documents)) else if b then Some (TooManyPairs (pairs_of s.documents)) else None) ≡ Some fault
          → (not a && not b && is_none (size_refusal s)) ≡ false
      by true b e = refl
      by false true e = refl
      by false false e = absurd (cc)

  -- collected documents are a first setup if their index has a size
  pub takes-setup : IsCollected s.documents → can_take None (SetsUp s) ≡ is_none (size_refusal s)
  takes-setup collected = by (size_refusal s) refl
    where
      few : live_refusal s.documents ≡ None
      few =
          (λ i. if le-ltb (2 ^ 18) (length s.documents) collected.documents i then Some (TooManyDocuments (length s.documents)) else if le-ltb (2 ^ 20) (pairs_of s.documents) collected.pairs i then Some (TooManyPairs (pairs_of s.documents)) else None)

      by : (o : Option SizeFault) → size_refusal s ≡ o → can_take None (SetsUp s) ≡ is_none (size_refusal s)
      by None e =
          let frames : (next_begins (From at_first (record { setup = s; later = [] }))).frame < 2 ^ 32 = omega (arith, accepted_frames s e collected) in
          (λ i. (live_none few ∙ ap is_none e) i && (true && lt-ltb (next_begins (From at_first (record { setup = s; later = [] }))).frame (2 ^ 32) frames i)) ∙ sym (ap is_none e)
      by (Some fault) e = ap (λ b. b && is_numbered (begun_by s)) (live_none few ∙ ap is_none e) ∙ sym (ap is_none e)

-- What a call answers of them.

abbrev failed : (A E : Type 0) → E → Result A E
failed A E fault = Err fault

abbrev given : (A E : Type 0) → A → Result A E
given A E x = Ok x

module _ (A : Type 0) (s : Setup) where
  -- documents that are given aren't too many
  pub told_live : (docs : A) → IfSome (live_refusal s.documents) (λ fault. given A DocsFault docs ≡ failed A DocsFault fault) → live_refusal s.documents ≡ None
  told_live docs = by (live_refusal s.documents)
    where
      by : (o : Option DocsFault) → IfSome o (λ fault. given A DocsFault docs ≡ failed A DocsFault fault) → o ≡ None
      by None told = refl
      by (Some fault) told = absurd (cc)

  -- those that aren't given are, unless memory ran out
  pub not_live : (cause : DocsFault) → (live_refusal s.documents ≡ None → IsOkUnless (failed A DocsFault cause) NoMemory) → cause ≢ NoMemory → can_set_up s ≡ false
  not_live cause accepted other = by (live_refusal s.documents) refl
    where
      by : (o : Option DocsFault) → live_refusal s.documents ≡ o → can_set_up s ≡ false
      by None e = absurd (other (accepted e))
      by (Some fault) e = live_some s fault e

-- a size that isn't given is refused
pub refused_size : (A : Type 0) (o : Option SizeFault) (cause : SizeFault) → (o ≡ None → IsOk (failed A SizeFault cause)) → is_none o ≡ false
refused_size A None cause accepted = absurd (true≢false (sym (accepted refl)))
refused_size A (Some fault) cause accepted = refl

-- What follows if a command is taken.

both : (a b : Bool) → (a && b) ≡ true → (a ≡ true) × (b ≡ true)
both a b = and_parts a b

pub no_refusal_none : {A : Type 0} (o : Option A) → is_none o ≡ true → o ≡ None
no_refusal_none None e = refl
no_refusal_none (Some x) e = absurd (true≢false (sym e))

pub taken-does : (es : Epochs) (c : Command) → can_take (Some es) (Goes (Does c)) ≡ true
    → (is_accepted (last_run es).setup (last_run es).later c ≡ true) × ((next_begins es).command + 1 < 2 ^ 32) × ((next_begins es).frame + length (filter is_update (c ∷ [])) < 2 ^ 32)
taken-does es c taken =
    let after = with_commands (c ∷ []) es in
    let parts = both (is_accepted (last_run es).setup (last_run es).later c) (is_numbered (Some after)) taken in
    let numbers = both (nat_lt (next_begins after).command (2 ^ 32)) (nat_lt (next_begins after).frame (2 ^ 32)) parts.1 in
    let next = next-does es c in
    (parts.0, omega (arith, next.0, ltb-true (next_begins after).command (2 ^ 32) numbers.0), omega (arith, next.1, ltb-true (next_begins after).frame (2 ^ 32) numbers.1))

pub taken-renews : (es : Epochs) (key : List ℕ) → can_take (Some es) (Goes (Renews key)) ≡ true
    → (can_set_up (setup_renewed (last_run es)) ≡ true) × ((next_begins es).command + 1 < 2 ^ 32) × ((next_begins es).frame + frames_needed (setup_renewed (last_run es)) < 2 ^ 32)
taken-renews es key taken =
    let after = with_renewal key es in
    let parts = both (can_set_up (setup_renewed (last_run es))) (is_numbered (Some after)) taken in
    let numbers = both (nat_lt (next_begins after).command (2 ^ 32)) (nat_lt (next_begins after).frame (2 ^ 32)) parts.1 in
    let next = next-renews es key in
    (parts.0, omega (arith, next.0, ltb-true (next_begins after).command (2 ^ 32) numbers.0), omega (arith, next.1, ltb-true (next_begins after).frame (2 ^ 32) numbers.1))

-- a renewal that is taken isn't refused
pub unrefused : (s : Setup) (most : ℕ) → can_set_up s ≡ true → frames_needed s ≤ most → renewal_refusal most s ≡ None
unrefused s most can fits = by (nat_lt (2 ^ 18) (length s.documents)) (nat_lt (2 ^ 20) (pairs_of s.documents)) (size_refusal s) (nat_lt most (frames_needed s)) can (le-ltb most (frames_needed s) fits)
  where
    by : (a b : Bool) (o : Option SizeFault) (large : Bool) → (not a && not b && is_none o) ≡ true → large ≡ false
        → option_or (option_and_then fault_of_docs (if a then Some (TooManyDocuments (length s.documents)) else if b then Some (TooManyPairs (pairs_of s.documents)) else None))
        (option_or (option_and_then fault_of_size o) (if large then Some HistoryFull else None)) ≡ None
    by true b o large e fits = absurd (true≢false (sym e))
    by false true o large e fits = absurd (true≢false (sym e))
    by false false (Some fault) large e fits = absurd (true≢false (sym e))
    by false false None true e fits = absurd (true≢false fits)
    by false false None false e fits = refl
