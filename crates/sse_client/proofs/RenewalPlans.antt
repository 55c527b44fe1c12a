-- What a plan of a renewal says of the script's line: the same refusals, in the same order, the frames and the clash of the setup under the new key.
use Rattle.std.proofs.Common.{◌≡◌, ◌≢◌, ◌⊎◌, inl, inr, ℕ, ◌+◌, ◌-◌, ◌^◌, Bool, true, false, List, length, Option, None, Some, is_some, nat_le, nat_lt, refl, sym, ap, subst, ◌∙◌, arith, Err, Ok}
use Rattle.std.specs.Prelude.{IfErr, IfOk, IfSome, IsSome, Result, bytes_eq, is_none, position, slice_index, if◌then◌else◌, option_map}
use Rattle.std.specs.Option.{option_and_then, option_or}
use Rattle.std.specs.Result.{result_err}
use Rattle.std.proofs.lemmas.Bool.{true≢false, leb-true, leb-false, lt-ltb, le-ltb}
use Rattle.client_core.specs.Renewals.{renewal_clash}
use Rattle.client_registry.specs.Acceptance.{bytes_refusal, frames_needed, index_bytes, list_refusal, parameter_refusal, size_refusal}
use Rattle.client_registry.specs.Document.{Document}
use Rattle.client_registry.specs.Documents.{list_lengths, pairs_of}
use Rattle.client_registry.specs.Epochs.{begins, next_begins, setup_renewed}
use Rattle.client_registry.specs.Histories.{IsKept}
use Rattle.client_registry.specs.Run.{Epochs, From, last_run}
use Rattle.client_registry.specs.Setup.{Setup}
use Rattle.client_registry.specs.FirstClash.{first_clash}
use Rattle.client_registry.specs.declared.faults.DocsFault.TheVariants as documents
use Rattle.client_registry.specs.declared.faults.SizeFault.{SizeFault}
use Rattle.client_registry.specs.declared.faults.SizeFault.TheVariants as sizes
use Rattle.client_renewal.specs.Refusals as renewals
use Rattle.client_renewal.specs.Refusals.{fault_of_size}
use Rattle.client_renewal.specs.declared.renewal_fault.RenewalFault.{RenewalFault}
use Rattle.client_renewal.specs.declared.renewal_fault.RenewalFault.TheVariants as faults
use Rattle.script_documents.proofs.Passed.{neither}
use Rattle.script_run_texts.specs.Stops.{command_cause}
use Rattle.script_run_texts.specs.declared.command_stop.CommandStop.{CommandStop}
use Rattle.script_run_texts.specs.declared.command_stop.CommandStop.TheVariants as stops
use Rattle.sse_model.specs.Compared.{Collision, Labels, Numbers, Places, collision_of_setup}
use Rattle.sse_model.specs.Names.{Table}
use Rattle.sse_model.specs.Positions.{block_positions, entry_positions}
use Rattle.sse_model.specs.Wire.{labels_in}
use Rattle.two_level.specs.Plan.{plan}
use Rattle.sse_script.specs.Shown.{Cause}
use Rattle.sse_script.specs.declared.refusal.Refusal.{Refusal}
use Rattle.sse_script.specs.declared.refusal.Refusal.TheVariants as refusals
use Rattle.def_script_meaning.specs.Carries.{collision_cause}
use Rattle.def_script_meaning.specs.Refused as script
use Rattle.def_script_meaning.specs.Refused.{size_refused}
use Rattle.sse_client.specs.RenewalFaults.{renewal_answer}

-- The refusal that an answer is, if it is one.

abbrev pub refusal_in : Result Refusal CommandStop → Option Refusal
refusal_in (Ok refusal) = Some refusal
refusal_in (Err stop) = None

abbrev pub told : RenewalFault → Option Refusal
told fault = refusal_in (renewal_answer fault)

-- a fault that is a refusal
abbrev Refuses : RenewalFault → Type 0
Refuses fault = IsSome (told fault)

-- the first refusal of two lists is told first
refused_at_once : (a b : Option RenewalFault) → IfSome a Refuses → option_and_then told (option_or a b) ≡ option_or (option_and_then told a) (option_and_then told b)
refused_at_once None b some = refl
refused_at_once (Some x) b some = by (told x) some
  where
    by : (r : Option Refusal) → IsSome r → r ≡ option_or r (option_and_then told b)
    by None some = absurd (true≢false (sym some))
    by (Some refusal) some = refl

refuses_first : (a b : Option RenewalFault) → IfSome a Refuses → IfSome b Refuses → IfSome (option_or a b) Refuses
refuses_first None b some more = more
refuses_first (Some x) b some more = some

-- The causes, one by one.

-- the key
key_same : (marks : List (List ℕ)) (mark : List ℕ) → script.key_refusal marks mark ≡ option_and_then told (renewals.key_refusal marks mark)
key_same marks mark = by (position (bytes_eq mark) marks)
  where
    by : (place : Option ℕ) → option_map (λ epoch. refusals.KeyUsed epoch) place ≡ option_and_then told (option_map (λ epoch. faults.KeyUsed epoch) place)
    by None = refl
    by (Some epoch) = refl

key_refuses : (marks : List (List ℕ)) (mark : List ℕ) → IfSome (renewals.key_refusal marks mark) Refuses
key_refuses marks mark = by (position (bytes_eq mark) marks)
  where
    by : (place : Option ℕ) → IfSome (option_map (λ epoch. faults.KeyUsed epoch) place) Refuses
    by None = tt
    by (Some epoch) = refl

-- the live documents
module _ (docs : List Document) where
  live_same : script.live_refusal docs ≡ option_and_then told (renewals.live_refusal docs)
  live_same = by (nat_lt (2 ^ 18) (length docs)) (nat_lt (2 ^ 20) (pairs_of docs))
    where
      by : (many paired : Bool) → (if many then Some (refusals.TooManyDocuments (length docs)) else if paired then Some (refusals.TooManyPairs (pairs_of docs)) else None)
          ≡ option_and_then told (option_and_then renewals.fault_of_docs (if many then Some (documents.TooManyDocuments (length docs)) else if paired then Some (documents.TooManyPairs (pairs_of docs)) else None))
      by true paired = refl
      by false true = refl
      by false false = refl

  live_refuses : IfSome (renewals.live_refusal docs) Refuses
  live_refuses = by (nat_lt (2 ^ 18) (length docs)) (nat_lt (2 ^ 20) (pairs_of docs))
    where
      by : (many paired : Bool) → IfSome (option_and_then renewals.fault_of_docs (if many then Some (documents.TooManyDocuments (length docs)) else if paired then Some (documents.TooManyPairs (pairs_of docs)) else None)) Refuses
      by true paired = refl
      by false true = refl
      by false false = tt

-- the size, where the parameters are accepted
module _ (s : Setup) (parameters : parameter_refusal s ≡ None) where
  abbrev by_size : (p lists : Option SizeFault) → (large : Bool) → Option SizeFault
  by_size p lists large = option_or p (option_or lists (if large then Some (sizes.TooManyBytes (index_bytes s)) else None))

  size_same : option_map size_refused (size_refusal s) ≡ option_and_then told (option_and_then fault_of_size (size_refusal s))
  size_same = by (parameter_refusal s) parameters (position (λ n. is_none (plan s.shape n)) (list_lengths s.documents)) (nat_lt (2 ^ 28) (index_bytes s))
    where
      by : (p : Option SizeFault) → p ≡ None → (word : Option ℕ) (large : Bool)
          → option_map size_refused (by_size p (option_map (λ word. sizes.ListTooLong word (slice_index (list_lengths s.documents) word)) word) large)
          ≡ option_and_then told (option_and_then fault_of_size (by_size p (option_map (λ word. sizes.ListTooLong word (slice_index (list_lengths s.documents) word)) word) large))
      by (Some x) none word large = absurd (cc)
      by None none (Some word) large = refl
      by None none None true = refl
      by None none None false = refl

  size_refuses : IfSome (option_and_then fault_of_size (size_refusal s)) Refuses
  size_refuses = by (parameter_refusal s) parameters (position (λ n. is_none (plan s.shape n)) (list_lengths s.documents)) (nat_lt (2 ^ 28) (index_bytes s))
    where
      by : (p : Option SizeFault) → p ≡ None → (word : Option ℕ) (large : Bool)
          → IfSome (option_and_then fault_of_size (by_size p (option_map (λ word. sizes.ListTooLong word (slice_index (list_lengths s.documents) word)) word) large)) Refuses
      by (Some x) none word large = absurd (cc)
      by None none (Some word) large = refl
      by None none None true = refl
      by None none None false = tt

-- the numbers of the frames
module _ (n more : ℕ) where
  full_same : (if nat_lt (2 ^ 32 - 1) (n + more) then Some refusals.HistoryFull else None) ≡ option_and_then told (renewals.full_refusal n more)
  full_same = ap (λ full. if full then Some refusals.HistoryFull else None) (by (nat_le (2 ^ 32) (n + more)) refl) ∙ told_full (nat_le (2 ^ 32) (n + more))
    where
      by : (b : Bool) → nat_le (2 ^ 32) (n + more) ≡ b → nat_lt (2 ^ 32 - 1) (n + more) ≡ b
      by true is = lt-ltb (2 ^ 32 - 1) (n + more) (omega (arith, leb-true _ _ is))
      by false is = le-ltb (2 ^ 32 - 1) (n + more) (omega (arith, leb-false _ _ is))

      told_full : (b : Bool) → (if b then Some refusals.HistoryFull else None) ≡ option_and_then told (if b then Some faults.HistoryFull else None)
      told_full true = refl
      told_full false = refl

  full_refuses : IfSome (renewals.full_refusal n more) Refuses
  full_refuses = by (nat_le (2 ^ 32) (n + more))
    where
      by : (b : Bool) → IfSome (if b then Some faults.HistoryFull else None) Refuses
      by true = refl
      by false = tt

-- All causes, after a run that keeps all limits.

module _ (es : Epochs) (kept : IsKept (Some (From (begins es) (last_run es)))) (marks : List (List ℕ)) (mark : List ℕ) where
  abbrev s : Setup
  s = setup_renewed (last_run es)

  abbrev n : ℕ
  n = (next_begins es).frame

  -- its parameters are those of the run's setup
  parameters : parameter_refusal s ≡ None
  parameters = (neither (parameter_refusal (last_run es).setup) (option_or (list_refusal (last_run es).setup) (bytes_refusal (last_run es).setup)) kept.0.setup).0

  abbrev client_refusal : Option RenewalFault
  client_refusal = renewals.renewal_refusal marks mark n s

  pub refuses-renewal : option_or (script.key_refusal marks mark) (script.renewal_refusal (Some es) s) ≡ option_and_then told client_refusal
  refuses-renewal =
      (λ i. option_or (key_same marks mark i) (option_or (live_same s.documents i) (option_or (size_same s parameters i) (full_same n (frames_needed s) i))))
      ∙ ap (λ r. option_or (option_and_then told (renewals.key_refusal marks mark)) (option_or (option_and_then told (renewals.live_refusal s.documents)) r)) (sym (refused_at_once (option_and_then fault_of_size (size_refusal s)) (renewals.full_refusal n (frames_needed s)) (size_refuses s parameters)))
      ∙ ap (option_or (option_and_then told (renewals.key_refusal marks mark))) (sym (refused_at_once (renewals.live_refusal s.documents) (renewals.refusal_to_send n s) (live_refuses s.documents)))
      ∙ sym (refused_at_once (renewals.key_refusal marks mark) (option_or (renewals.live_refusal s.documents) (renewals.refusal_to_send n s)) (key_refuses marks mark))

  pub all_refuse : IfSome client_refusal Refuses
  all_refuse =
      refuses_first (renewals.key_refusal marks mark) (option_or (renewals.live_refusal s.documents) (renewals.refusal_to_send n s)) (key_refuses marks mark)
      (refuses_first (renewals.live_refusal s.documents) (renewals.refusal_to_send n s) (live_refuses s.documents)
      (refuses_first (option_and_then fault_of_size (size_refusal s)) (renewals.full_refusal n (frames_needed s)) (size_refuses s parameters) (full_refuses n (frames_needed s))))

-- the causes that are found without memory: the key, and what is live
module _ (docs : List Document) (marks : List (List ℕ)) (mark : List ℕ) where
  pub refuses-early : option_or (script.key_refusal marks mark) (script.live_refusal docs) ≡ option_and_then told (option_or (renewals.key_refusal marks mark) (renewals.live_refusal docs))
  refuses-early =
      (λ i. option_or (key_same marks mark i) (live_same docs i))
      ∙ sym (refused_at_once (renewals.key_refusal marks mark) (renewals.live_refusal docs) (key_refuses marks mark))

  early_refuse : IfSome (option_or (renewals.key_refusal marks mark) (renewals.live_refusal docs)) Refuses
  early_refuse = refuses_first (renewals.key_refusal marks mark) (renewals.live_refusal docs) (key_refuses marks mark) (live_refuses docs)

  -- where the run stops, or there is a plan, none of them stands
  pub not_early : {X : Type 0} (r : Result X RenewalFault) → IfSome (option_or (renewals.key_refusal marks mark) (renewals.live_refusal docs)) (λ fault. r ≡ Err fault) → ((fault : RenewalFault) → r ≡ Err fault → told fault ≡ None)
      → option_or (script.key_refusal marks mark) (script.live_refusal docs) ≡ None
  not_early {X} r first untold = refuses-early ∙ by (option_or (renewals.key_refusal marks mark) (renewals.live_refusal docs)) first early_refuse
    where
      by : (o : Option RenewalFault) → IfSome o (λ fault. r ≡ Err fault) → IfSome o Refuses → option_and_then told o ≡ None
      by None first some = refl
      by (Some fault) first some = absurd (true≢false (sym some ∙ ap is_some (untold fault first)))

-- Plans.

-- of a renewal that is refused for this reason, or for none, and whose values have this clash, or none: the answer to a fault of its plan
abbrev pub AnswersFault : (why : Option Refusal) (clash : Option Cause) → Result Refusal CommandStop → Type 0
AnswersFault why clash (Ok refusal) = why ≡ Some refusal
AnswersFault why clash (Err stop) = (stop ≡ stops.Memory) ⊎ ((why ≡ None) × (clash ≡ Some (command_cause stop)))

pub record IsRenewalFor {X : Type 0} (why : Option Refusal) (clash : Option Cause) (r : Result X RenewalFault) : Type 0 where
  pub planned : IfOk r (λ x. (why ≡ None) × (clash ≡ None))
  pub fault : IfErr r (λ fault. AnswersFault why clash (renewal_answer fault))

-- two equal values of a setup: it has no revocation numbers
abbrev IsOfSetup : Collision → Type 0
IsOfSetup (Labels first second) = Unit {0}
IsOfSetup (Places first second) = Unit {0}
IsOfSetup (Numbers first second) = ⊥

pub no_numbers : (t : Table) (epoch : ℕ) (s : Setup) → IfSome (collision_of_setup t epoch s) IsOfSetup
no_numbers t epoch s = by (first_clash (labels_in t (entry_positions epoch s))) (first_clash (labels_in t (block_positions epoch s)))
  where
    by : (labels places : Option (ℕ × ℕ)) → IfSome (option_or (option_map (λ two. Labels two.0 two.1) labels) (option_map (λ two. Places two.0 two.1) places)) IsOfSetup
    by (Some two) places = tt
    by None (Some two) = tt
    by None None = tt

module _ (refusal : Option RenewalFault) (equal : Option Collision) (refuses : IfSome refusal Refuses) (setup : IfSome equal IsOfSetup) where
  abbrev why : Option Refusal
  why = option_and_then told refusal

  abbrev clash : Option Cause
  clash = option_map collision_cause equal

  -- a fault that isn't want of memory is the first refusal, or else the equal values
  named : (fault : RenewalFault) → Some fault ≡ option_or refusal (option_map renewal_clash equal) → AnswersFault why clash (renewal_answer fault)
  named fault is = by refusal refuses equal setup is
    where
      equals : (c : Collision) → IsOfSetup c → AnswersFault None (Some (collision_cause c)) (renewal_answer (renewal_clash c))
      equals (Labels first second) here = inr (refl, refl)
      equals (Places first second) here = inr (refl, refl)
      equals (Numbers first second) here = absurd here

      refused : (x : RenewalFault) → Refuses x → (c : Option Collision) → AnswersFault (told x) (option_map collision_cause c) (renewal_answer x)
      refused (faults.KeyUsed epoch) some c = refl
      refused (faults.TooManyDocuments n) some c = refl
      refused (faults.TooManyPairs n) some c = refl
      refused (faults.ListTooLong word n) some c = refl
      refused (faults.TooManyBytes n) some c = refl
      refused faults.HistoryFull some c = refl
      refused (faults.LabelClash i j) some c = absurd (true≢false (sym some))
      refused (faults.PlaceClash i j) some c = absurd (true≢false (sym some))
      refused faults.NoMemory some c = absurd (true≢false (sym some))

      by : (o : Option RenewalFault) → IfSome o Refuses → (c : Option Collision) → IfSome c IsOfSetup → Some fault ≡ option_or o (option_map renewal_clash c)
          → AnswersFault (option_and_then told o) (option_map collision_cause c) (renewal_answer fault)
      by (Some x) some c setup is = let same : x ≡ fault = cc in subst (λ e. AnswersFault (told x) (option_map collision_cause c) (renewal_answer e)) same (refused x some c)
      by None none None setup is = absurd (cc)
      by None none (Some c) setup is = let same : renewal_clash c ≡ fault = cc in subst (λ e. AnswersFault None (Some (collision_cause c)) (renewal_answer e)) same (equals c setup)

  -- by the clause of a plan that tells its fault
  pub renewal_for : {X : Type 0} (r : Result X RenewalFault) → (r ≢ Err faults.NoMemory → result_err r ≡ option_or refusal (option_map renewal_clash equal)) → IsRenewalFor why clash r
  renewal_for {X} (Ok x) fault = record { planned = by refusal equal (fault (λ memory. absurd (cc))); fault = tt }
    where
      by : (o : Option RenewalFault) (c : Option Collision) → None ≡ option_or o (option_map renewal_clash c) → (option_and_then told o ≡ None) × (option_map collision_cause c ≡ None)
      by None None h = (refl, refl)
      by None (Some c) h = absurd (cc)
      by (Some x) c h = absurd (cc)
  renewal_for {X} (Err e) fault = record { planned = tt; fault = by e fault }
    where
      by : (e : RenewalFault) → ((◌≢◌ {A = Result X RenewalFault} (Err e) (Err faults.NoMemory)) → Some e ≡ option_or refusal (option_map renewal_clash equal)) → AnswersFault why clash (renewal_answer e)
      by (faults.KeyUsed epoch) h = named _ (h (λ memory. cc))
      by (faults.TooManyDocuments n) h = named _ (h (λ memory. cc))
      by (faults.TooManyPairs n) h = named _ (h (λ memory. cc))
      by (faults.ListTooLong word n) h = named _ (h (λ memory. cc))
      by (faults.TooManyBytes n) h = named _ (h (λ memory. cc))
      by faults.HistoryFull h = named _ (h (λ memory. cc))
      by (faults.LabelClash i j) h = named _ (h (λ memory. cc))
      by (faults.PlaceClash i j) h = named _ (h (λ memory. cc))
      by faults.NoMemory h = inl refl
