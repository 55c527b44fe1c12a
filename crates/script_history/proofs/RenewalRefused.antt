-- Why the key isn't renewed, by what the epochs say of it: the same refusals in the same order; and what is so of a renewal that is taken.
use Rattle.std.proofs.Common.{◌≡◌, ◌≤◌, ◌<◌, ℕ, ◌+◌, ◌-◌, ◌^◌, ◌||◌, Bool, true, false, List, length, Option, None, Some, nat_lt, refl, sym, ap, ◌∙◌, arith}
use Rattle.std.specs.Prelude.{Err, IfSome, IsSome, Result, is_none, position, slice_index, if◌then◌else◌, option_map}
use Rattle.std.specs.Option.{option_and_then, option_or}
use Rattle.std.proofs.lemmas.Bool.{true≢false, lt-ltb, le-ltb, ltb-true, ltb-false}
use Rattle.client_registry.proofs.HistoryLaws.{IsHistory-last, IsKept-renewed}
use Rattle.client_registry.specs.Acceptance.{bytes_refusal, frames_needed, index_bytes, list_refusal, parameter_refusal, size_refusal}
use Rattle.client_registry.specs.Documents.{list_lengths, pairs_of}
use Rattle.client_registry.specs.Epochs.{setup_renewed, with_renewal}
use Rattle.client_registry.specs.Histories.{commands_in, frames_in}
use Rattle.client_registry.specs.Run.{Epochs, last_run}
use Rattle.client_registry.specs.Setup.{Setup}
use Rattle.client_registry.specs.declared.faults.DocsFault.TheVariants as documents
use Rattle.client_registry.specs.declared.faults.SizeFault.{SizeFault}
use Rattle.client_registry.specs.declared.faults.SizeFault.TheVariants as sizes
use Rattle.leakage_history.specs.Renewals as renewals
use Rattle.leakage_history.specs.Renewals.{fault_of_size}
use Rattle.leakage_history.specs.declared.renewal_fault.RenewalFault.{RenewalFault}
use Rattle.leakage_history.specs.declared.renewal_fault.RenewalFault.TheVariants as faults
use Rattle.two_level.specs.Plan.{plan}
use Rattle.script_documents.proofs.Passed.{neither}
use Rattle.def_script_meaning.proofs.Renewals.{IsCollected-renewed}
use Rattle.def_script_meaning.specs.Refused as script
use Rattle.def_script_meaning.specs.Refused.{size_refused}
use Rattle.sse_script.specs.declared.refusal.Refusal.{Refusal}
use Rattle.sse_script.specs.declared.refusal.Refusal.TheVariants as refusals
use Rattle.script_history.specs.Numbered.{frames_free, renew_refusal, renewal_fault_refusal}
use Rattle.script_history.specs.Reads.{IsCountable, is_full, words_in}
use Rattle.script_history.proofs.KnownWords.{words-renewed}

-- a fault that is a refusal
abbrev Refuses : RenewalFault → Type 0
Refuses fault = IsSome (renewal_fault_refusal fault)

abbrev told : Option RenewalFault → Option Refusal
told first = option_and_then renewal_fault_refusal first

-- the first refusal of two lists is told first
told_at_once : (a b : Option RenewalFault) → IfSome a Refuses → told (option_or a b) ≡ option_or (told a) (told b)
told_at_once None b some = refl
told_at_once (Some x) b some = by (renewal_fault_refusal x) some
  where
    by : (r : Option Refusal) → IsSome r → r ≡ option_or r (told b)
    by None some = absurd (true≢false (sym some))
    by (Some refusal) some = refl

-- The causes, one by one.

-- the live documents
module _ (s : Setup) where
  docs_same : script.live_refusal s.documents ≡ told (renewals.docs_refusal s)
  docs_same = by (nat_lt (2 ^ 18) (length s.documents)) (nat_lt (2 ^ 20) (pairs_of s.documents))
    where
      by : (many paired : Bool) → (if many then Some (refusals.TooManyDocuments (length s.documents)) else if paired then Some (refusals.TooManyPairs (pairs_of s.documents)) else None)
          ≡ told (option_and_then renewals.fault_of_docs (if many then Some (documents.TooManyDocuments (length s.documents)) else if paired then Some (documents.TooManyPairs (pairs_of s.documents)) else None))
      by true paired = refl
      by false true = refl
      by false false = refl

  docs_refuse : IfSome (renewals.docs_refusal s) Refuses
  docs_refuse = by (nat_lt (2 ^ 18) (length s.documents)) (nat_lt (2 ^ 20) (pairs_of s.documents))
    where
      by : (many paired : Bool) → IfSome (option_and_then renewals.fault_of_docs (if many then Some (documents.TooManyDocuments (length s.documents)) else if paired then Some (documents.TooManyPairs (pairs_of s.documents)) else None)) Refuses
      by true paired = refl
      by false true = refl
      by false false = tt

-- the size, where the parameters are accepted
module _ (s : Setup) (parameters : parameter_refusal s ≡ None) where
  abbrev by_size : (p lists : Option SizeFault) → (large : Bool) → Option SizeFault
  by_size p lists large = option_or p (option_or lists (if large then Some (sizes.TooManyBytes (index_bytes s)) else None))

  size_same : option_map size_refused (size_refusal s) ≡ told (option_and_then fault_of_size (size_refusal s))
  size_same = by (parameter_refusal s) parameters (position (λ n. is_none (plan s.shape n)) (list_lengths s.documents)) (nat_lt (2 ^ 28) (index_bytes s))
    where
      by : (p : Option SizeFault) → p ≡ None → (word : Option ℕ) (large : Bool)
          → option_map size_refused (by_size p (option_map (λ word. sizes.ListTooLong word (slice_index (list_lengths s.documents) word)) word) large)
          ≡ told (option_and_then fault_of_size (by_size p (option_map (λ word. sizes.ListTooLong word (slice_index (list_lengths s.documents) word)) word) large))
      by (Some x) none word large = absurd (cc)
      by None none (Some word) large = refl
      by None none None true = refl
      by None none None false = refl

  size_refuses : IfSome (option_and_then fault_of_size (size_refusal s)) Refuses
  size_refuses = by (parameter_refusal s) parameters (position (λ n. is_none (plan s.shape n)) (list_lengths s.documents)) (nat_lt (2 ^ 28) (index_bytes s))
    where
      by : (p : Option SizeFault) → p ≡ None → (word : Option ℕ) (large : Bool)
          → IfSome (option_and_then fault_of_size (by_size p (option_map (λ word. sizes.ListTooLong word (slice_index (list_lengths s.documents) word)) word) large)) Refuses
      by (Some x) none word large = absurd (cc)
      by None none (Some word) large = refl
      by None none None true = refl
      by None none None false = tt

-- the numbers of the frames and of the renewal itself, of which this many are free where the renewal has a number
module _ (frames more commands : ℕ) (some : 1 ≤ more) where
  abbrev free : Bool → ℕ
  free full = if full then 0 else 2 ^ 32 - 1 - frames

  full_same : frames ≤ 2 ^ 32 - 1
      → option_or (if nat_lt (2 ^ 32 - 1) (frames + more) then Some refusals.HistoryFull else None) (if nat_lt (2 ^ 32 - 1) (commands + 2) then Some refusals.HistoryFull else None)
      ≡ told (if nat_lt (free (nat_lt (2 ^ 32 - 1) (commands + 2))) more then Some faults.HistoryFull else None)
  full_same below = by (nat_lt (2 ^ 32 - 1) (commands + 2))
    where
      told_full : (b : Bool) → (if b then Some refusals.HistoryFull else None) ≡ told (if b then Some faults.HistoryFull else None)
      told_full true = refl
      told_full false = refl

      same : (b : Bool) → nat_lt (2 ^ 32 - 1) (frames + more) ≡ b → nat_lt (2 ^ 32 - 1 - frames) more ≡ b
      same true is = lt-ltb (2 ^ 32 - 1 - frames) more (let above : 2 ^ 32 - 1 < frames + more = ltb-true _ _ is in omega (arith, above, below, some))
      same false is = le-ltb (2 ^ 32 - 1 - frames) more (let within : frames + more ≤ 2 ^ 32 - 1 = ltb-false _ _ is in omega (arith, within))

      either : (b : Bool) → option_or (if b then Some refusals.HistoryFull else None) (Some refusals.HistoryFull) ≡ Some refusals.HistoryFull
      either true = refl
      either false = refl

      alone : (b : Bool) → option_or (if b then Some refusals.HistoryFull else None) None ≡ (if b then Some refusals.HistoryFull else None)
      alone true = refl
      alone false = refl

      by : (full : Bool) → option_or (if nat_lt (2 ^ 32 - 1) (frames + more) then Some refusals.HistoryFull else None) (if full then Some refusals.HistoryFull else None)
          ≡ told (if nat_lt (free full) more then Some faults.HistoryFull else None)
      by true = either (nat_lt (2 ^ 32 - 1) (frames + more)) ∙ sym (ap (λ b. told (if b then Some faults.HistoryFull else None)) (lt-ltb 0 more (omega (arith, some))))
      by false =
          alone (nat_lt (2 ^ 32 - 1) (frames + more))
          ∙ told_full (nat_lt (2 ^ 32 - 1) (frames + more))
          ∙ sym (ap (λ b. told (if b then Some faults.HistoryFull else None)) (same (nat_lt (2 ^ 32 - 1) (frames + more)) refl))

-- faults are the same where the results that tell them are
pub err_same : {T E : Type 0} {a b : E} → ◌≡◌ {A = Result T E} (Err a) (Err b) → a ≡ b
err_same e = cc

-- one after the other
or_assoc : {X : Type 0} (a b c : Option X) → option_or (option_or a b) c ≡ option_or a (option_or b c)
or_assoc None b c = refl
or_assoc (Some x) b c = refl

-- All causes, after epochs that can be counted.

module _ (es : Epochs) (key : List ℕ) (counted : IsCountable (Some es)) where
  abbrev s : Setup
  s = setup_renewed (last_run es)

  -- its parameters are those of the last epoch
  parameters : parameter_refusal s ≡ None
  parameters = (neither (parameter_refusal (last_run es).setup) (option_or (list_refusal (last_run es).setup) (bytes_refusal (last_run es).setup)) (IsHistory-last es counted.kept.0).setup).0

  some_frames : 1 ≤ frames_needed s
  some_frames = omega arith

  -- words are no more than before
  full_by_commands : is_full (Some (with_renewal key es)) ≡ nat_lt (2 ^ 32 - 1) (commands_in (Some es) + 2)
  full_by_commands =
      ap (λ n. nat_lt (2 ^ 32 - 1) n || nat_lt (2 ^ 32 - 1) (length (words_in (Some (with_renewal key es))))) count
      ∙ ap (λ b. nat_lt (2 ^ 32 - 1) (commands_in (Some es) + 2) || b) (le-ltb (2 ^ 32 - 1) (length (words_in (Some (with_renewal key es)))) (omega (arith, counted.words, ap length (words-renewed es key))))
      ∙ no_more (nat_lt (2 ^ 32 - 1) (commands_in (Some es) + 2))
    where
      count : commands_in (Some (with_renewal key es)) + 1 ≡ commands_in (Some es) + 2
      count = omega arith

      no_more : (b : Bool) → (b || false) ≡ b
      no_more true = refl
      no_more false = refl

  pub renewal_told : renew_refusal es key ≡ told (renewals.renewal_refusal (frames_free es) s)
  renewal_told =
      let docs = renewals.docs_refusal s in
      let size = option_and_then fault_of_size (size_refusal s) in
      let frames = renewals.frames_refusal (frames_free es) s in
      let last = if is_full (Some (with_renewal key es)) then Some refusals.HistoryFull else None in
      or_assoc (script.live_refusal s.documents) (option_or (option_map size_refused (size_refusal s)) (script.frames_refusal (Some es) s)) last
      ∙ ap (option_or (script.live_refusal s.documents)) (or_assoc (option_map size_refused (size_refusal s)) (script.frames_refusal (Some es) s) last)
      ∙ ap (λ b. option_or (script.live_refusal s.documents) (option_or (option_map size_refused (size_refusal s)) (option_or (script.frames_refusal (Some es) s) (if b then Some refusals.HistoryFull else None)))) full_by_commands
      ∙ (λ i. option_or (docs_same s i) (option_or (size_same s parameters i) (full_same (frames_in (Some es)) (frames_needed s) (commands_in (Some es)) some_frames (omega (arith, counted.kept.1)) i)))
      ∙ ap (option_or (told docs)) (sym (told_at_once size frames (size_refuses s parameters)))
      ∙ sym (told_at_once docs (option_or size frames) (docs_refuse s))

  -- a renewal that isn't refused keeps all limits
  module _ (none : renewals.renewal_refusal (frames_free es) s ≡ None) where
    pub untold : renew_refusal es key ≡ None
    untold = renewal_told ∙ ap told none

    by_script : (script.renewal_refusal (Some es) s ≡ None) × ((if is_full (Some (with_renewal key es)) then Some refusals.HistoryFull else None) ≡ None)
    by_script = neither (script.renewal_refusal (Some es) s) (if is_full (Some (with_renewal key es)) then Some refusals.HistoryFull else None) untold

    by_live : (script.live_refusal s.documents ≡ None) × (option_or (option_map size_refused (size_refusal s)) (script.frames_refusal (Some es) s) ≡ None)
    by_live = neither (script.live_refusal s.documents) (option_or (option_map size_refused (size_refusal s)) (script.frames_refusal (Some es) s)) by_script.0

    by_rest : (option_map size_refused (size_refusal s) ≡ None) × (script.frames_refusal (Some es) s ≡ None)
    by_rest = neither (option_map size_refused (size_refusal s)) (script.frames_refusal (Some es) s) by_live.1

    accepted : size_refusal s ≡ None
    accepted = by (size_refusal s) by_rest.0
      where
        by : (o : Option SizeFault) → option_map size_refused o ≡ None → o ≡ None
        by None e = refl
        by (Some fault) e = absurd (cc)

    pub renewal_frames : frames_in (Some es) + frames_needed s < 2 ^ 32
    renewal_frames = by (nat_lt (2 ^ 32 - 1) (frames_in (Some es) + frames_needed s)) refl by_rest.1
      where
        by : (b : Bool) → nat_lt (2 ^ 32 - 1) (frames_in (Some es) + frames_needed s) ≡ b → (if b then Some refusals.HistoryFull else None) ≡ None → frames_in (Some es) + frames_needed s < 2 ^ 32
        by true is e = absurd (cc)
        by false is e = let le : frames_in (Some es) + frames_needed s ≤ 2 ^ 32 - 1 = ltb-false _ _ is in omega (arith, le)

    pub renewal_commands : commands_in (Some es) + 2 < 2 ^ 32
    renewal_commands = by (nat_lt (2 ^ 32 - 1) (commands_in (Some es) + 2)) refl (ap (λ b. if b then Some refusals.HistoryFull else None) (sym full_by_commands) ∙ by_script.1)
      where
        by : (b : Bool) → nat_lt (2 ^ 32 - 1) (commands_in (Some es) + 2) ≡ b → (if b then Some refusals.HistoryFull else None) ≡ None → commands_in (Some es) + 2 < 2 ^ 32
        by true is e = absurd (cc)
        by false is e = let le : commands_in (Some es) + 2 ≤ 2 ^ 32 - 1 = ltb-false _ _ is in omega (arith, le)

    pub counted_renewed : IsCountable (Some (with_renewal key es))
    counted_renewed = record {
      kept = IsKept-renewed es key counted.kept (IsCollected-renewed es counted.kept.0 by_live.0) accepted renewal_frames;
      commands = omega (arith, renewal_commands);
      words = omega (arith, counted.words, ap length (words-renewed es key));
    }
