-- What a started journal says of the file that it was started from.
use Rattle.std.proofs.Common.{◌≡◌, ◌≢◌, ℕ, List, [], ◌∷◌, length, refl, sym, ap, subst, ◌∙◌, None, Some, Ok, Err, arith}
use Rattle.std.specs.Prelude.{Option, Result, IfSome, OnErr, is_some, option_map}
use Rattle.sse_journal.proofs.FileRecords.{gives_records, records_of_journal}
use Rattle.sse_journal.proofs.Once.{gives_once}
use Rattle.sse_journal.specs.FileRecords.{records_in_file}
use Rattle.sse_journal.specs.Files.{Gives}
use Rattle.sse_journal.specs.JournalView.{IsJournalFrom, IsJournalOf, records_of}
use Rattle.sse_journal.specs.declared.journal.Journal.{Journal}
use Rattle.sse_journal.specs.declared.start_fault.StartFault.{StartFault}
use Rattle.sse_journal.specs.declared.start_fault.StartFault.TheVariants as starts
use Rattle.client_journal.specs.Openings.{GivesSome, IsBegun}
use Rattle.client_journal.specs.Faults.{EndsFor, GoesOn, stop_of_start}
use Rattle.script_run_texts.specs.declared.journal_stop.JournalStop.{JournalStop}
use Rattle.script_run_texts.specs.declared.journal_stop.JournalStop.TheVariants.{NoJournal}

-- what is so of a value, where there is one

pub if_some : {A : Type 0} {P Q : A → Type 0} (o : Option A) → IfSome o P → ((a : A) → P a → Q a) → IfSome o Q
if_some None p f = tt
if_some (Some a) p f = f a p

pub if_some_both : {A : Type 0} {P Q R : A → Type 0} (o : Option A) → IfSome o P → IfSome o Q → ((a : A) → P a → Q a → R a) → IfSome o R
if_some_both None p q f = tt
if_some_both (Some a) p q f = f a p q

-- what is so is so after an error
pub on_err : {T E P : Type 0} (r : Result T E) → P → OnErr r P
on_err (Ok x) p = tt
on_err (Err e) p = p

-- The stop of a run for a fault of a start.

pub same_stop : {T : Type 0} (r : Result T JournalStop) (stop wanted cause : JournalStop) → r ≡ Err stop → stop ≡ cause → r ≡ Err wanted → cause ≡ wanted
same_stop r stop wanted cause is same e = cc

pub ends_no_journal : (fault : StartFault) → stop_of_start fault ≡ NoJournal → (place : ℕ) × (fault ≡ starts.NotAJournal place)
ends_no_journal starts.DiskFault e = absurd (cc)
ends_no_journal (starts.NotAJournal place) e = (place, refl)
ends_no_journal starts.NoMemory e = absurd (cc)

pub goes_but_for : {T : Type 0} (r : Result T JournalStop) (stop : JournalStop) (fault : StartFault) → r ≡ Err stop → stop ≡ stop_of_start fault → ((place : ℕ) → fault ≢ starts.NotAJournal place) → GoesOn r
goes_but_for r stop starts.DiskFault is same never disk memory = absurd (disk (is ∙ ap (λ (s : JournalStop). Err s) same))
goes_but_for r stop (starts.NotAJournal place) is same never disk memory = absurd (never place refl)
goes_but_for r stop starts.NoMemory is same never disk memory = absurd (memory (is ∙ ap (λ (s : JournalStop). Err s) same))

-- a call that would go on and didn't ended for the disk or for memory
pub ends_but_for : {T : Type 0} (r : Result T JournalStop) (stop wanted : JournalStop) → r ≡ Err stop → GoesOn r → EndsFor wanted r
ends_but_for (Ok x) stop wanted is goes disk memory = absurd (cc)
ends_but_for (Err own) stop wanted is goes disk memory = absurd (let ok = goes disk memory in cc)

none_of : (payloads : List (List ℕ)) → length payloads ≡ 0 → payloads ≡ []
none_of [] e = refl
none_of (payload ∷ payloads) e = absurd (omega (arith, e))

some_of : (payloads : List (List ℕ)) → length payloads ≢ 0 → payloads ≢ []
some_of payloads some e = some (ap length e)

module _ (bytes : List ℕ) (j : Journal) (content : Option (List ℕ)) (images : List ℕ → Type 0) (from : IsJournalFrom bytes j content images) where
  pub begun_from : records_of j ≡ 0 → IsBegun bytes j content images
  begun_from none =
      let empty : from.payloads ≡ [] = none_of from.payloads (sym from.journal.records_are ∙ none) in
      record {
        gives = subst (λ (ps : List (List ℕ)). Gives ps bytes) empty from.gives;
        journal = subst (λ (ps : List (List ℕ)). IsJournalOf ps j content images) empty from.journal;
      }

  pub no_some_from : records_of j ≡ 0 → GivesSome bytes → ⊥
  no_some_from none given = given.some (gives_once given.payloads [] bytes given.gives (begun_from none).gives)

  pub no_none_from : records_of j ≢ 0 → Gives [] bytes → ⊥
  no_none_from some given = some_of from.payloads (λ e. some (from.journal.records_are ∙ e)) (gives_once from.payloads [] bytes from.gives given)

  pub records_from : option_map records_in_file content ≡ Some (records_in_file bytes)
  records_from = records_of_journal from.payloads j content images from.journal ∙ ap (λ (ps : List (List ℕ)). Some ps) (sym (gives_records from.payloads bytes from.gives))

pub same_records : (old new : Option (List ℕ)) → is_some new ≡ is_some old → IfSome old (λ bytes. option_map records_in_file new ≡ Some (records_in_file bytes)) → option_map records_in_file new ≡ option_map records_in_file old
same_records None None told same = refl
same_records None (Some new) told same = absurd (cc)
same_records (Some old) new told same = same
