-- The records of a journal are taken one after the other, and what comes of all.
use Rattle.std.proofs.Common.{◌≡◌, ℕ, ◌+◌, ◌<◌, List, [], ◌∷◌, ◌++◌, length, take, get_or, refl, sym, ap, subst, ◌∙◌, None, Some, Ok, Err, arith, length-append}
use Rattle.std.specs.Prelude.{Option}
use Rattle.std.proofs.lemmas.List.{take_more, take_all}
use Rattle.sse_outside.specs.Images.{NoOther}
use Rattle.client_registry.specs.Run.{Epochs}
use Rattle.client_records.specs.Openings.{Opens, OpensElsewhere, IsBadRecord}
use Rattle.client_rebuild.specs.Rebuilds.{Rebuilds}
use Rattle.client_rebuild.specs.declared.fault.RebuildFault.{RebuildFault}
use Rattle.client_rebuild.specs.declared.fault.RebuildFault.TheVariants as faults
use Rattle.client_rebuild.specs.declared.rebuild.Rebuild.{Rebuild}
use Rattle.client_journal.proofs.Fronts.{bad_in_all, bad_not_elsewhere, bad_once, open_not_bad}
use Rattle.client_journal.specs.Recordings.{AreFirst, IsTakenFrom, StopsFor, TakesNext}
use Rattle.client_journal.specs.Faults.{EndsFor, GoesOn, stop_of_read, stop_of_take}
use Rattle.script_run_texts.specs.declared.journal_stop.JournalStop.{JournalStop}
use Rattle.script_run_texts.specs.declared.journal_stop.JournalStop.TheVariants.{NoJournal, HasRecords, BadRecord, WrongKey, Disk, Memory}
use Rattle.sse_journal.specs.JournalView.{IsJournalOf}
use Rattle.sse_journal.specs.Reads.{IsRead, place_of}
use Rattle.sse_journal.specs.declared.journal.Journal.{Journal}
use Rattle.sse_journal.specs.declared.read_fault.ReadFault.{ReadFault}
use Rattle.sse_journal.specs.declared.read_fault.ReadFault.TheVariants as reads

-- a disk that was only read is as it was
pub journal_on : (payloads : List (List ℕ)) (j : Journal) (content content' : Option (List ℕ)) (images images' : List ℕ → Type 0) → IsJournalOf payloads j content images → content' ≡ content → NoOther images images' → IsJournalOf payloads j content' images'
journal_on payloads j content content' images images' is kept no_other = record {
  payloads_are = is.payloads_are;
  end_is = is.end_is;
  records_are = is.records_are;
  settled = record { reads = kept ∙ is.settled.reads; durable = λ c left. is.settled.durable c (no_other c left) };
}

-- One record.

one_longer : (payloads : List (List ℕ)) (payload : List ℕ) → length (payloads ++ payload ∷ []) ≡ length payloads + 1
one_longer payloads payload = length-append payloads (payload ∷ [])

-- the first records with the one behind them
with_next : (all payloads : List (List ℕ)) (at : ℕ) (payload : List ℕ) → AreFirst all payloads at → length payloads < length all → payload ≡ get_or all (length payloads) [] → payloads ++ payload ∷ [] ≡ take (length payloads + 1) all
with_next all payloads at payload first lt is =
    ap (λ (p : List ℕ). payloads ++ p ∷ []) is ∙ ap (λ (ps : List (List ℕ)). ps ++ get_or all (length payloads) [] ∷ []) first.are ∙ sym (take_more all (length payloads) [] lt)

-- what reading at a place gives of all records that are told, after their first ones
module _ (told : List (List ℕ) → Type 0) (payloads : List (List ℕ)) (at : ℕ) where
  abbrev Gives : Option ℕ → List ℕ → Type 0
  Gives next out = (all : List (List ℕ)) → told all → AreFirst all payloads at → IsRead all (length payloads) next out

  -- with the record that is read they are the first, too
  pub next_taken : (next : ℕ) (out : List ℕ) → Gives (Some next) out → (all : List (List ℕ)) → told all → AreFirst all payloads at → AreFirst all (payloads ++ out ∷ []) next
  next_taken next out read all is first =
      let known = read all is first in
      let long = one_longer payloads out in
      record {
        within = omega (arith, known.0, long);
        are = with_next all payloads at out first known.0 known.1 ∙ ap (λ (k : ℕ). take k all) (sym long);
        place = known.2 ∙ ap (λ (k : ℕ). place_of all k) (sym long);
      }

  -- and what a refusal of it comes to
  pub next_refused : (next : ℕ) (out : List ℕ) → Gives (Some next) out → (after : Rebuild) (fault : RebuildFault)
      → ((n : ℕ) → fault ≡ faults.BadRecord n → (n ≡ length payloads) × IsBadRecord (payloads ++ out ∷ []) n)
      → TakesNext told payloads at (Err (stop_of_take fault)) after
  next_refused next out read after (faults.BadRecord n) bad = λ all is first.
      let here = bad n refl in
      let known = read all is first in
      bad_in_all all n
      (subst (λ (ps : List (List ℕ)). IsBadRecord ps n) (with_next all payloads at out first known.0 known.1 ∙ ap (λ (k : ℕ). take (k + 1) all) (sym here.0)) here.1)
  next_refused next out read after faults.NoMemory bad = tt

  pub next_unread : (fault : ReadFault) → ((all : List (List ℕ)) → told all → AreFirst all payloads at → fault ≡ reads.NotAJournal at → ⊥) → ((place : ℕ) → fault ≡ reads.NotAJournal place → place ≡ at)
      → (after : Rebuild) → TakesNext told payloads at (Err (stop_of_read fault)) after
  next_unread reads.DiskFault never place after = tt
  next_unread (reads.NotAJournal n) never place after = λ all is first. never all is first (ap (λ (m : ℕ). reads.NotAJournal m) (place n refl))
  next_unread reads.NoMemory never place after = tt

-- All of them.

-- a rebuild took the first records that are told, and the next stands at this place
pub record IsHere (told : List (List ℕ) → Type 0) (at : ℕ) (r : Rebuild) : Type 0 where
  pub payloads : List (List ℕ)
  pub taken : Rebuilds payloads r
  pub first : (all : List (List ℕ)) → told all → AreFirst all payloads at

pub here_first : (told : List (List ℕ) → Type 0) (at : ℕ) (r : Rebuild) → Rebuilds [] r → ((all : List (List ℕ)) → at ≡ place_of all 0) → IsHere told at r
here_first told at r none place = record { payloads = []; taken = none; first = λ all is. record { within = omega arith; are = refl; place = place all } }

module _ (told now : List (List ℕ) → Type 0) (same : (all : List (List ℕ)) → told all → now all) (at : ℕ) (r : Rebuild) (here : IsHere told at r) (after : Rebuild) where
  pub here_next : (next : ℕ) → TakesNext now here.payloads at (Ok (Some next)) after → IsHere told next after
  here_next next one = record { payloads = here.payloads ++ one.0 ∷ []; taken = one.1; first = λ all is. one.2 all (same all is) (here.first all is) }

  pub here_last : TakesNext now here.payloads at (Ok None) after → IsTakenFrom told after
  here_last one = record {
    payloads = here.payloads;
    taken = one.0;
    all = λ all is.
        let first = here.first all is in
        first.are ∙ take_all (length here.payloads) all (omega (arith, one.1 all (same all is) first));
  }

  pub here_refused : (stop : JournalStop) → TakesNext now here.payloads at (Err stop) after → StopsFor told stop
  here_refused (BadRecord n) one = λ all is. one all (same all is) (here.first all is)
  here_refused WrongKey one = absurd one
  here_refused NoJournal one = λ all is. one all (same all is) (here.first all is)
  here_refused HasRecords one = absurd one
  here_refused Disk one = tt
  here_refused Memory one = tt

-- What is so of the records is so of the result, and no other.
module _ (told : List (List ℕ) → Type 0) (all : List (List ℕ)) (told_all : told all) where
  -- the rebuild took all
  pub took_all : (r : Rebuild) → IsTakenFrom told r → Rebuilds all r
  took_all r done = subst (λ (ps : List (List ℕ)). Rebuilds ps r) (done.all all told_all) done.taken

  -- so none of them is bad
  pub took_no_bad : (r : Rebuild) → IsTakenFrom told r → (n : ℕ) → IsBadRecord all n → ⊥
  took_no_bad r done n bad = let taken = took_all r done in open_not_bad taken.first all taken.history n taken.opened bad

  -- not all were taken
  module _ {T : Type 0} where
    pub all_wrong_refused : (mark : List ℕ) (stop : JournalStop) → StopsFor told stop → OpensElsewhere mark all → EndsFor {T = T} WrongKey (Err stop)
    all_wrong_refused mark (BadRecord n) t elsewhere disk memory = absurd (bad_not_elsewhere mark all n (t all told_all) elsewhere)
    all_wrong_refused mark WrongKey t elsewhere disk memory = refl
    all_wrong_refused mark NoJournal t elsewhere disk memory = absurd (t all told_all)
    all_wrong_refused mark HasRecords t elsewhere disk memory = absurd t
    all_wrong_refused mark Disk t elsewhere disk memory = absurd (disk refl)
    all_wrong_refused mark Memory t elsewhere disk memory = absurd (memory refl)

    pub all_bad_refused : (stop : JournalStop) → StopsFor told stop → (n : ℕ) → IsBadRecord all n → EndsFor {T = T} (BadRecord n) (Err stop)
    all_bad_refused (BadRecord m) t n bad disk memory = ap (λ (k : ℕ). Err (BadRecord k)) (bad_once all m n (t all told_all) bad)
    all_bad_refused WrongKey t n bad disk memory = absurd t
    all_bad_refused NoJournal t n bad disk memory = absurd (t all told_all)
    all_bad_refused HasRecords t n bad disk memory = absurd t
    all_bad_refused Disk t n bad disk memory = absurd (disk refl)
    all_bad_refused Memory t n bad disk memory = absurd (memory refl)

    pub all_accepted : (stop : JournalStop) → StopsFor told stop → (first : List ℕ) (es : Epochs) → Opens first all es → GoesOn {T = T} (Err stop)
    all_accepted (BadRecord m) t first es opened disk memory = absurd (open_not_bad first all (Some es) m opened (t all told_all))
    all_accepted WrongKey t first es opened disk memory = absurd t
    all_accepted NoJournal t first es opened disk memory = absurd (t all told_all)
    all_accepted HasRecords t first es opened disk memory = absurd t
    all_accepted Disk t first es opened disk memory = absurd (disk refl)
    all_accepted Memory t first es opened disk memory = absurd (memory refl)
