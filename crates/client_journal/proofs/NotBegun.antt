-- A journal that isn't begun, or not reopened.
use Rattle.std.proofs.Common.{◌≡◌, ◌≢◌, ◌≤◌, ℕ, List, None, Some, refl, arith}
use Rattle.std.specs.Prelude.{IfSome, Option}
use Rattle.client_journal.specs.Openings.{GivesSome, HasNoRecord, IsNoJournal}
use Rattle.script_run_texts.specs.Stops.{journal_status}
use Rattle.script_run_texts.specs.declared.journal_stop.JournalStop.{JournalStop}
use Rattle.script_run_texts.specs.declared.journal_stop.JournalStop.TheVariants as journals
use Rattle.client_journal.specs.DiskRuns.{IsNotBegun, IsNotReopened}

pub for_all : {T : Type 0} (o : Option T) (P : T → Type 0) → ((x : T) → P x) → IfSome o P
for_all None P all = tt
for_all (Some x) P all = all x

pub IfSome-then : {T : Type 0} (o : Option T) (P Q : T → Type 0) → ((x : T) → P x → Q x) → IfSome o P → IfSome o Q
IfSome-then None P Q then p = tt
IfSome-then (Some x) P Q then p = then x p

pub IfSome-both : {T : Type 0} (o : Option T) (P Q R : T → Type 0) → ((x : T) → P x → Q x → R x) → IfSome o P → IfSome o Q → IfSome o R
IfSome-both None P Q R then p q = tt
IfSome-both (Some x) P Q R then p q = then x p q

-- what its file is then
pub not_begun : (stop : JournalStop) (content : Option (List ℕ)) → (stop ≡ journals.HasRecords → IfSome content GivesSome) → (stop ≡ journals.NoJournal → IfSome content IsNoJournal) → ((number : ℕ) → stop ≢ journals.BadRecord number)
    → stop ≢ journals.WrongKey → IfSome content (IsNotBegun stop)
not_begun journals.NoJournal content records journal bad key = journal refl
not_begun journals.HasRecords content records journal bad key = records refl
not_begun (journals.BadRecord number) content records journal bad key = absurd (bad number refl)
not_begun journals.WrongKey content records journal bad key = absurd (key refl)
not_begun journals.Disk content records journal bad key = for_all content (λ file. Unit {0}) (λ file. tt)
not_begun journals.Memory content records journal bad key = for_all content (λ file. Unit {0}) (λ file. tt)

pub not_reopened : (stop : JournalStop) (content : Option (List ℕ)) → (stop ≡ journals.NoJournal → IfSome content HasNoRecord) → stop ≢ journals.HasRecords → ((number : ℕ) → stop ≢ journals.BadRecord number)
    → stop ≢ journals.WrongKey → IfSome content (IsNotReopened stop)
not_reopened journals.NoJournal content journal records bad key = journal refl
not_reopened journals.HasRecords content journal records bad key = absurd (records refl)
not_reopened (journals.BadRecord number) content journal records bad key = absurd (bad number refl)
not_reopened journals.WrongKey content journal records bad key = absurd (key refl)
not_reopened journals.Disk content journal records bad key = for_all content (λ file. Unit {0}) (λ file. tt)
not_reopened journals.Memory content journal records bad key = for_all content (λ file. Unit {0}) (λ file. tt)

-- for a file without records only the disk or memory is the cause
pub begun_low : (stop : JournalStop) (status : ℕ) → status ≡ journal_status stop → (stop ≢ journals.Disk → stop ≢ journals.Memory → ⊥) → status ≤ 9
begun_low journals.NoJournal status is other = absurd (other (λ e. absurd (cc)) (λ e. absurd (cc)))
begun_low journals.HasRecords status is other = absurd (other (λ e. absurd (cc)) (λ e. absurd (cc)))
begun_low (journals.BadRecord number) status is other = absurd (other (λ e. absurd (cc)) (λ e. absurd (cc)))
begun_low journals.WrongKey status is other = absurd (other (λ e. absurd (cc)) (λ e. absurd (cc)))
begun_low journals.Disk status is other = omega (arith, is)
begun_low journals.Memory status is other = omega (arith, is)
