-- A disk that was only read, and the count of its faults.
use Rattle.std.specs.Prelude.{◌≡◌, ◌≢◌, ℕ, ◌≤◌, List, Option, Result, Err}
use Rattle.script_run_texts.specs.declared.journal_stop.JournalStop.{JournalStop}
use Rattle.script_run_texts.specs.declared.journal_stop.JournalStop.TheVariants.{Disk}
use Rattle.sse_journal.specs.AnyMoment.{LeavesOnly}
use Rattle.sse_outside.specs.Causes.{Rose}
use Rattle.sse_outside.specs.Images.{NoOther}

-- its content is as it was, and a crash at any moment meanwhile leaves a file that it might have left before
pub record IsOnlyRead {D : Type 0} (content : D → Option (List ℕ)) (images : D → List ℕ → Type 0) (moment : D → ℕ) (left_since : D → ℕ → List ℕ → Type 0) (old new : D) : Type 0 where
  pub content_is : content new ≡ content old
  pub images_are : NoOther (images old) (images new)
  pub quiet : LeavesOnly moment left_since old new (images old)

-- the count rises if the call stops for the disk, and stays if it doesn't
pub record CountsDisk {T : Type 0} (before now : ℕ) (result : Result T JournalStop) : Type 0 where
  pub later : before ≤ now
  pub failed : result ≡ Err Disk → Rose before now
  pub steady : result ≢ Err Disk → now ≡ before
