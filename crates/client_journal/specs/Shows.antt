-- What the devices of a run show of themselves, before it and after it.
use Rattle.std.specs.Prelude.{◌≡◌, ◌≢◌, ℕ, List, Option}
use Rattle.client_recorder.specs.KeepsOn.{KeepsOn}
use Rattle.sse_outside.specs.Fronts.{TookOrRose}
use Rattle.sse_outside.specs.Kept.{Kept}
use Rattle.sse_script.specs.Shown.{Stopped, BadWords}
use Rattle.sse_script.specs.Texts.{text_of}

-- what a sink shows of itself: the bytes that it took, and its counts of faults and of shortages
pub record SinkShows : Type 0 where
  pub written : Option (List ℕ)
  pub faults : ℕ
  pub shortages : ℕ

abbrev pub prints : Option (List ℕ) → (faults shortages : ℕ) → SinkShows
prints written faults shortages = record { written = written; faults = faults; shortages = shortages }

-- what a source shows of itself: the bytes that are left, and its count of faults
pub record SourceShows : Type 0 where
  pub remaining : Option (List ℕ)
  pub faults : ℕ

abbrev pub gives : Option (List ℕ) → (faults : ℕ) → SourceShows
gives remaining faults = record { remaining = remaining; faults = faults }

-- words that ask for no run: nothing is read, and the last line says so
pub record SaysWords {S : Type 0} (source source' : S) (sink sink' : SinkShows) (status : ℕ) : Type 0 where
  pub unread : source' ≡ source
  pub status_is : status ≡ 2
  pub line : TookOrRose sink.written sink'.written (text_of (Stopped BadWords)) sink.faults sink'.faults sink.shortages sink'.shortages

-- the recorder kept on, and takes more records unless it failed or was out of memory
pub record LeavesRecorder {R : Type 0} (kept : R → Kept) (moment : R → ℕ) (left_since : R → ℕ → List ℕ → Type 0) (whole : R → Type 0) (old new : R) (status : ℕ) : Type 0 where
  pub kept_on : KeepsOn kept moment left_since old new
  pub lasts : status ≢ 6 → status ≢ 7 → whole new
