-- What a disk in memory is to a journal of a world.
use Rattle.std.specs.Prelude.{◌≡◌, ◌⊎◌, ℕ, ◌<◌, ◌≤◌, Bool, List, [], ◌∷◌, ◌++◌, Option, None, Some, IfSome, IsSome, Result, Ok, Err}
use Rattle.sse_journal.specs.Files.{Gives}
use Rattle.sse_journal.specs.JournalView.{broken_by, IsJournalOf}
use Rattle.sse_journal.specs.declared.journal.Journal.{Journal}
use Rattle.outside_memory_disk.specs.MemDisk.{began_of, changes_on, fails_of, fail_more_of, file_of, images_of}
use Rattle.outside_memory_disk.specs.Picked.{image_picked}
use Rattle.outside_memory_disk.specs.declared.mem_disk.MemDisk.{MemDisk}
use Rattle.world_model.specs.World.{Disk}
use Rattle.world_model.specs.Events.{left, in_doubt, settled}
use Rattle.world_disks.specs.declared.stop.Stop.{Stop}
use Rattle.world_disks.specs.declared.appended.Appended.{Appended}
use Rattle.world_disks.specs.declared.appended.Appended.TheVariants as appended
use Rattle.world_disks.specs.declared.started.Unstarted.{Unstarted}
use Rattle.world_disks.specs.declared.started.Unstarted.TheVariants as unstarted

-- from each file that a crash may leave, starting gives the records, and the one in doubt or not
abbrev pub IsDiskOf : Disk (List ℕ) → MemDisk → Type 0
IsDiskOf model disk = (image : List ℕ) → images_of disk image → (there : Bool) × Gives (left there model).records image

-- a disk that begins as the image of this number that a crash of the old one leaves; it has made no change, and none of its calls is to fail
pub record IsImageOf (pick : ℕ) (old new : MemDisk) : Type 0 where
  pub began : began_of new ≡ image_picked pick (began_of old) (changes_on old)
  pub none : changes_on new ≡ []
  pub fails : fails_of new ≡ []
  pub fail_more : fail_more_of new ≡ None

-- the journal of these records, which takes more
pub record Holds (payloads : List (List ℕ)) (journal : Journal) (disk : MemDisk) : Type 0 where
  pub whole : broken_by journal ≡ None
  pub is : IsJournalOf payloads journal (Some (file_of disk)) (images_of disk)

-- a stop is among so many calls, or it isn't
abbrev pub IsMet : Option Stop → (calls : ℕ) → Type 0
IsMet stop calls = (s : Stop) × (stop ≡ Some s) × (s.call ≤ calls)

abbrev pub IsUnmet : Option Stop → (calls : ℕ) → Type 0
IsUnmet stop calls = IfSome stop (λ s. calls < s.call)

-- the append of a record to the journal of these ended so, after so many calls of the disk
abbrev pub IsAppended : (payloads : List (List ℕ)) (payload : List ℕ) → Option Stop → Appended → (calls : ℕ) → Journal → MemDisk → Type 0
IsAppended payloads payload stop appended.Made calls journal disk = IsUnmet stop calls × Holds (payloads ++ payload ∷ []) journal disk
IsAppended payloads payload stop appended.Stopped calls journal disk = IsMet stop calls × ((there : Bool) × IsDiskOf (left there (in_doubt (settled payloads) payload)) disk)
IsAppended payloads payload stop appended.NoMemory calls journal disk = Holds payloads journal disk
IsAppended payloads payload stop appended.Broken calls journal disk = (IsSome (broken_by journal) ⊎ IsMet stop calls) × IsDiskOf (in_doubt (settled payloads) payload) disk

-- the start of a journal ended so, after so many calls of a disk of this model
abbrev pub IsStarted : Disk (List ℕ) → Option Stop → Result Journal Unstarted → (calls : ℕ) → MemDisk → Type 0
IsStarted model stop (Ok journal) calls disk = IsUnmet stop calls × ((there : Bool) × Holds (left there model).records journal disk)
IsStarted model stop (Err unstarted.Stopped) calls disk = IsMet stop calls × ((there : Bool) × IsDiskOf (left there model) disk)
IsStarted model stop (Err unstarted.Broken) calls disk = IsDiskOf model disk
