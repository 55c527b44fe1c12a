-- What a command of a client makes of it, of its journal and of its disk.
use Rattle.std.specs.Prelude.{◌≡◌, ◌⊎◌, ℕ, Bool, List, [], ◌∷◌, ◌++◌, IsSome, None, Option}
use Rattle.client_core.specs.States.{BehindState, ClientOf}
use Rattle.outside_memory_disk.specs.declared.mem_disk.MemDisk.{MemDisk}
use Rattle.sse_journal.specs.JournalView.{broken_by}
use Rattle.sse_journal.specs.declared.journal.Journal.{Journal}
use Rattle.world_model.specs.Events.{left, in_doubt, settled}
use Rattle.world_disks.specs.Disks.{IsDiskOf, Holds, IsMet, IsUnmet}
use Rattle.world_disks.specs.declared.stop.Stop.{Stop}
use Rattle.world_client.specs.declared.commanded.Commanded.{Commanded}
use Rattle.world_client.specs.declared.commanded.Commanded.TheVariants as commanded

-- A command with this record, behind a history with those. It is recorded, and the client is what it is to be behind it; or it is refused
-- for this fault, or there was no memory, and the client is as before; or the side has stopped, and the record is there or not; or a call
-- of the disk failed, and the record is in doubt.
abbrev pub IsCommanded : {B E : Type 0} → (Before : B → Type 0) (After : ClientOf BehindState → Type 0) (fault : Option E) (payloads : List (List ℕ)) (payload : List ℕ) → Option Stop → Commanded B → (calls : ℕ) → Journal → MemDisk → Type 0
IsCommanded Before After fault payloads payload stop (commanded.Done client) calls journal disk =
    After client × (fault ≡ None) × IsUnmet stop calls × Holds (payloads ++ payload ∷ []) journal disk
IsCommanded Before After fault payloads payload stop (commanded.Refused client) calls journal disk = Before client × IsSome fault × Holds payloads journal disk
IsCommanded Before After fault payloads payload stop (commanded.NoMemory client) calls journal disk = Before client × Holds payloads journal disk
IsCommanded Before After fault payloads payload stop commanded.Stopped calls journal disk =
    (fault ≡ None) × IsMet stop calls × ((there : Bool) × IsDiskOf (left there (in_doubt (settled payloads) payload)) disk)
IsCommanded Before After fault payloads payload stop commanded.Broken calls journal disk =
    (fault ≡ None) × (IsSome (broken_by journal) ⊎ IsMet stop calls) × IsDiskOf (in_doubt (settled payloads) payload) disk

-- it is recorded
abbrev pub IsDone : {B : Type 0} → Commanded B → Type 0
IsDone (commanded.Done client) = Unit {0}
IsDone _ = ⊥
