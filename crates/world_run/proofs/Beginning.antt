-- A world at its beginning: empty disks give no records.
use Rattle.std.proofs.Common.{arith, ◌≡◌, ℕ, Bool, true, false, List, [], None, inl, refl, sym, subst}
use Rattle.keyed_fn.specs.KeyedFn.{KeyedFn}
use Rattle.outside_memory_disk.specs.MemDisk.{began_of, changes_on, images_of}
use Rattle.outside_memory_disk.specs.declared.mem_disk.MemDisk.{MemDisk}
use Rattle.server_core.specs.State as server
use Rattle.sse_frames.specs.Frames.{FrameText}
use Rattle.sse_journal.specs.Files.{Gives}
use Rattle.sse_outside.specs.Changes.{IsImage}
use Rattle.sse_server.specs.Taken.{AreTaken}
use Rattle.world_client.specs.Starting.{HasKey}
use Rattle.world_client.specs.Histories.{records_under}
use Rattle.world_disks.specs.Disks.{IsDiskOf}
use Rattle.world_model.specs.World.{Disk, at_first}
use Rattle.world_model.specs.Events.{left}
use Rattle.world_rules.specs.Changes.{Change, history_of}
use Rattle.world_server.proofs.Sides.{gone_server}
use Rattle.world_server.specs.Sides.{IsServer}
use Rattle.world_run.proofs.Sides.{gone_client}
use Rattle.world_run.specs.Sides.{IsClient, client_part}

abbrev none : {X : Type 0} → Disk X
none = record { records = []; doubt = None }

-- each image of an empty disk is empty
only_empty : (disk : MemDisk) → began_of disk ≡ [] → changes_on disk ≡ [] → (image : List ℕ) → images_of disk image → image ≡ []
only_empty disk began changes image is = subst (λ made. IsImage [] made image) changes (subst (λ first. IsImage first (changes_on disk) image) began is)

nothing_in : (bytes : List ℕ) → bytes ≡ [] → Gives [] bytes
nothing_in bytes empty = subst (λ (b : List ℕ). Gives [] b) (sym empty) (inl (omega arith, refl))

-- so it has no records
pub empty_disk : (disk : MemDisk) → began_of disk ≡ [] → changes_on disk ≡ [] → IsDiskOf none disk
empty_disk disk began changes image is = (false, nothing_in image (only_empty disk began changes image is))

no_records : (f : KeyedFn) (key : List ℕ) (there : Bool) → (left there (none {X = List ℕ})).records ≡ records_under f key (history_of (left there (none {X = Change})).records)
no_records f key true = refl
no_records f key false = refl

first_key : (f : KeyedFn) (key : List ℕ) (there : Bool) → HasKey f key (history_of (left there (none {X = Change})).records) key None
first_key f key true = refl
first_key f key false = refl

none_taken : (there : Bool) → AreTaken server.at_first (left there (none {X = FrameText})).records
none_taken true = tt
none_taken false = tt

pub first_client : (f : KeyedFn) (key : List ℕ) (disk : MemDisk) → began_of disk ≡ [] → changes_on disk ≡ [] → IsClient f key (client_part at_first) None disk None key None
first_client f key disk began changes = gone_client f key none none disk None key None None (empty_disk disk began changes) (no_records f key) (first_key f key) refl tt

pub first_server : (disk : MemDisk) → began_of disk ≡ [] → changes_on disk ≡ [] → IsServer (record { disk = none; taken = None; stop = None }) None disk None
first_server disk began changes = gone_server none disk None None (empty_disk disk began changes) none_taken refl tt
