-- The commands of a client in a program, and what they come to.
use Rattle.std.specs.Prelude.{◌≡◌, ℕ, ◌&&◌, Bool, true, false, List, Option, None, Some}
use Rattle.client_records.specs.Records.{renewal_record, setup_record, update_record}
use Rattle.client_registry.specs.Command.{Add as adds, Delete as deletes}
use Rattle.client_registry.specs.Histories.{frames_in}
use Rattle.client_registry.specs.IdNumber.{id_number}
use Rattle.client_registry.specs.Run.{History}
use Rattle.client_registry.specs.Setup.{setup_with}
use Rattle.keyed_fn.specs.KeyFormulas.{mark_of}
use Rattle.keyed_fn.specs.KeyedFn.{KeyedFn}
use Rattle.outside_memory_disk.specs.declared.mem_disk.MemDisk.{MemDisk}
use Rattle.sse_journal.specs.declared.journal.Journal.{Journal}
use Rattle.world_model.specs.World.{Disk, Phase, Sends}
use Rattle.world_model.specs.Events.{left, in_doubt, settled, rests}
use Rattle.world_disks.specs.Disks.{IsDiskOf, Holds, IsMet, IsUnmet}
use Rattle.world_disks.specs.declared.stop.Stop.{Stop}
use Rattle.world_rules.specs.Changes.{Change, SetsUp, Adds, Deletes, Renews, with_change}
use Rattle.world_rules.specs.Rules.{accepts, store_rules}
use Rattle.world_client.specs.Clients.{IsClientIn}
use Rattle.world_client.specs.Histories.{records_under}
use Rattle.world_client.specs.declared.commanded.Commanded.{Commanded}
use Rattle.world_client.specs.declared.commanded.Commanded.TheVariants as commanded
use Rattle.world_client.specs.declared.state.State.{State}
use Rattle.world_client.specs.declared.state.State.TheVariants as states
use Rattle.world_run.specs.declared.command.Command.{Command}
use Rattle.world_run.specs.declared.command.Command.TheVariants as commands

-- what a command changes
abbrev pub change_of : Command → Change
change_of (commands.SetUp docs sizes) = SetsUp (setup_with docs.documents sizes.b sizes.big sizes.pad)
change_of (commands.Add doc) = Adds doc
change_of (commands.Delete id) = Deletes (id_number id)
change_of (commands.Renew key) = Renews key

-- the key that a change brings
abbrev pub key_of : Change → Option (List ℕ)
key_of (Renews key) = Some key
key_of _ = None

-- what a client was before a command, as one of its states
abbrev pub wrapped : {B : Type 0} → (B → State) → Commanded B → Commanded State
wrapped wrap (commanded.Done client) = commanded.Done client
wrapped wrap (commanded.Refused client) = commanded.Refused (wrap client)
wrapped wrap (commanded.NoMemory client) = commanded.NoMemory (wrap client)
wrapped wrap commanded.Stopped = commanded.Stopped
wrapped wrap commanded.Broken = commanded.Broken

module _ (f : KeyedFn) (first : List ℕ) (h : History) where
  -- its record
  abbrev pub record_of : Change → List ℕ
  record_of (SetsUp s) = setup_record (mark_of f first) s
  record_of (Adds d) = update_record (adds d)
  record_of (Deletes id) = update_record (deletes id)
  record_of (Renews key) = renewal_record (mark_of f key)

  -- the records of a disk, its record being in doubt
  abbrev pub in_hand : Change → Disk (List ℕ)
  in_hand c = in_doubt (settled (records_under f first h)) (record_of c)

  -- a client in this phase takes it
  abbrev pub takes_change : Phase (List ℕ) → Change → Bool
  takes_change phase c = rests (store_rules f first) phase && accepts f first h c

  -- How a command ended, of a client in this phase that waited for nothing. It is taken and recorded, and its frames are owed; or it isn't
  -- taken; or there was no memory; or the side has stopped, and its record is there or not; or memory ran out inside a call of the disk,
  -- and its record is in doubt.
  abbrev pub IsCame : Phase (List ℕ) → Change → Option Stop → Commanded State → (calls : ℕ) → Journal → MemDisk → Type 0
  IsCame phase c stop (commanded.Done client) calls journal disk =
      (takes_change phase c ≡ true) × IsClientIn f first (with_change h c) (Sends (frames_in h)) (states.Sending client) × IsUnmet stop calls × Holds (records_under f first (with_change h c)) journal disk
  IsCame phase c stop (commanded.Refused state) calls journal disk = (takes_change phase c ≡ false) × IsClientIn f first h phase state × Holds (records_under f first h) journal disk
  IsCame phase c stop (commanded.NoMemory state) calls journal disk = IsClientIn f first h phase state × Holds (records_under f first h) journal disk
  IsCame phase c stop commanded.Stopped calls journal disk = (takes_change phase c ≡ true) × IsMet stop calls × ((there : Bool) × IsDiskOf (left there (in_hand c)) disk)
  IsCame phase c stop commanded.Broken calls journal disk = (takes_change phase c ≡ true) × IsDiskOf (in_hand c) disk
