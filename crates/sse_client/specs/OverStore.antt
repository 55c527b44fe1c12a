-- A run whose client keeps its records in a file of its own, over a link to a store whose file is observable too. It says everything that the
-- client and the server hold at the end, beside the traffic and the printed text.
use Rattle.std.specs.Prelude.{◌≡◌, ◌≢◌, ℕ, ◌-◌, List, [], ◌++◌, All, drop, Option, Some, IfSome}
use Rattle.keyed_fn.specs.KeyFormulas.{mark_of}
use Rattle.keyed_fn.specs.KeyedFn.{KeyedFn}
use Rattle.def_link_events.specs.Events.{AreStepped}
use Rattle.def_link_events.specs.Served.{IsHonest}
use Rattle.def_link_events.specs.Taken.{updates_among}
use Rattle.def_script_meaning.specs.Carries.{Outside}
use Rattle.def_script_meaning.specs.Headline.{Headline, IsOverHonest}
use Rattle.def_script_meaning.specs.Meaning.{Meaning, meaning}
use Rattle.def_script_meaning.specs.Recorded.{records_with}
use Rattle.def_script_meaning.specs.Rejoins.{Rejoined, frames_under}
use Rattle.def_script_meaning.specs.Since.{records_since}
use Rattle.def_script_meaning.specs.Session.{IsFree, frames_of}
use Rattle.server_core.specs.State.{ServerState}
use Rattle.def_agreement.specs.TakenFrames.{Expects}
use Rattle.sse_frames.specs.Frames.{FrameText}
use Rattle.sse_journal.specs.FileRecords.{records_in_file}
use Rattle.sse_journal.specs.Files.{Gives, IsPayload, file}
use Rattle.sse_link.specs.LinkStates.{LinkState}
use Rattle.sse_link.specs.Stored.{IsStored}
use Rattle.outside_memory_disk.specs.SteadyDisk.{file_of, images_of, moment_of, left_since_of}
use Rattle.outside_memory_disk.specs.declared.steady_disk.SteadyDisk.{SteadyDisk}
use Rattle.sse_server.specs.Taken.{bodies}
use Rattle.client_journal.specs.Openings.{GivesSome}
use Rattle.sse_client.specs.Known.{Known, epochs_known}
use Rattle.sse_client.specs.CanGoOn.{CanResume, meaning_after}
use Rattle.client_journal.specs.DiskRuns.{kept_on}
use Rattle.sse_client.specs.OnDisk.{BeginsOnDisk, ResumesOnDisk, seen_with}
use Rattle.client_journal.specs.Shows.{SinkShows}

-- what is seen of it: all that passed, the records of the client's file, and what the sink took
abbrev pub seen_over : LinkState → (own : List ℕ) → (written : Option (List ℕ)) → Outside
seen_over told own written = seen_with (Some told.events) (Some own) written

-- a store's file was a journal when the link to it began, and each frame that was sent since was answered by the server's step
abbrev pub IsJournalled : LinkState → Type 0
IsJournalled told = AreStepped told.events × ((payloads : List (List ℕ)) × All IsPayload payloads × (told.began_file ≡ Some (file payloads)))

-- so it was, and is, and the file has behind the records of before the updates among these frames
abbrev pub HasStoredUpdates : List FrameText → (old new : LinkState) → Type 0
HasStoredUpdates frames old new =
    IsJournalled old → IsJournalled new × ((payloads : List (List ℕ)) × (old.file ≡ Some (file payloads)) × (new.file ≡ Some (file (payloads ++ bodies (updates_among frames)))))

-- a script of this meaning was carried out (Headline), and the server is one that was sent its history's frames: so the client's file is
-- exactly that of the history's records, and the updates among the frames are in the server's file
pub record IsOnBothSides (f : KeyedFn) (m : Meaning) (old new : LinkState) (own' : List ℕ) (now last : Outside) (status : ℕ) : Type 0 where
  pub headline : Headline f old.state m now last status new.state
  pub own_file : own' ≡ file (records_with f m.key m.history)
  pub stored : HasStoredUpdates (frames_of f m) old new

-- the same of a run that goes on (Rejoined), with the frames that the server lacked and those after them: the client's file is exactly that
-- of its old records and then those of the commands after the run
pub record IsRejoinedOnBothSides (f : KeyedFn) (start : ServerState) (key : List ℕ) (known : Known) (next : ℕ) (m : Meaning) (old new : LinkState) (own own' : List ℕ) (now last : Outside) (status : ℕ) : Type 0 where
  pub rejoined : Rejoined f start key (epochs_known known) next m now last status new.state
  pub own_file : own' ≡ file (records_in_file own ++ records_since f rejoined.more)
  pub stored : HasStoredUpdates (drop (next - known.begins.frame) (frames_under f key m.history)) old new

-- so it was where the client's file had no record, the server expected a setup, and the history has no collision
abbrev pub BeginsOnBothSides : KeyedFn → (bytes : List ℕ) → (old new : LinkState) → (own own' : List ℕ) → (written written' : Option (List ℕ)) → (status : ℕ) → Type 0
BeginsOnBothSides f bytes old new own own' written written' status =
    Gives [] own → Expects 0 old.state → IsFree f (meaning (Some (mark_of f)) bytes).key (meaning (Some (mark_of f)) bytes).history
    → IsOnBothSides f (meaning (Some (mark_of f)) bytes) old new own' (seen_over old own written) (seen_over new own' written') status

-- and where a run went on, with the records of the file that it had and with the server as it was
abbrev pub GoesOnOnBothSides : KeyedFn → (bytes : List ℕ) → (old new : LinkState) → (own own' : List ℕ) → (written written' : Option (List ℕ)) → (status : ℕ) → Type 0
GoesOnOnBothSides f bytes old new own own' written written' status =
    GivesSome own → (can : CanResume f bytes (kept_on (Some own)) old.state) →
    let m = meaning_after f can.key can.known can.number can.lines in
    IsFree f m.key m.history → IsRejoinedOnBothSides f can.taken.start can.key can.known can.next m old new own own' (seen_over old own written) (seen_over new own' written') status

-- `run` does over such a link what it does on a disk; and if source and sink didn't fail and memory wasn't out, it is on both sides
pub record BeginsOverStore (f : KeyedFn) (remaining : Option (List ℕ)) (old new : LinkState) (disk disk' : SteadyDisk) (sink sink' : SinkShows) (status : ℕ) : Type 0 where
  pub on_disk : BeginsOnDisk (λ d. Some (file_of d)) images_of moment_of left_since_of disk disk' f remaining (Some old.events) (Some new.events) sink sink' status
  pub both : status ≢ 3 → status ≢ 4 → status ≢ 7 → IfSome remaining (λ bytes. BeginsOnBothSides f bytes old new (file_of disk) (file_of disk') sink.written sink'.written status)

-- and so does `more`
pub record ResumesOverStore (f : KeyedFn) (remaining : Option (List ℕ)) (old new : LinkState) (disk disk' : SteadyDisk) (sink sink' : SinkShows) (status : ℕ) : Type 0 where
  pub on_disk : ResumesOnDisk (λ d. Some (file_of d)) images_of moment_of left_since_of disk disk' f remaining (Some old.events) (Some new.events) sink sink' status
  pub both : status ≢ 3 → status ≢ 4 → status ≢ 7 → IfSome remaining (λ bytes. GoesOnOnBothSides f bytes old new (file_of disk) (file_of disk') sink.written sink'.written status)

-- the link to the store: what passed is honest, since the run and since the link began, which is as it was; and the store's file holds the
-- updates that were taken
pub record LeavesStore (f : KeyedFn) (remaining : Option (List ℕ)) (old new : LinkState) : Type 0 where
  pub over : IfSome remaining (λ _. IsOverHonest f old.state (Some old.events) (Some new.events) new.state)
  pub honest : IsHonest f new.began new.events new.state
  pub stored : IsStored f new
  pub began : (new.began ≡ old.began) × (new.began_file ≡ old.began_file)
