-- A run that resumes with nothing in its way: the conditions on its script, its records and its server, and its effects. And the stops that follow
-- from the script and the records only.
use Rattle.std.specs.Prelude.{◌≡◌, ◌≢◌, ◌⊎◌, ◌≤◌, ℕ, false, List, Option, Some}
use Rattle.client_core.specs.Resumes.{IsWithin}
use Rattle.client_records.specs.Openings.{IsBadRecord, OpensElsewhere}
use Rattle.keyed_fn.specs.KeyFormulas.{mark_of}
use Rattle.keyed_fn.specs.KeyedFn.{KeyedFn}
use Rattle.server_core.specs.State.{ServerState}
use Rattle.sse_outside.specs.Kept.{Kept}
use Rattle.sse_script.specs.Shown.{BadLine, BadRecord, WrongKey}
use Rattle.def_script_meaning.specs.Carries.{Outside}
use Rattle.def_script_meaning.specs.Headline.{IsOverHonest, IsUndisturbed}
use Rattle.def_script_meaning.specs.Joined.{LeavesServer}
use Rattle.def_script_meaning.specs.Lines.{Line, script_lines}
use Rattle.def_script_meaning.specs.Meaning.{Meaning, follow}
use Rattle.def_script_meaning.specs.Rejoins.{HasTaken, IsRecordedBehind, Rejoined}
use Rattle.def_script_meaning.specs.Runs.{Ended}
use Rattle.def_script_meaning.specs.Session.{IsFree}
use Rattle.def_script_meaning.specs.SimulatedAfter.{ResumesSimulated}
use Rattle.def_script_meaning.specs.Stops.{At}
use Rattle.sse_client.specs.Known.{Known, OpensUnder, epochs_known, place_known}
use Rattle.sse_client.specs.KeyLines.{Keyed, Missing, key_line}

-- the script has a key line; the records open to one history, the last epoch under its key; and a server in this state was sent the first
-- frames of that epoch, all but at most some of its last command's
pub record CanResume (f : KeyedFn) (bytes : List ℕ) (kept : Kept) (before : ServerState) : Type 0 where
  pub key : List ℕ
  pub number : ℕ
  pub lines : List (Option Line)
  pub found : key_line 1 (script_lines bytes) ≡ Keyed key number lines
  pub payloads : List (List ℕ)
  pub told : kept.records ≡ Some payloads
  pub known : Known
  pub opens : OpensUnder (mark_of f key) payloads known
  pub next : ℕ
  pub taken : HasTaken f key (epochs_known known) next before
  pub within : IsWithin f key known.begins known.run next

-- so it is between these two moments, and what passed is honest from that server
pub record CanGoOn (f : KeyedFn) (bytes : List ℕ) (now last : Outside) : Type 0 where
  pub before : ServerState
  pub resumes : CanResume f bytes now.kept before
  pub state : ServerState
  pub honest : IsOverHonest f before now.told last.told state

-- what the lines behind the key line mean after that history
abbrev pub meaning_after : KeyedFn → (key : List ℕ) → Known → (number : ℕ) → List (Option Line) → Meaning
meaning_after f key known number lines = follow (place_known f key known) number lines false

-- no collision and no reply stops such a run, where its history up to its stop has no collision
abbrev pub IsHonestAfter : KeyedFn → List ℕ → Outside → Outside → Ended → (status : ℕ) → Type 0
IsHonestAfter f bytes now last end status = CanGoOn f bytes now last → IsFree f end.key end.history → status ≤ 7

-- and where nothing else disturbed it either, it sent what the server lacked and did what its lines mean
abbrev pub HasHeadlineAfter : KeyedFn → List ℕ → Outside → Outside → (status : ℕ) → Type 0
HasHeadlineAfter f bytes now last status =
    (can : CanGoOn f bytes now last) →
    let has = can.resumes in
    let m = meaning_after f has.key has.known has.number has.lines in
    IsFree f m.key m.history → IsUndisturbed status → Rejoined f has.taken.start has.key (epochs_known has.known) has.next m now last status can.state

-- and whatever stopped it, it left such a server for the history up to its stop, so that a run can go on again
abbrev pub LeavesServerAfter : KeyedFn → List ℕ → Outside → Outside → Ended → Type 0
LeavesServerAfter f bytes now last end = (can : CanGoOn f bytes now last) → IsFree f end.key end.history → LeavesServer f end.key end.history can.state

-- Stops before anything is sent.

-- a run that goes on ends so, unless reading failed or memory was wanting: where a script has no key line where one has to stand; where the
-- record of a number is the first that can't stand where it does; and where the last epoch of their history has another key
pub record StopsUnsent (f : KeyedFn) (bytes : List ℕ) (now : Outside) (end : Ended) (status : ℕ) : Type 0 where
  pub no_key : (number : ℕ) → key_line 1 (script_lines bytes) ≡ Missing number → status ≢ 3 → status ≢ 7 → end.stop ≡ At (BadLine number)
  pub bad_record : (key : List ℕ) (number : ℕ) (lines : List (Option Line)) (payloads : List (List ℕ)) (n : ℕ) → key_line 1 (script_lines bytes) ≡ Keyed key number lines → now.kept.records ≡ Some payloads
      → IsBadRecord payloads n → status ≢ 3 → status ≢ 6 → status ≢ 7 → end.stop ≡ At (BadRecord n)
  pub wrong_key : (key : List ℕ) (number : ℕ) (lines : List (Option Line)) (payloads : List (List ℕ)) → key_line 1 (script_lines bytes) ≡ Keyed key number lines → now.kept.records ≡ Some payloads
      → OpensElsewhere (mark_of f key) payloads → status ≢ 3 → status ≢ 6 → status ≢ 7 → end.stop ≡ At WrongKey

-- Records and frames.

-- nothing was sent and nothing kept; or these records open to a history under a key, and the run took records and sent frames of one
-- after it
abbrev pub IsRecordedAfter : KeyedFn → (payloads : List (List ℕ)) → (now : Outside) → Ended → Type 0
IsRecordedAfter f payloads now end =
    ((end.outside.told ≡ now.told) × (end.outside.kept ≡ now.kept))
    ⊎ ((key : List ℕ) × (known : Known) × OpensUnder (mark_of f key) payloads known × IsRecordedBehind f key (epochs_known known) now end)

-- nothing was sent; or these records open to updates under a key, and the run sent the first frames that the simulator makes, of any earlier
-- history with these updates in its last epoch and of the commands and renewals of this run
abbrev pub SendsSimulatedFrom : KeyedFn → (payloads : List (List ℕ)) → (now : Outside) → Ended → Type 0
SendsSimulatedFrom f payloads now end =
    (end.outside.told ≡ now.told)
    ⊎ ((key : List ℕ) × (updates : Known) × OpensUnder (mark_of f key) payloads updates × ResumesSimulated f key (epochs_known updates) now end)
