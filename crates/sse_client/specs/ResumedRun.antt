-- A run that resumes: its history is that of the records that the client kept, and the server may be missing frames of its last command.
use Rattle.std.specs.Prelude.{◌≡◌, ◌≢◌, ◌⊎◌, ℕ, ◌+◌, ◌-◌, ◌<◌, false, List, [], drop, Option, None, Some, IfSome}
use Rattle.std.specs.Io.KnownBytes.{append_known}
use Rattle.client_core.specs.Owes.{last_frames}
use Rattle.client_core.specs.Resumes.{IsWithin, first_of_last, last_collision}
use Rattle.client_records.specs.Openings.{IsBadRecord, OpensElsewhere}
use Rattle.client_registry.specs.Histories.{IsKept, empty}
use Rattle.client_registry.specs.Run.{History}
use Rattle.client_registry.specs.Sized.{update_frames}
use Rattle.keyed_fn.specs.KeyFormulas.{mark_of}
use Rattle.keyed_fn.specs.KeyedFn.{KeyedFn}
use Rattle.sse_frames.specs.Frames.{FrameText}
use Rattle.sse_model.specs.Compared.{Collision}
use Rattle.sse_outside.specs.Fronts.{TookFront}
use Rattle.sse_script.specs.Shown.{Cause, BadLine, BadRecord, DiskFault, NoJournal, NoMemory, WrongKey, Resumed}
use Rattle.sse_script.specs.Texts.{text_of}
use Rattle.sse_outside.specs.Kept.{Kept}
use Rattle.def_script_meaning.specs.Carries.{Outside, collision_cause}
use Rattle.def_script_meaning.specs.Exchange.{Told}
use Rattle.def_script_meaning.specs.HelloExchange.{Greets, TurnsAway}
use Rattle.def_script_meaning.specs.Lines.{Line, lines_in}
use Rattle.def_script_meaning.specs.Runs.{Ended, ended, Runs, StopsReading}
use Rattle.def_script_meaning.specs.Stops.{Stop, At, SinkFault, status_of}
use Rattle.sse_client.specs.Exchanges.{HasExchanged, HasCut}
use Rattle.sse_client.specs.Known.{Known, OpensUnder, epochs_known, place_known}
use Rattle.sse_client.specs.LastLine.{EndsLine}
use Rattle.sse_client.specs.KeyLines.{KeyLine, Keyed, Missing, key_line}

-- The records.

-- they open to a history of which this is known, its last epoch under this key, where they are told
abbrev pub Restores : KeyedFn → (key : List ℕ) → Kept → Known → Type 0
Restores f key kept known = IsKept (Some (epochs_known known)) × IfSome kept.records (λ payloads. OpensUnder (mark_of f key) payloads known)

-- the records of a journal make no history under this key: one isn't a record that can stand behind those before it; or they make
-- a history, and its last epoch has another key. Or they couldn't be read
abbrev pub IsUnrestored : KeyedFn → (key : List ℕ) → Kept → Cause → Type 0
IsUnrestored f key kept (BadRecord n) = IfSome kept.records (λ payloads. IsBadRecord payloads n)
IsUnrestored f key kept WrongKey = IfSome kept.records (λ payloads. OpensElsewhere (mark_of f key) payloads)
IsUnrestored f key kept NoJournal = IfSome kept.records (λ payloads. ⊥)
IsUnrestored f key kept DiskFault = Unit {0}
IsUnrestored f key kept NoMemory = Unit {0}
IsUnrestored _ _ _ _ = ⊥

-- The frames that the server lacks.

-- those of the history's last command, for a server that expects this update
abbrev pub frames_lacking : KeyedFn → (key : List ℕ) → Known → (next : ℕ) → List FrameText
frames_lacking f key known next = drop (next - first_of_last f key known.begins known.run) (last_frames f (λ epoch. key) known.begins known.run)

-- two values of the last command that have to differ and are equal
abbrev pub collision_again : KeyedFn → (key : List ℕ) → Known → Option Collision
collision_again f key known = last_collision f (λ epoch. key) known.begins known.run

-- a session is opened with a server that expects this update, of which the history's last command has the frame, or the one behind it
pub record IsFound (f : KeyedFn) (key : List ℕ) (known : Known) (next : ℕ) (old new : Told) : Type 0 where
  pub greets : Greets next next old new
  pub within : IsWithin f key known.begins known.run next

-- the server lacked so many frames, and they were exchanged with it; where there are any, no values of the last command are equal
pub record HasResent (f : KeyedFn) (key : List ℕ) (known : Known) (old new : Told) (frames : ℕ) : Type 0 where
  pub next : ℕ
  pub greeted : Told
  pub found : IsFound f key known next old greeted
  pub lacking : next + frames ≡ known.begins.frame + update_frames known.run
  pub sent : HasExchanged greeted new [] (frames_lacking f key known next)
  pub no_clash : frames ≢ 0 → collision_again f key known ≡ None

-- a run stops after the greeting, before the server has all of them: values of the last command are equal, memory is wanting, or
-- the exchange is cut
abbrev pub StopsBehind : KeyedFn → (key : List ℕ) → Known → (next : ℕ) → (greeted new : Told) → Cause → Type 0
StopsBehind f key known next greeted new cause =
    ((new ≡ greeted) × (next < known.begins.frame + update_frames known.run) × ((c : Collision) × (collision_again f key known ≡ Some c) × (cause ≡ collision_cause c)))
    ⊎ ((new ≡ greeted) × (cause ≡ NoMemory))
    ⊎ ((next < known.begins.frame + update_frames known.run) × (collision_again f key known ≡ None) × HasCut greeted new (frames_lacking f key known next) cause)

-- or before, as no session is opened with a server that can be at one of these frames
abbrev pub StopsResending : KeyedFn → (key : List ℕ) → Known → (old new : Told) → Cause → Type 0
StopsResending f key known old new cause =
    TurnsAway (first_of_last f key known.begins known.run) (known.begins.frame + update_frames known.run) old new cause
    ⊎ ((next : ℕ) × (greeted : Told) × IsFound f key known next old greeted × StopsBehind f key known next greeted new cause)

-- The whole run.

-- it stops before the server has all of the history's frames: nothing is printed, and no record is kept
pub record IsHeldUp (f : KeyedFn) (key : List ℕ) (known : Known) (now : Outside) (end : Ended) : Type 0 where
  pub cause : Cause
  pub stops : end.stop ≡ At cause
  pub why : StopsResending f key known now.told end.outside.told cause
  pub unkept : end.outside.kept ≡ now.kept
  pub unprinted : end.outside.written ≡ now.written
  pub same_key : end.key ≡ Some key
  pub history : end.history ≡ Some (epochs_known known)

-- the server has them all, and a proper front of the line that says so is printed
pub record IsUntold (f : KeyedFn) (key : List ℕ) (known : Known) (now : Outside) (end : Ended) : Type 0 where
  pub frames : ℕ
  pub resent : HasResent f key known now.told end.outside.told frames
  pub stops : (end.stop ≡ SinkFault) ⊎ (end.stop ≡ At NoMemory)
  pub printed : TookFront now.written end.outside.written (text_of (Resumed frames))
  pub unkept : end.outside.kept ≡ now.kept
  pub same_key : end.key ≡ Some key
  pub history : end.history ≡ Some (epochs_known known)

-- the server has them all, and the line is printed
pub record HasResumed (f : KeyedFn) (key : List ℕ) (known : Known) (now next : Outside) : Type 0 where
  pub frames : ℕ
  pub resent : HasResent f key known now.told next.told frames
  pub printed : next.written ≡ append_known now.written (text_of (Resumed frames))
  pub unkept : next.kept ≡ now.kept

-- a run goes on after this history, over these lines, the first of which has this number
abbrev pub GoesOnFrom : KeyedFn → (key : List ℕ) → Known → (number : ℕ) → List (Option Line) → Outside → Ended → Type 0
GoesOnFrom f key known number lines now end =
    IsHeldUp f key known now end
    ⊎ IsUntold f key known now end
    ⊎ ((next : Outside) × HasResumed f key known now next × Runs f (place_known f key known) number lines false next end)

-- behind its key line, which has this key: it is stopped by the records, or goes on after their history
abbrev pub GoesOnBehindKey : KeyedFn → (key : List ℕ) → (number : ℕ) → List (Option Line) → Outside → Ended → Type 0
GoesOnBehindKey f key number lines now end =
    ((cause : Cause) × IsUnrestored f key now.kept cause × (end ≡ ended now (Some key) empty (At cause)))
    ⊎ ((known : Known) × Restores f key now.kept known × GoesOnFrom f key known number lines now end)

abbrev pub AtKeyLine : KeyedFn → KeyLine → Outside → Ended → Type 0
AtKeyLine f (Keyed key number lines) now end = GoesOnBehindKey f key number lines now end
AtKeyLine f (Missing number) now end = end ≡ ended now None empty (At (BadLine number))

-- a run that goes on over the lines of a script, which are numbered from 1: its reading may stop before the key line
abbrev pub GoesOnOver : KeyedFn → List (Option Line) → Outside → Ended → Type 0
GoesOnOver f lines now end = StopsReading now None empty end ⊎ AtKeyLine f (key_line 1 lines) now end

-- the same where lines are taken from a source
abbrev pub GoesOnTo : KeyedFn → Option (List (List ℕ)) → Outside → Outside → Stop → Type 0
GoesOnTo f left now end stop = (key : Option (List ℕ)) × (h : History) × IfSome left (λ texts. GoesOnOver f (lines_in texts) now (ended end key h stop))

abbrev pub ResumesTo : KeyedFn → (key : List ℕ) → Known → (number : ℕ) → Option (List (List ℕ)) → Outside → Outside → Stop → Type 0
ResumesTo f key known number left now end stop = (h : History) × IfSome left (λ texts. GoesOnFrom f key known number (lines_in texts) now (ended end (Some key) h stop))

-- a run went on after this history over the lines that were left, with its last line and this status
pub record HasEndedAfter (f : KeyedFn) (key : List ℕ) (known : Known) (number : ℕ) (left : Option (List (List ℕ))) (now last : Outside) (status faults faults_now shortages shortages_now : ℕ) : Type 0 where
  pub end : Ended
  pub goes_on : IfSome left (λ texts. GoesOnFrom f key known number (lines_in texts) now end)
  pub told : last.told ≡ end.outside.told
  pub kept : last.kept ≡ end.outside.kept
  pub line : EndsLine end.stop end.outside.written last.written status faults faults_now shortages shortages_now
  pub status_is : status ≡ status_of end.stop
