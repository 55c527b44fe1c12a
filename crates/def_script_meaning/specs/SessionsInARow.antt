-- Any number of sessions in a row: a whole run, and then sessions that each resume after all that was recorded before, under the key that is the last
-- then. They have one history, and the simulator makes all their frames of its leakage.
use Rattle.std.specs.Prelude.{◌≡◌, ℕ, List, [], ◌∷◌, ◌++◌, flat_map, fold, Some}
use Rattle.client_registry.specs.Epochs.{Step, key_now, step_after}
use Rattle.client_registry.specs.Histories.{IsFirstOf, IsWhole}
use Rattle.client_registry.specs.Run.{History, Epochs}
use Rattle.keyed_fn.specs.KeyedFn.{KeyedFn}
use Rattle.def_link_events.specs.Taken.{updates_among}
use Rattle.sse_frames.specs.Exchange.{Passed, sent_among}
use Rattle.def_script_meaning.specs.Carries.{Outside}
use Rattle.def_script_meaning.specs.Headline.{SendsSimulated}
use Rattle.def_script_meaning.specs.Joined.{updates_of}
use Rattle.def_script_meaning.specs.Recorded.{IsRecorded}
use Rattle.def_script_meaning.specs.Rejoins.{IsRecordedBehind}
use Rattle.def_script_meaning.specs.Runs.{Ended}
use Rattle.def_script_meaning.specs.Session.{simulated_with}
use Rattle.def_script_meaning.specs.SimulatedAfter.{SendsFrom}
use Rattle.def_script_meaning.specs.Since.{last_epoch}

-- The sessions.

-- a whole run between these two moments left these epochs behind: its setup and the commands and renewals whose records were taken; or one more,
-- whose record was refused and may be there all the same
pub record Begins (f : KeyedFn) (key : List ℕ) (first : Epochs) (now last : Outside) : Type 0 where
  pub history : History
  pub status : ℕ
  pub recorded : IsRecorded f (Some key) history status now last
  pub whole : IsWhole (Some first)
  pub least : IsFirstOf recorded.held (Some first)
  pub most : IsFirstOf (Some first) history

-- a session that resumed: the commands and renewals that it left behind, the moment when it began, and its end
pub record Session : Type 0 where
  pub more : List Step
  pub now : Outside
  pub end : Ended

-- it resumed after these updates, and left those steps: all whose records were taken, and at most the one more whose record was refused
pub record ResumesAfter (f : KeyedFn) (key : List ℕ) (updates : Epochs) (s : Session) : Type 0 where
  pub recorded : IsRecordedBehind f key updates s.now s.end
  pub least : IsFirstOf recorded.held (Some (fold step_after updates s.more))
  pub most : IsFirstOf (Some (fold step_after updates s.more)) s.end.history

-- epochs with the steps of a session after them
abbrev pub with_session : Epochs → Session → Epochs
with_session es s = fold step_after es s.more

-- sessions in a row after epochs, the first of which has this key: each resumes under the last key after the updates of the last epoch
abbrev pub AreInARow : KeyedFn → (key : List ℕ) → (earlier : Epochs) → List Session → Type 0
AreInARow f key earlier [] = Unit {0}
AreInARow f key earlier (s ∷ later) = ResumesAfter f (key_now key earlier) (last_epoch (updates_of earlier)) s × AreInARow f key (with_session earlier s) later

-- their one history, each search in its place
abbrev pub joined : (earlier : Epochs) → List Session → Epochs
joined earlier [] = earlier
joined earlier (s ∷ later) = joined (with_session earlier s) later

-- The simulator.

-- after earlier epochs, of which the simulator makes `before`, each session has its part of what the simulator makes of the history up to its
-- end; and its frames are the first of these: Hello, the updates made before that its server was missing, and the frames of its part
abbrev pub HaveParts : KeyedFn → (key : List ℕ) → (earlier : Epochs) → (before : List Passed) → List Session → (parts : List (List Passed)) → Type 0
HaveParts f key earlier before [] [] = Unit {0}
HaveParts f key earlier before [] (part ∷ parts) = ⊥
HaveParts f key earlier before (s ∷ later) [] = ⊥
HaveParts f key earlier before (s ∷ later) (part ∷ parts) =
    (simulated_with f (Some key) (Some (with_session earlier s)) ≡ Some (before ++ part))
    × SendsFrom (updates_among (sent_among before)) (sent_among part) s.now.told s.end.outside.told
    × HaveParts f key (with_session earlier s) (before ++ part) later parts

-- the simulator makes one list of the leakage of the whole history: what it makes of the first run, and then a part for each session. The first
-- run sent the first frames of the one, and each session those of its part
pub record AreSimulated (f : KeyedFn) (key : List ℕ) (first : Epochs) (now last : Outside) (sessions : List Session) : Type 0 where
  pub begun : SendsSimulated f (Some key) (Some first) now.told last.told
  pub opening : List Passed
  pub opened : simulated_with f (Some key) (Some first) ≡ Some opening
  pub parts : List (List Passed)
  pub each : HaveParts f key first opening sessions parts
  pub made : simulated_with f (Some key) (Some (joined first sessions)) ≡ Some (opening ++ flat_map (λ part. part) parts)
