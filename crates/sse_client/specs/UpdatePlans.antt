-- The plan of an update, at the place where it is made.
use Rattle.std.specs.Prelude.{◌≡◌, ◌⊎◌, [], ◌∷◌, map, option_map, Option, None, Some, Result, Ok, Err}
use Rattle.client_core.specs.StandsFor.{CanCommit}
use Rattle.client_core.specs.Updates.{command_of_update}
use Rattle.client_core.specs.declared.planned_update.PlannedUpdate.{PlannedUpdate}
use Rattle.client_core.specs.declared.ready.Ready.{Ready}
use Rattle.client_registry.specs.Command.{Command}
use Rattle.keyed_fn.specs.KeyedFn.{KeyedFn}
use Rattle.sse_frames.specs.Frames.{IsFrame, frame_bytes}
use Rattle.sse_model.specs.Histories.{frames_of_next, collision_of_next}
use Rattle.sse_script.specs.Shown.{Cause}
use Rattle.sse_script.specs.declared.refusal.Refusal.{Refusal}
use Rattle.def_script_meaning.specs.Carries.{collision_cause}
use Rattle.def_script_meaning.specs.Outcome.{Place}
use Rattle.script_run_texts.specs.Stops.{command_cause}
use Rattle.script_run_texts.specs.declared.command_stop.CommandStop.{CommandStop}
use Rattle.script_run_texts.specs.declared.command_stop.CommandStop.TheVariants as stops
use Rattle.sse_client.specs.declared.update_answer.UpdateAnswer.{UpdateAnswer}
use Rattle.sse_client.specs.declared.update_answer.UpdateAnswer.TheVariants as answers

-- two equal values of a command at a place, as the cause that is printed
abbrev pub clash_of : KeyedFn → Place → Command → Option Cause
clash_of f place c = option_map collision_cause (collision_of_next f place.key place.history (c ∷ []))

-- a plan is of this command, without equal values, and has its frame
pub record IsPlanOf (f : KeyedFn) (place : Place) (c : Command) (planned : PlannedUpdate) : Type 0 where
  pub command : command_of_update planned.update ≡ c
  pub frame : planned.frame ∷ [] ≡ map frame_bytes (frames_of_next f place.key place.history (c ∷ []))
  pub no_clash : clash_of f place c ≡ None

-- of a command that is refused for this reason, or for none, and has two equal values with this printed cause, or none: it is
-- refused for that reason; or the run stops for the equal values, where nothing refuses it, or for want of memory
abbrev pub IsUnplanned : (refusal : Option Refusal) (clash : Option Cause) → Result UpdateAnswer CommandStop → Type 0
IsUnplanned refusal clash (Ok (answers.Refused shown)) = refusal ≡ Some shown
IsUnplanned refusal clash (Err stop) = (stop ≡ stops.Memory) ⊎ ((refusal ≡ None) × (clash ≡ Some (command_cause stop)))
IsUnplanned refusal clash (Ok (answers.Planned planned)) = ⊥

-- of a command that is refused at a place for this reason, or for none: its plan, where nothing refuses it; or it isn't planned
abbrev pub IsUpdatePlan : (f : KeyedFn) (place : Place) (refusal : Option Refusal) (c : Command) → Result UpdateAnswer CommandStop → Type 0
IsUpdatePlan f place refusal c (Ok (answers.Planned planned)) = (refusal ≡ None) × IsPlanOf f place c planned
IsUpdatePlan f place refusal c unplanned = IsUnplanned refusal (clash_of f place c) unplanned

-- what stops the run in planning an update: equal labels, equal numbers, or want of memory
abbrev pub StopsPlan : CommandStop → Type 0
StopsPlan (stops.LabelClash first second) = Unit {0}
StopsPlan (stops.NumberClash first second) = Unit {0}
StopsPlan stops.Memory = Unit {0}
StopsPlan _ = ⊥

-- what holds of the plan, where there is one
abbrev pub IfPlanned : Result UpdateAnswer CommandStop → (PlannedUpdate → Type 0) → Type 0
IfPlanned (Ok (answers.Planned planned)) P = P planned
IfPlanned _ P = Unit {0}

-- a client in this state can carry out a plan: it can commit it, and its frame is one
pub record CanCarryOut (state : Ready) (planned : PlannedUpdate) : Type 0 where
  pub commits : CanCommit state planned
  pub frame : IsFrame planned.frame

-- whether an update is refused
abbrev pub IsRefused : Result UpdateAnswer CommandStop → Type 0
IsRefused plan = (refusal : Refusal) × (plan ≡ Ok (answers.Refused refusal))
