-- A line of a duel that the sink doesn't take whole, and the words after a program's name.
use Rattle.std.proofs.Common.{◌≡◌, inl, inr, ℕ, List, Err, drop, map, refl, sym, subst}
use Rattle.std.specs.Prelude.{IsErrOf, string_bytes}
use Rattle.keyed_fn.specs.KeyedFn.{KeyedFn}
use Rattle.outside_words.specs.declared.CommandLine.{CommandLine}
use Rattle.outside_words.specs.declared.CommandLine.TheVariants as lines
use Rattle.sse_outside.specs.Causes.{Rose}
use Rattle.sse_outside.specs.Fronts.{TookFront}
use Rattle.sse_outside.specs.declared.device_fault.DeviceFault.{DeviceFault}
use Rattle.sse_outside.specs.declared.device_fault.DeviceFault.TheVariants.{Failed, NoMemory}
use Rattle.script_game.specs.GameWords.{game_of}
use Rattle.script_game.specs.declared.game_stop.GameStop.{GameStop}
use Rattle.script_game.specs.declared.game_stop.GameStop.TheVariants.{Run}
use Rattle.script_run_texts.specs.Stops.{stop_of_sink}
use Rattle.sse_game.specs.Runs.{IsSinkCause, PrintsShort, RunsDuel, RunsProgram, Shows, StopsWith}

sink_cause : (fault : DeviceFault) (old now : Shows) → (IsErrOf {T = Unit {0}} (Err fault) Failed → Rose old.faults now.faults) → (IsErrOf {T = Unit {0}} (Err fault) NoMemory → Rose old.shortages now.shortages) → IsSinkCause (stop_of_sink fault) old now
sink_cause Failed old now failed shortage = inl (refl, failed refl)
sink_cause NoMemory old now failed shortage = inr (refl, shortage refl)

pub prints_short : (fault : DeviceFault) (stop : GameStop) (bytes line : List ℕ) (old between new : Shows) (status : ℕ) → TookFront old.written between.written bytes → bytes ≡ line
    → (IsErrOf {T = Unit {0}} (Err fault) Failed → Rose old.faults between.faults) → (IsErrOf {T = Unit {0}} (Err fault) NoMemory → Rose old.shortages between.shortages)
    → stop ≡ Run (stop_of_sink fault) → StopsWith stop between new status → PrintsShort line old new status
prints_short fault stop bytes line old between new status front same failed shortage is stops = record {
  between = between;
  front = subst (TookFront old.written between.written) same front;
  cause = stop_of_sink fault;
  why = sink_cause fault old between failed shortage;
  stops = subst (λ (s : GameStop). StopsWith s between new status) is stops;
}

pub RunsProgram-words : (f : KeyedFn) (given : CommandLine) (words : _) (old new : Shows) (status : ℕ) → given ≡ lines.Words words
    → RunsDuel f (game_of (map (λ word. string_bytes word) (drop 1 words.items))) old new status → RunsProgram f given old new status
RunsProgram-words f given words old new status is runs = subst (λ line. RunsProgram f line old new status) (sym is) runs
