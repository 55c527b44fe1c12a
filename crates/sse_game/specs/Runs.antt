-- What the program prints of `duel SEED N`, and its status (docs/FORMATS.md, "A duel").
use Rattle.std.specs.Prelude.{◌≡◌, ◌⊎◌, ℕ, List, Option, None, Some, drop, map, string_bytes}
use Rattle.std.specs.Io.KnownBytes.{append_known}
use Rattle.keyed_fn.specs.KeyedFn.{KeyedFn}
use Rattle.outside_words.specs.declared.CommandLine.{CommandLine}
use Rattle.outside_words.specs.declared.CommandLine.TheVariants as lines
use Rattle.script_game.specs.GameTexts.{game_last_line, game_line, game_status}
use Rattle.script_game.specs.GameWords.{game_of}
use Rattle.script_game.specs.declared.game.Game.{Game}
use Rattle.script_game.specs.declared.game_stop.GameStop.{GameStop}
use Rattle.script_game.specs.declared.game_stop.GameStop.TheVariants.{Run, LeaksDiffer}
use Rattle.script_run_texts.specs.declared.stop_cause.StopCause.{StopCause}
use Rattle.script_run_texts.specs.declared.stop_cause.StopCause.TheVariants.{Memory, Sink, Words}
use Rattle.sse_outside.specs.Causes.{Rose}
use Rattle.sse_outside.specs.Fronts.{TookFront, TookOrRose}
use Rattle.sse_game.specs.Rule.{IsDuelOf}

-- what a sink shows: the bytes that it took, and its counts
pub record Shows : Type 0 where
  pub written : Option (List ℕ)
  pub faults : ℕ
  pub shortages : ℕ

abbrev pub shows : Option (List ℕ) → (faults shortages : ℕ) → Shows
shows written faults shortages = record { written = written; faults = faults; shortages = shortages }

-- the last line of a stop is printed, or a strict prefix of it if a count of the sink rose, and the status is that of the stop
pub record StopsWith (stop : GameStop) (old new : Shows) (status : ℕ) : Type 0 where
  pub status_is : status ≡ game_status stop
  pub line : TookOrRose old.written new.written (game_last_line stop) old.faults new.faults old.shortages new.shortages

-- a line is printed, and the status is 0
pub record PrintsLine (line : List ℕ) (old new : Shows) (status : ℕ) : Type 0 where
  pub status_is : status ≡ 0
  pub printed : new.written ≡ append_known old.written line
  pub steady : new.faults ≡ old.faults

-- why a line isn't printed whole: the sink failed, or there was no memory for it
abbrev pub IsSinkCause : StopCause → (old now : Shows) → Type 0
IsSinkCause cause old now = ((cause ≡ Sink) × Rose old.faults now.faults) ⊎ ((cause ≡ Memory) × Rose old.shortages now.shortages)

-- a strict prefix of it is, and then the last line of that stop
pub record PrintsShort (line : List ℕ) (old new : Shows) (status : ℕ) : Type 0 where
  pub between : Shows
  pub front : TookFront old.written between.written line
  pub cause : StopCause
  pub why : IsSinkCause cause old between
  pub stops : StopsWith (Run cause) between new status

abbrev pub Prints : (line : List ℕ) → (old new : Shows) → (status : ℕ) → Type 0
Prints line old new status = PrintsLine line old new status ⊎ PrintsShort line old new status

-- the line of the duel of the rule is printed
pub record TellsDuel (f : KeyedFn) (game : Game) (old new : Shows) (status : ℕ) : Type 0 where
  pub commands : ℕ
  pub bytes : ℕ
  pub duel : IsDuelOf f game.seed game.turns commands bytes
  pub prints : Prints (game_line commands bytes) old new status

-- a stop before the line: there was no memory, or the sides leak something else
abbrev pub IsEarlyStop : GameStop → Type 0
IsEarlyStop (Run stop) = stop ≡ Memory
IsEarlyStop (LeaksDiffer command) = Unit {0}

-- by what the words ask for; nothing is played if they aren't right
abbrev pub RunsDuel : KeyedFn → Option Game → (old new : Shows) → (status : ℕ) → Type 0
RunsDuel f None old new status = StopsWith (Run Words) old new status
RunsDuel f (Some game) old new status = TellsDuel f game old new status ⊎ ((stop : GameStop) × IsEarlyStop stop × StopsWith stop old new status)

-- the whole program, by its command line: by the words after its name, if each is a text and there was memory for them
abbrev pub RunsProgram : KeyedFn → CommandLine → (old new : Shows) → (status : ℕ) → Type 0
RunsProgram f (lines.Words words) old new status = RunsDuel f (game_of (map (λ word. string_bytes word) (drop 1 words.items))) old new status
RunsProgram f lines.NoText old new status = StopsWith (Run Words) old new status
RunsProgram f lines.NoMemory old new status = StopsWith (Run Memory) old new status
