-- A run over the lines of a script after its key line.
use Rattle.std.specs.Prelude.{◌≡◌, ℕ, ◌+◌, Bool, false, ◌||◌, List, [], ◌∷◌, ◌++◌, length, Option, None, Some, IfSome, Result, Ok, Err}
use Rattle.std.specs.Option.{option_and_then, option_map}
use Rattle.keyed_fn.specs.KeyedFn.{KeyedFn}
use Rattle.keyed_fn.specs.VaultFormulas.{VaultSecrets}
use Rattle.script_run_texts.specs.declared.input_stop.InputStop.{InputStop}
use Rattle.script_run_texts.specs.declared.input_stop.InputStop.TheVariants as inputs
use Rattle.script_run_texts.specs.declared.stop_cause.StopCause.TheVariants as runs
use Rattle.sse_script.specs.TextLines.{TakesLine}
use Rattle.vault_shelf.specs.Shelves.{Shelf, VaultCommand, shelf_of}
use Rattle.vault_shelf.specs.Standing.{LeftBy}
use Rattle.vault_shelf.specs.VaultSessions.{SlotsDiffer}
use Rattle.vault_script.specs.VaultLines.{VaultLineText, EmptyLine, KeyLine, PutLine, DropLine, GetLine, vault_line_of}
use Rattle.vault_script.specs.declared.vault_stop.VaultStop.{VaultStop}
use Rattle.vault_script.specs.declared.vault_stop.VaultStop.TheVariants as stops
use Rattle.vault_shelf.specs.ShelfView.{Keeps, ShelfView}
use Rattle.doc_vault.specs.CommandViews.{command_said}
use Rattle.doc_vault.specs.FairStops.{StopsFairly}
use Rattle.doc_vault.specs.HonestRuns.{PassesHonestly}
use Rattle.doc_vault.specs.HonestTexts.{PrintTheirTexts}
use Rattle.doc_vault.specs.LineRuns.{StopsTurn, is_refusal}
use Rattle.doc_vault.specs.Sights.{Moves, Sight}
use Rattle.doc_vault.specs.VaultRuns.{AreTurns, TakesTurn, Turn, commands_in, lines_in, passed_in, records_of_commands, shown_in, text_of_shown}

-- a line that isn't in the grammar, or a second key line
abbrev pub IsBadLine : Option VaultLineText → Type 0
IsBadLine None = Unit {0}
IsBadLine (Some (KeyLine key)) = Unit {0}
IsBadLine (Some EmptyLine) = ⊥
IsBadLine (Some (PutLine id body)) = ⊥
IsBadLine (Some (DropLine id)) = ⊥
IsBadLine (Some (GetLine id)) = ⊥

-- the stop at a bad line
abbrev pub bad_line : ℕ → VaultStop
bad_line number = stops.Run (runs.Input (inputs.Line number))

-- whether one of the turns was a refusal
abbrev pub any_refusal : List Turn → Bool
any_refusal [] = false
any_refusal (turn ∷ turns) = is_refusal turn.shown || any_refusal turns

module _ (f : KeyedFn) (keys : VaultSecrets) (s : Shelf) where
  -- a line was taken
  pub record HasTurned (line : List ℕ) (old new : Sight) (view : ShelfView) (refused : Bool) : Type 0 where
    pub turn : Turn
    pub line_is : turn.line ≡ line
    pub taken : TakesTurn f keys s turn
    pub moves : Moves turn.passed (records_of_commands turn.commands) (text_of_shown turn.shown) old new
    pub keeps : Keeps view (shelf_of s turn.commands)
    pub refuses : refused ≡ is_refusal turn.shown

  -- the run stops in the line of this number: it is bad, or its command stops the run
  pub data StopsLine (number : ℕ) (line : List ℕ) (old new : Sight) (stop : VaultStop) : Type 0 where
    AtBadLine : stop ≡ bad_line number → IsBadLine (vault_line_of line) → new ≡ old → StopsLine number line old new stop
    AtCommand : (c : VaultCommand) → option_and_then command_said (vault_line_of line) ≡ Some c → StopsTurn f keys s c line old new stop → StopsLine number line old new stop

  -- one of the two
  abbrev pub TurnsOrStops : (number : ℕ) (line : List ℕ) (old new : Sight) (view : ShelfView) → Result Bool VaultStop → Type 0
  TurnsOrStops number line old new view (Ok refused) = HasTurned line old new view refused
  TurnsOrStops number line old new view (Err stop) = StopsLine number line old new stop

  -- after the line of a number, lines were taken, one turn for each, up to that of another number, and these are left
  pub record HasRun (number number' : ℕ) (left left' : Option (List (List ℕ))) (old new : Sight) (view : ShelfView) (refused : Bool) : Type 0 where
    pub turns : List Turn
    pub counted : number' ≡ number + length turns
    pub are : AreTurns f keys s turns
    pub lines : left ≡ option_map (λ rest. lines_in turns ++ rest) left'
    pub moves : Moves (passed_in turns) (records_of_commands (commands_in turns)) (text_of_shown (shown_in turns)) old new
    pub keeps : Keeps view (shelf_of s (commands_in turns))
    pub refuses : refused ≡ any_refusal turns
    -- if the link tells its server, which stood as the client left it, and puts of different numbers have different slots
    pub texts : IfSome old.link.remote (λ before. SlotsDiffer f keys → LeftBy f keys before.state s → PrintTheirTexts s turns)

  -- the run is through: no line is left
  pub record FinishesRun (number : ℕ) (left : Option (List (List ℕ))) (old new : Sight) (view : ShelfView) (refused : Bool) : Type 0 where
    pub last : ℕ
    pub left_over : Option (List (List ℕ))
    pub run : HasRun number last left left_over old new view refused
    pub end : IfSome left_over (λ lines. lines ≡ [])
    -- if the link tells its server, which it then is honest about
    pub honest : IfSome old.link.remote (λ before. PassesHonestly f keys s before.state (commands_in run.turns) (passed_in run.turns) new.link.remote)

-- why no further line is read
abbrev pub IsUnread : InputStop → Type 0
IsUnread (inputs.Line number) = ⊥
IsUnread inputs.Source = Unit {0}
IsUnread inputs.Memory = Unit {0}

module _ (f : KeyedFn) (keys : VaultSecrets) where
  -- after the turns of a run it stops: in the next line, or since none is read
  pub data StopsAfter (s : Shelf) (number : ℕ) (left : Option (List (List ℕ))) (old new : Sight) (stop : VaultStop) : Type 0 where
    InLine : (line : List ℕ) (left' : Option (List (List ℕ))) → TakesLine left left' line → StopsLine f keys s number line old new stop → StopsAfter s number left old new stop
    Unread : (why : InputStop) → IsUnread why → stop ≡ stops.Run (runs.Input why) → new ≡ old → StopsAfter s number left old new stop

  -- the run stops after some turns
  pub record StopsRun (s : Shelf) (number : ℕ) (left : Option (List (List ℕ))) (old new : Sight) (stop : VaultStop) : Type 0 where
    pub last : ℕ
    pub left_over : Option (List (List ℕ))
    pub between : Sight
    pub view : ShelfView
    pub refused : Bool
    pub run : HasRun f keys s number last left left_over old between view refused
    pub stops : StopsAfter (shelf_of s (commands_in run.turns)) (last + 1) left_over between new stop
    -- if the link tells its server, which was honest so far; and if it stood as the client left it, no reply stops the run
    pub honest : IfSome old.link.remote (λ before. PassesHonestly f keys s before.state (commands_in run.turns) (passed_in run.turns) between.link.remote)
    pub fair : IfSome old.link.remote (λ before. SlotsDiffer f keys → LeftBy f keys before.state s → StopsFairly stop)

  -- one of the two
  abbrev pub RunsOrStops : Shelf → (number : ℕ) → Option (List (List ℕ)) → (old new : Sight) (view : ShelfView) → Result Bool VaultStop → Type 0
  RunsOrStops s number left old new view (Ok refused) = FinishesRun f keys s number left old new view refused
  RunsOrStops s number left old new view (Err stop) = StopsRun s number left old new stop
