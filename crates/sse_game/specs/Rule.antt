-- The duel of `duel SEED N`: its choices as pairs of commands, and the turns that follow its rule (docs/FORMATS.md, "A duel").
use Rattle.std.specs.Prelude.{◌≡◌, ℕ, zero, suc, ◌+◌, ◌-◌, List, [], ◌∷◌, codes, get_or, length, map, min, option_map, Option, None, Some, sum_by}
use Rattle.client_registry.specs.Command as commands
use Rattle.client_registry.specs.Command.{Command}
use Rattle.client_registry.specs.Epochs.{Does, next_begins}
use Rattle.client_registry.specs.Live.{live_of}
use Rattle.client_registry.specs.Run.{Epochs, From, at_first}
use Rattle.def_duel.specs.Choices.{Choice, Goes, Pair, SetsUp, Sides, at_start}
use Rattle.def_duel.specs.Duels.{HasDuelled}
use Rattle.def_duel.specs.Turns.{Turn, turn, answered, sides_after, texts_of}
use Rattle.keyed_fn.specs.KeyedFn.{KeyedFn}
use Rattle.script_game.specs.GameDocuments.{game_document, game_setup}
use Rattle.script_game.specs.GameRule.{RuleState, game_choice}
use Rattle.script_game.specs.RuleRuns.{IsRuleRun}
use Rattle.script_game.specs.declared.game_choice.GameChoice.{GameChoice}
use Rattle.script_game.specs.declared.game_choice.GameChoice.TheVariants.{SetUp, Search, Add, Delete}
use Rattle.script_game.specs.declared.game_side.GameSide.{GameSide}
use Rattle.script_game.specs.declared.game_side.GameSide.TheVariants.{Left, Right}
use Rattle.script_made_lines.specs.Lines.{made_key}

-- a choice on one side, and on both
abbrev pub choice_on : GameSide → GameChoice → Choice
choice_on side SetUp = SetsUp (game_setup side)
choice_on side Search = Goes (Does (commands.Search (codes "s")))
choice_on side (Add id) = Goes (Does (commands.Add (game_document side id)))
choice_on side (Delete id) = Goes (Does (commands.Delete id))

abbrev pub pair_by : GameChoice → Pair
pair_by choice = record { left = choice_on Left choice; right = choice_on Right choice }

-- the last of the texts; nothing if there is none
abbrev pub last_text : List (List ℕ) → List ℕ
last_text texts = get_or texts (length texts - 1) []

-- what the rule chooses at turn t, where the live documents are those of the left history
abbrev pub chosen_at : (seed turns t : ℕ) → Sides → (seen : List (List ℕ)) → Option Pair
chosen_at seed turns t s seen = option_map pair_by (game_choice seed turns t (map (λ d. d.id) (live_of s.left)) (last_text seen))

-- these turns, the first of them being turn t, are answered by the rule
abbrev pub AreChosen : KeyedFn → (key : List ℕ) → (seed turns t : ℕ) → Sides → List Turn → Type 0
AreChosen f key seed turns t s [] = Unit {0}
AreChosen f key seed turns t s (turn ∷ later) =
    (turn.answer ≡ chosen_at seed turns t s turn.seen) × AreChosen f key seed turns (t + 1) (answered f key s turn.answer) later

-- a duel of so many turns after the setup whose turns are answered by the rule, under the key of the seed: no pair is skipped, each history
-- has so many commands, and so many bytes passed for the left one
pub record IsDuelOf (f : KeyedFn) (seed turns : ℕ) (commands bytes : ℕ) : Type 0 where
  pub told : List Turn
  pub end : Sides
  pub duelled : HasDuelled f (made_key seed) (turns + 1) (Some []) (Some told) end
  pub chosen : AreChosen f (made_key seed) seed turns 0 at_start told
  pub unskipped : end.skipped ≡ 0
  pub all : commands ≡ turns + 1
  pub epochs : Epochs
  pub left : end.left ≡ Some epochs
  pub commands_are : commands ≡ (next_begins epochs).command
  pub bytes_are : bytes ≡ sum_by length (texts_of f (made_key seed) end.left)

-- What is known of the sides while the rule is followed.

-- after the setup: each side has so many commands after it, and those of its documents are live that these identifiers tell
pub record IsRuleGame (count : ℕ) (added : List ℕ) (s : Sides) : Type 0 where
  pub left : List Command
  pub right : List Command
  pub are : s ≡ record {
    left = Some (From at_first (record { setup = game_setup Left; later = left }));
    right = Some (From at_first (record { setup = game_setup Right; later = right }));
    skipped = 0;
  }
  pub on_left : IsRuleRun Left added left
  pub on_right : IsRuleRun Right added right
  pub count_left : length left ≡ count
  pub count_right : length right ≡ count

-- before turn t
abbrev pub IsRuleAt : (t : ℕ) (added : List ℕ) → Sides → Type 0
IsRuleAt zero added s = (s ≡ at_start) × (added ≡ [])
IsRuleAt (suc count) added s = IsRuleGame count added s

-- these are the turns so far of a chooser with this state
pub record HasRule (f : KeyedFn) (key : List ℕ) (r : RuleState) (told : List Turn) : Type 0 where
  pub chosen : AreChosen f key r.seed r.turns 0 at_start told
  pub turn : r.turn ≡ min (length told) (r.turns + 1)
  pub sides : IsRuleAt r.turn r.added (sides_after f key at_start told)

-- a turn that no duel has, which the chooser tells before its own ones: the numbers that it was made with
abbrev pub made_with : (seed turns : ℕ) → Turn
made_with seed turns = turn ((seed ∷ turns ∷ []) ∷ []) None

pub record HasToldRule (f : KeyedFn) (key : List ℕ) (r : RuleState) (told : List Turn) : Type 0 where
  pub own : List Turn
  pub told_is : told ≡ made_with r.seed r.turns ∷ own
  pub rule : HasRule f key r own
