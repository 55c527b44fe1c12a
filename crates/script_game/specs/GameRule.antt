-- The rule of choice of `duel SEED N` (docs/FORMATS.md, "A duel").
use Rattle.std.specs.Prelude.{ℕ, ◌+◌, ◌≤◌, ◌%◌, ◌==◌, List, [], ◌∷◌, ◌++◌, drop, filter, nat_lt, slice_get, Option, None, Some, if◌then◌else◌}
use Rattle.std.specs.List.{sum}
use Rattle.client_registry.specs.Live.{in_order}
use Rattle.script_game.specs.declared.game_choice.GameChoice.{GameChoice}
use Rattle.script_game.specs.declared.game_choice.GameChoice.TheVariants.{SetUp, Search, Add, Delete}

-- of these identifiers those above 100, rising
abbrev pub above_100 : List ℕ → List ℕ
above_100 ids = in_order (filter (nat_lt 100) ids)

-- the deletion of this identifier, or a search if there is none
abbrev pub deletion_of : Option ℕ → GameChoice
deletion_of (Some id) = Delete id
deletion_of None = Search

-- at turn t after the setup, by a number below 3, this being the least live identifier above 100
abbrev pub choice_by : (x t : ℕ) (least : Option ℕ) → GameChoice
choice_by x t least = if x == 0 then Search else if x == 1 then Add (100 + t) else deletion_of least

-- at turn t, by that identifier: at 0 the setup, then so many turns and no more; the last text that was shown has these bytes
abbrev pub choice_with : (seed turns t : ℕ) (least : Option ℕ) (last : List ℕ) → Option GameChoice
choice_with seed turns t least last =
    if t == 0 then Some SetUp else if nat_lt turns t then None else Some (choice_by ((seed + t + sum last) % 3) t least)

-- the rule: at turn t, if these identifiers are live
abbrev pub game_choice : (seed turns t : ℕ) (live last : List ℕ) → Option GameChoice
game_choice seed turns t live last = choice_with seed turns t (slice_get (above_100 live) 0) last

-- an addition and a deletion have an identifier of at least 1
abbrev pub HasIdentifier : GameChoice → Type 0
HasIdentifier SetUp = Unit {0}
HasIdentifier Search = Unit {0}
HasIdentifier (Add id) = 1 ≤ id
HasIdentifier (Delete id) = 1 ≤ id

-- What the code keeps of the turns so far.

pub record RuleState : Type 0 where
  pub seed : ℕ
  pub turns : ℕ
  -- the number of the next turn
  pub turn : ℕ
  -- the live identifiers above 100, rising
  pub added : List ℕ

-- those identifiers after a choice
abbrev pub added_after : List ℕ → GameChoice → List ℕ
added_after added SetUp = added
added_after added Search = added
added_after added (Add id) = added ++ id ∷ []
added_after added (Delete id) = drop 1 added

abbrev pub state_after : RuleState → Option GameChoice → RuleState
state_after s None = s
state_after s (Some choice) = record { seed = s.seed; turns = s.turns; turn = s.turn + 1; added = added_after s.added choice }
