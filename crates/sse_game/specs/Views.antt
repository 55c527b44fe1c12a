-- The commands that a pair of the code means.
use Rattle.client_registry.specs.Epochs.{Does, Renews}
use Rattle.client_registry.specs.Setup.{Setup, setup_with}
use Rattle.def_duel.specs.Choices as choices
use Rattle.leakage_history.specs.Commands.{command_of}
use Rattle.sse_game.specs.declared.choice.Choice.{Choice}
use Rattle.sse_game.specs.declared.choice.Choice.TheVariants as own
use Rattle.sse_game.specs.declared.choice.NewSetup.{NewSetup}
use Rattle.sse_game.specs.declared.choice.Pair.{Pair}

-- the setup of these documents with these parameters
abbrev pub setup_view : NewSetup → Setup
setup_view new = setup_with new.docs.documents new.sizes.b new.sizes.big new.sizes.pad

abbrev pub choice_view : Choice → choices.Choice
choice_view (own.SetUp new) = choices.SetsUp (setup_view new)
choice_view (own.Do command) = choices.Goes (Does (command_of command))
choice_view (own.Renew key) = choices.Goes (Renews key)

abbrev pub pair_view : Pair → choices.Pair
pair_view p = record { left = choice_view p.left; right = choice_view p.right }

abbrev pub setups_view : (left right : NewSetup) → choices.Pair
setups_view left right = record { left = choices.SetsUp (setup_view left); right = choices.SetsUp (setup_view right) }
