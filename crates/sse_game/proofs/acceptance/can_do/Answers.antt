use Rattle.std.proofs.Common.{◌&&◌, length, filter, nat_le, nat_lt, ◌-◌, ◌^◌, ◌∷◌, [], sym, ap, ◌∙◌, arith}
use Rattle.std.specs.Prelude.{is_none}
use Rattle.client_registry.specs.Command.{is_update}
use Rattle.leakage_history.specs.Commands.{command_of}
use Rattle.sse_game.specs.Side.{epochs_at}
use Rattle.sse_game.proofs.Accepting.{takes-does}
use Rattle.sse_game.proofs.acceptance.can_do.Goals as goal

pub returns-in-Some : goal.returns-in-Some
returns-in-Some c =
    let side = c.args.side.now in
    let command = command_of c.args.command.now in
    ap (λ b. b && (nat_lt side.commands (2 ^ 32 - 1) && nat_le (length (filter is_update (command ∷ []))) (2 ^ 32 - 1 - side.frames))) (sym (ap is_none c.in-Some.is) ∙ ap is_none c.refusal.ensures.refusal)
    ∙ takes-does (epochs_at side) side.commands side.frames c.requires.numbers.commands c.requires.numbers.frames (omega (arith, c.requires.numbers.frames, c.requires.numbers.kept.1)) command

pub returns-in-None : goal.returns-in-None
returns-in-None c =
    let side = c.args.side.now in
    let command = command_of c.args.command.now in
    c.has_numbers.ensures
    ∙ ap (λ n. nat_lt side.commands (2 ^ 32 - 1) && nat_le n (2 ^ 32 - 1 - side.frames)) c.count_frames.ensures
    ∙ ap (λ b. b && (nat_lt side.commands (2 ^ 32 - 1) && nat_le (length (filter is_update (command ∷ []))) (2 ^ 32 - 1 - side.frames))) (sym (ap is_none c.in-None.is) ∙ ap is_none c.refusal.ensures.refusal)
    ∙ takes-does (epochs_at side) side.commands side.frames c.requires.numbers.commands c.requires.numbers.frames (omega (arith, c.requires.numbers.frames, c.requires.numbers.kept.1)) command
