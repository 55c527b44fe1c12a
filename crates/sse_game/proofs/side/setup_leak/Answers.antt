use Rattle.std.proofs.Common.{sym, ◌∙◌}
use Rattle.sse_model.proofs.Counts.{length-block_positions, length-entry_positions}
use Rattle.sse_simulator.specs.Leaks.{SetupLeak}
use Rattle.sse_game.proofs.side.setup_leak.Goals as goal

pub returns : goal.returns
returns c = λ epoch.
    let s = c.args.history.now.setup in
    λ i. SetupLeak (record { b = c.b.ensures i; big = c.big.ensures i })
    ((c.requires.words ∙ sym (length-entry_positions epoch s)) i)
    ((c.requires.blocks ∙ sym (length-block_positions epoch s)) i)
