use Rattle.std.proofs.Common.{sym, ◌∙◌}
use Rattle.sse_model.proofs.Counts.{length-block_positions, length-entry_positions}
use Rattle.sse_simulator.specs.Leaks.{SetupLeak}
use Rattle.leakage_model.proofs.leaks.setup_leak.Goals as goal

pub returns : goal.returns
returns c = λ epoch.
    let s = c.args.history.now.setup in
    λ i. SetupLeak (record { b = c.b.ensures i; big = c.big.ensures i })
    ((c.size_of_setup-size.ensures.padded_words ∙ sym (length-entry_positions epoch s)) i)
    ((c.size_of_setup-size.ensures.padded_blocks ∙ sym (length-block_positions epoch s)) i)
