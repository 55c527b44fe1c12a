use Rattle.std.proofs.Common.{sym, ap, ◌∙◌}
use Rattle.leakage_draws.specs.Given.{draw_given}
use Rattle.sse_simulator.specs.Leaks.{EntryDraw, BlockDraw}
use Rattle.leakage_draws.proofs.values.draw_of.Goals as goal

pub returns-in_ok-label-in-Entry : goal.returns-in_ok-label-in-Entry
returns-in_ok-label-in-Entry c =
    (λ i. EntryDraw (record { label = c.in_ok-label-in-Entry.ensures i; text = c.in_ok-cell-in-Entry.ensures i }))
    ∙ ap (λ drawing. draw_given c.args.sheet.now drawing c.args.clear.now) (sym c.in-Entry.is)

pub returns-in_ok-tag-in-Block : goal.returns-in_ok-tag-in-Block
returns-in_ok-tag-in-Block c =
    (λ i. BlockDraw (record { label = c.in_ok-tag-in-Block.ensures i; text = c.in_ok-block-in-Block.ensures i }))
    ∙ ap (λ drawing. draw_given c.args.sheet.now drawing c.args.clear.now) (sym c.in-Block.is)
