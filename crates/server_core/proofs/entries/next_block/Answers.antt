use Rattle.std.proofs.Common.{◌∷◌, sym, ◌∙◌, arith}
use Rattle.sse_frames.specs.FrameViews.{items_in}
use Rattle.server_core.proofs.EntryLemmas.{items_in-few, items_in-more}
use Rattle.server_core.proofs.entries.next_block.Goals as goal

pub returns-in_default-clause-items : goal.returns-in_default-clause-items
returns-in_default-clause-items c = items_in-few c.args.width c.args.bytes.now (omega (arith, c.in_default.ensures.cases))

pub returns-clause-items : goal.returns-clause-items
returns-clause-items c =
    let parts = c.in-Some.ensures.cases in
    items_in-more c.args.width c.args.bytes.now c.requires parts.0 ∙ (λ i. sym parts.1 i ∷ items_in c.args.width (sym parts.2 i))
