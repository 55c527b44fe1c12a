use Rattle.std.proofs.Common.{◌+◌, ◌-◌, map, drop, sym, ap, ◌∙◌}
use Rattle.sse_simulator.specs.Simulator.{first_of}
use Rattle.leakage_frames.proofs.Gathered.{gathered}
use Rattle.leakage_frames.specs.MadeFrames.{ahead, kind_of}
use Rattle.leakage_frames.specs.Views.{draw_view}
use Rattle.leakage_frames.proofs.drawn.drawn_items.Goals as goal

pub loop-i-preserved : goal.loop-i-preserved
loop-i-preserved c =
    let kind = kind_of c.args.section in
    let draws = map draw_view c.args.draws.now in
    ap (λ es. ahead es (first_of kind (c.args.count - (c.loop-i.i + 1)) (drop (c.loop-i.i + 1) draws))) c.in_ok-push-in-Some.ensures.items
    ∙ gathered kind c.args.count c.loop-i.i draws c.loop-i.entries.items _ _ c.loop-i-test.true (sym c.drawn_at.ensures ∙ c.in-Some.is) c.loop-i.invariant
