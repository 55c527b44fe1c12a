use Rattle.std.proofs.Common.{map, sym, ◌∙◌}
use Rattle.leakage_frames.proofs.AbsentLaws.{first_goes, first_lacks}
use Rattle.leakage_frames.specs.MadeFrames.{kind_of}
use Rattle.leakage_frames.specs.Views.{draw_view}
use Rattle.leakage_frames.proofs.absent.has_first.Goals as goal

pub returns-in-None : goal.returns-in-None
returns-in-None c =
    first_lacks (kind_of c.args.section) c.args.count c.loop-i.i (map draw_view c.args.draws.now) _ c.loop-i-test.true
    (sym c.drawn_at.ensures ∙ c.in-None.is) c.loop-i.invariant

pub loop-i-preserved : goal.loop-i-preserved
loop-i-preserved c =
    first_goes (kind_of c.args.section) c.args.count c.loop-i.i (map draw_view c.args.draws.now) _ _ c.loop-i-test.true
    (sym c.drawn_at.ensures ∙ c.in-Some.is) c.loop-i.invariant
