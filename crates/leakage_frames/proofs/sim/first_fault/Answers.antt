use Rattle.std.proofs.Common.{map, arith, refl}
use Rattle.std.proofs.lemmas.List.{length-map}
use Rattle.leakage_frames.proofs.BadLaws.{CanRun-zero, fault_here, no_fault}
use Rattle.leakage_frames.specs.Views.{draw_view, leak_view}
use Rattle.leakage_frames.proofs.sim.first_fault.Goals as goal

pub loop-k-init : goal.loop-k-init
loop-k-init c = CanRun-zero (map leak_view c.args.leaks.now) (map (map draw_view) c.args.draws.now)

pub returns-then-not-is_made_at : goal.returns-then-not-is_made_at
returns-then-not-is_made_at c =
    fault_here c.loop-k.k (map leak_view c.args.leaks.now) (map (map draw_view) c.args.draws.now)
    (c.if-not-is_made_at.ensures.bad refl c.loop-k.invariant)

pub returns : goal.returns
returns c =
    no_fault (map leak_view c.args.leaks.now) (map (map draw_view) c.args.draws.now) c.loop-k.k
    (omega (arith, c.loop-k-test.false, c.loop-k.auto.k-end, length-map c.args.leaks.now leak_view)) c.loop-k.invariant
