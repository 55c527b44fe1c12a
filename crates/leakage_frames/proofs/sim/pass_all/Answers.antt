use Rattle.std.proofs.Common.{◌≡◌, List, length, map, arith}
use Rattle.std.proofs.lemmas.List.{length-map}
use Rattle.sse_simulator.specs.Leaks.{Leak, Draw}
use Rattle.leakage_frames.proofs.RunLaws.{HasRun-all}
use Rattle.leakage_frames.specs.MadeFrames.{kept_view}
use Rattle.leakage_frames.specs.Views.{draw_view, leak_view}
use Rattle.leakage_frames.proofs.sim.pass_all.Goals as goal

pub returns : goal.returns
returns c =
    let read = c.args.leaks.now in
    let leaks : List Leak = map leak_view read in
    let drawn : List (List Draw) = map (map draw_view) c.args.draws.now in
    let end : c.loop-k.k ≡ length leaks = omega (arith, c.loop-k-test.false, c.loop-k.auto.k-end, length-map read leak_view) in
    HasRun-all leaks drawn c.loop-k.passing.texts (record { kept = map kept_view c.loop-k.kept; next = c.loop-k.passing.next }) c.loop-k.k end c.loop-k.invariant
