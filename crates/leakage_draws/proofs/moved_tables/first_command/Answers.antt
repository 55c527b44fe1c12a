use Rattle.std.proofs.Common.{◌^◌, ◌<◌, map, arith}
use Rattle.std.proofs.lemmas.List.{length-map}
use Rattle.leakage_frames.specs.Views.{leak_view}
use Rattle.leakage_draws.proofs.DifferenceLaws.{difference_within}
use Rattle.leakage_draws.proofs.moved_tables.first_command.Goals as goal

pub overflow_cast-result : goal.overflow_cast-result
overflow_cast-result c =
    let leaks = c.args.leaks.now in
    let others = c.args.others.now in
    let within : c.in-Some.command < 2 ^ 32 =
    difference_within c.in-Some.command (2 ^ 32) (map leak_view leaks) (map leak_view others) (omega (arith, length-map leaks leak_view, c.requires.numbered)) (omega (arith, length-map others leak_view, c.requires.numbered_too)) c.in-Some.ensures.first in
    omega (arith, within)
