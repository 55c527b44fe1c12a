use Rattle.std.proofs.Common.{Err, length, map, ap, ◌∙◌, arith}
use Rattle.leakage_frames.specs.Views.{leak_view}
use Rattle.sse_game.proofs.shown.greeted.Goals as goal

pub unreachable-requires : goal.unreachable-requires
unreachable-requires c =
    omega (
      arith,
      ((c.simulate-3.ensures.bad c.in-Err-BadLeak.field-0-0).0 (c.in-Err-BadLeak.is ∙ ap Err c.in-Err-BadLeak.field-0-is)).within,
      ap (λ ls. length (map leak_view ls)) c.new.ensures,
    )
