use Rattle.std.proofs.Common.{map, sym, ap, ◌∙◌}
use Rattle.std.proofs.lemmas.List.{drop-map}
use Rattle.leakage_frames.specs.Views.{draw_view}
use Rattle.leakage_frames.proofs.drawn.draws_after.Goals as goal

pub returns-then-count-draws : goal.returns-then-count-draws
returns-then-count-draws c = ap (map draw_view) c.split_at.ensures.back ∙ sym (drop-map draw_view c.args.count c.args.draws.now)
