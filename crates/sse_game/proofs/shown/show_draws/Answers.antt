use Rattle.std.proofs.Common.{List, map, sym, ap, subst, ◌∙◌}
use Rattle.std.proofs.lemmas.Result.{on_ok_weaker}
use Rattle.leakage_frames.specs.Steps.{step}
use Rattle.leakage_frames.specs.Views.{draw_view, leak_view}
use Rattle.sse_simulator.specs.Leaks.{Draw}
use Rattle.sse_game.specs.Passing.{HasShown}
use Rattle.sse_game.proofs.LastEpoch.{last_none, last_same}
use Rattle.sse_game.proofs.shown.show_draws.Goals as goal

pub show-requires : goal.show-requires
show-requires c = λ none.
    c.requires.3 (ap (step c.args.shown.now.sim (leak_view c.args.leak.now)) (sym (last_same (map draw_view) c.args.all.now c.in-Some.own.now c.requires.0 c.requires.1 c.in-Some.ensures.value c.requires.2)) ∙ none)

pub unreachable-requires : goal.unreachable-requires
unreachable-requires c = last_none (map draw_view) c.args.all.now c.requires.0 c.requires.1 c.in-None.ensures.value c.requires.2

pub returns : goal.returns
returns c =
    on_ok_weaker c.show.result
    (λ has front own is. subst (λ (ds : List Draw). HasShown (leak_view c.args.leak.now) ds c.args.shown.now c.show.new.shown) (last_same (map draw_view) c.args.all.now c.in-Some.own.now front own c.in-Some.ensures.value is) has)
    c.show.ensures
