use Rattle.std.proofs.Common.{[], ◌∷◌, ap, ◌∙◌}
use Rattle.leakage_frames.specs.Views.{draw_view}
use Rattle.sse_game.proofs.DrawnLaws.{fresh, pushed}
use Rattle.sse_game.proofs.drawn.push_if_fresh.Goals as goal

pub returns-in_ok-push : goal.returns-in_ok-push
returns-in_ok-push g c =
    pushed draw_view c.args.drawn.now c.push.new.self c.in_ok-entry_draw.field-0 _ c.in_ok-push.ensures.ok
    (ap (λ d. d ∷ []) c.in_ok-entry_draw.ensures ∙ fresh c.is_listed.result _ _ c.is_listed.ensures c.if-not-is_listed.true)
