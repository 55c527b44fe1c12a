use Rattle.std.proofs.Common.{◌≡◌, ap, sym, ◌∙◌}
use Rattle.std.proofs.lemmas.Result.{IfOk-weaker}
use Rattle.def_duel.specs.Choices as choices
use Rattle.sse_game.specs.Side.{history_at}
use Rattle.sse_game.specs.Views.{choice_view}
use Rattle.sse_game.proofs.acceptance.can_take.Goals as goal

pub returns-in-Renew : goal.returns-in-Renew
returns-in-Renew c =
    IfOk-weaker c.can_renew.result _ (λ taken. taken ≡ choices.can_take (history_at c.args.side.now) (choice_view c.args.choice.now))
    (λ taken is. is c.in-Renew.field-0 ∙ ap (choices.can_take (history_at c.args.side.now)) (ap choice_view (sym c.in-Renew.is))) c.can_renew.ensures
