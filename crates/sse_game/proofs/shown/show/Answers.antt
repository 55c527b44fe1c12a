use Rattle.std.proofs.Common.{◌++◌, Err, ap, ◌∙◌}
use Rattle.std.proofs.lemmas.Result.{on_ok_weaker}
use Rattle.sse_game.proofs.shown.show.Goals as goal

pub unreachable-requires : goal.unreachable-requires
unreachable-requires c = c.requires (((c.simulate_step.ensures.bad c.in-Err-BadLeak.field-0-0).0 (c.in-Err-BadLeak.is ∙ ap Err c.in-Err-BadLeak.field-0-is)).0)

pub returns-in-Ok : goal.returns-in-Ok
returns-in-Ok c =
    on_ok_weaker c.push_texts.result
    (λ is. record { more = c.in-Ok.texts; made = c.in-Ok.ensures.made; seen = is ∙ ap (λ texts. c.args.shown.now.seen ++ texts) c.as_slice.ensures })
    c.push_texts.ensures
