use Rattle.std.proofs.Common.{◌||◌, sym, ap, ◌∙◌}
use Rattle.std.proofs.lemmas.Result.{on_ok_weaker}
use Rattle.leakage_history.specs.Commands.{command_of}
use Rattle.leakage_values.proofs.CommandLaws.{was_sent-push, was_searched-push}
use Rattle.sse_model.specs.Drawn.{sends_number, searches_for}
use Rattle.leakage_values.proofs.replay.Replay.take.Goals as goal

pub returns : goal.returns
returns c =
    on_ok_weaker c.register.result
    (λ told s past follows apart. record {
      registry = told s past follows.registry;
      sent = λ w n. c.in_ok-mark.ensures.sent s past follows.registry apart w n ∙ ap (λ b. b || sends_number s w n past (command_of c.args.command.now)) (follows.sent w n) ∙ sym (was_sent-push s past (command_of c.args.command.now) w n);
      searched = λ w. c.in_ok-mark.ensures.searched w ∙ ap (λ b. b || searches_for w (command_of c.args.command.now)) (follows.searched w) ∙ sym (was_searched-push past (command_of c.args.command.now) w);
    })
    c.register.ensures.ok
