use Rattle.std.proofs.Common.{◌&&◌, ◌||◌, sym, ap, ◌∙◌}
use Rattle.std.specs.Prelude.{bytes_eq, ◌==◌}
use Rattle.std.specs.List.{list_any}
use Rattle.std.proofs.lemmas.Result.{on_ok_weaker}
use Rattle.leakage_history.specs.Commands.{command_of}
use Rattle.client_registry.specs.IdNumber.{id_number}
use Rattle.client_registry.specs.Registered.{facts}
use Rattle.leakage_values.proofs.CommandLaws.{sends-add, sends-delete}
use Rattle.leakage_values.specs.Replayed.{has_pair}
use Rattle.sse_model.specs.Drawn.{sends_number}
use Rattle.leakage_values.proofs.replay.mark.Goals as goal

pub returns-in-Add-clause-sent : goal.returns-in-Add-clause-sent
returns-in-Add-clause-sent c =
    on_ok_weaker c.mark_addition.result
    (λ has s past tells apart w n.
    has w n
    ∙ (λ i. has_pair w n c.args.sent.now.keys || (list_any (bytes_eq w) (c.words.ensures.words i) && n == c.id.ensures i) && (facts c.args.registry.now).listed w n)
    ∙ sends-add s past c.in-Add.doc (facts c.args.registry.now) (has_pair w n c.args.sent.now.keys) w n tells
    ∙ ap (λ m. has_pair w n c.args.sent.now.keys || sends_number s w n past m) (ap command_of (sym c.in-Add.is)))
    c.mark_addition.ensures

pub returns-in-Delete-clause-sent : goal.returns-in-Delete-clause-sent
returns-in-Delete-clause-sent c =
    on_ok_weaker c.mark_live.result
    (λ has s past tells apart w n.
    has w n
    ∙ sends-delete s past (id_number c.in-Delete.id) (facts c.args.registry.now) (has_pair w n c.args.sent.now.keys) w n tells apart
    ∙ ap (λ m. has_pair w n c.args.sent.now.keys || sends_number s w n past m) (ap command_of (sym c.in-Delete.is)))
    c.mark_live.ensures
