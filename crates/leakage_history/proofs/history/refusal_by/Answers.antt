use Rattle.std.proofs.Common.{None, Some, sym, ap, ◌∙◌}
use Rattle.std.specs.Prelude.{if◌then◌else◌}
use Rattle.client_registry.specs.IdNumber.{id_number}
use Rattle.leakage_history.specs.Commands.{command_of}
use Rattle.leakage_history.specs.Refusal.{push_refusal}
use Rattle.leakage_history.specs.declared.fault.HistoryFault.TheVariants.{UnknownDocument}
use Rattle.leakage_history.proofs.Refusals.{push_refusal-delete}
use Rattle.leakage_history.proofs.history.refusal_by.Goals as goal

pub returns-in-Delete-clause-refusal : goal.returns-in-Delete-clause-refusal
returns-in-Delete-clause-refusal c = λ run stands.
    let id = id_number c.in-Delete.id in
    c.deletion_refusal.ensures
    ∙ ap (λ b. if b then None else Some (UnknownDocument id)) c.is_live.ensures
    ∙ sym (push_refusal-delete c.args.registry.now run stands id)
    ∙ ap (push_refusal run) (sym (ap command_of c.in-Delete.is))
