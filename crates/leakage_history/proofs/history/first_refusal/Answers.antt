use Rattle.std.proofs.Common.{sym, ap, ◌∙◌}
use Rattle.client_registry.specs.Documents.{is_live}
use Rattle.leakage_history.specs.Commands.{command_of}
use Rattle.leakage_history.specs.Refusal.{push_refusal}
use Rattle.leakage_history.proofs.Refusals.{first-add}
use Rattle.leakage_history.proofs.history.first_refusal.Goals as goal

pub returns-else-is_live-clause-refusal : goal.returns-else-is_live-clause-refusal
returns-else-is_live-clause-refusal c = λ run same none.
    let d = c.in-Add.doc in
    sym (first-add run d none (ap (λ docs. is_live docs d.id) same ∙ ap (λ id. is_live c.args.docs.now.documents id) (sym c.id.ensures) ∙ sym c.is_live.ensures ∙ c.if-is_live.false))
    ∙ ap (push_refusal run) (sym (ap command_of c.in-Add.is))
