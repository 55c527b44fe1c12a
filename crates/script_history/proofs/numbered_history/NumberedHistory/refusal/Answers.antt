use Rattle.std.proofs.Common.{sym, ap, ◌∙◌}
use Rattle.leakage_history.specs.Commands.{command_of}
use Rattle.leakage_history.specs.HashedEpochs.{epochs_in}
use Rattle.script_history.proofs.CommandRefused.{accept-none, accept-some}
use Rattle.script_history.specs.Numbered.{accept_refusal, update_refusal}
use Rattle.script_history.proofs.numbered_history.NumberedHistory.refusal.Goals as goal

pub returns-in-Some-clause-refusal : goal.returns-in-Some-clause-refusal
returns-in-Some-clause-refusal c =
    let es = epochs_in c.self.inside.history in
    let command = command_of c.args.command.now in
    c.refusal_of.ensures ∙ sym (accept-some es c.self.invariant.counted.kept command c.in-Some.fault (sym c.in-Some.ensures.refusal)) ∙ ap (λ h. accept_refusal (epochs_in h) command) c.self.view_is

pub returns-in-None-clause-refusal : goal.returns-in-None-clause-refusal
returns-in-None-clause-refusal c =
    let es = epochs_in c.self.inside.history in
    let command = command_of c.args.command.now in
    c.update_refusal.ensures
    ∙ sym (ap (λ h. update_refusal (epochs_in h) command) c.self.view_is)
    ∙ sym (accept-none es c.self.invariant.counted.kept command (sym c.in-None.ensures.refusal))
    ∙ ap (λ h. accept_refusal (epochs_in h) command) c.self.view_is
