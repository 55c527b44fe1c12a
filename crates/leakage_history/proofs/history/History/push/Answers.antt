use Rattle.std.proofs.Common.{◌≡◌, ◌++◌, ◌∷◌, [], map, sym, ap, subst, ◌∙◌}
use Rattle.std.proofs.lemmas.List.{map-append}
use Rattle.client_registry.specs.Registered.{Represents}
use Rattle.leakage_history.specs.Commands.{command_of}
use Rattle.leakage_history.specs.HashedRun.{run_of}
use Rattle.leakage_history.specs.HistoryView.{TellsAfter, history_of}
use Rattle.leakage_history.specs.Refusal.{AreAccepted, push_refusal}
use Rattle.leakage_history.proofs.Refusals.{AreAccepted-push, accepted_by, no_refusal}
use Rattle.leakage_history.proofs.history.History.push.Goals as goal

pub take-requires : goal.take-requires
take-requires c =
    let run = run_of (history_of c.self.inside) in
    let command = command_of c.args.command in
    let stands = subst (λ r. TellsAfter r run) c.in-Some-registry.is c.self.invariant.registry in
    record { accepted = accepted_by c.in-Some-registry.registry run stands command ∙ no_refusal run command (ap (λ h. push_refusal (run_of h) command) c.self.view_is ∙ sym c.refusal.ensures.refusal ∙ c.in_default.is) }

pub invariant_of-self-in-Some-registry : goal.invariant_of-self-in-Some-registry
invariant_of-self-in-Some-registry c =
    let run = run_of (history_of c.self.inside) in
    let command = command_of c.args.command in
    let stands = subst (λ r. TellsAfter r run) c.in-Some-registry.is c.self.invariant.registry in
    let later : map command_of c.take.new.commands.items ≡ run.later ++ command ∷ [] =
    ap (map command_of) c.in_ok-take-in-Some-registry.ensures.taken ∙ map-append command_of c.self.inside.commands.items (c.args.command ∷ []) in
    record {
      accepted = subst (λ cs. AreAccepted (record { setup = run.setup; later = cs })) (sym later) (AreAccepted-push run command c.self.invariant.accepted c.refusal.ensures.valid (no_refusal run command (ap (λ h. push_refusal (run_of h) command) c.self.view_is ∙ sym c.refusal.ensures.refusal ∙ c.in_default.is)));
      registry = subst (λ cs. Represents c.take.new.registry run.setup cs) (sym later) (c.in_ok-take-in-Some-registry.ensures.registered run.setup run.later stands);
    }

pub take-requires-in-None : goal.take-requires-in-None
take-requires-in-None c =
    let run = run_of (history_of c.self.inside) in
    let command = command_of c.args.command in
    let registry = c.in_ok-registry-in-None.registry in
    let stands = subst (Represents registry run.setup) (sym (subst (λ r. TellsAfter r run) c.in-None.is c.self.invariant.registry)) c.in_ok-registry-in-None.ensures.setup in
    record { accepted = accepted_by registry run stands command ∙ no_refusal run command (ap (λ h. push_refusal (run_of h) command) c.self.view_is ∙ sym c.refusal.ensures.refusal ∙ c.in_default.is) }

pub invariant_of-self-in-None-2 : goal.invariant_of-self-in-None-2
invariant_of-self-in-None-2 c =
    let run = run_of (history_of c.self.inside) in
    let command = command_of c.args.command in
    let stands = subst (Represents c.in_ok-registry-in-None.registry run.setup) (sym (subst (λ r. TellsAfter r run) c.in-None.is c.self.invariant.registry)) c.in_ok-registry-in-None.ensures.setup in
    let later : map command_of c.take-in-None.new.commands.items ≡ run.later ++ command ∷ [] =
    ap (map command_of) c.in_ok-take-in-None.ensures.taken ∙ map-append command_of c.self.inside.commands.items (c.args.command ∷ []) in
    record {
      accepted = subst (λ cs. AreAccepted (record { setup = run.setup; later = cs })) (sym later) (AreAccepted-push run command c.self.invariant.accepted c.refusal.ensures.valid (no_refusal run command (ap (λ h. push_refusal (run_of h) command) c.self.view_is ∙ sym c.refusal.ensures.refusal ∙ c.in_default.is)));
      registry = subst (λ cs. Represents c.take-in-None.new.registry run.setup cs) (sym later) (c.in_ok-take-in-None.ensures.registered run.setup run.later stands);
    }
