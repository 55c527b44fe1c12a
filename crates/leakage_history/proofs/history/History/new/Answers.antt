use Rattle.std.proofs.Common.{map, ap, sym, subst}
use Rattle.client_registry.specs.Setup.{setup_with}
use Rattle.leakage_history.specs.Commands.{command_of}
use Rattle.leakage_history.specs.Refusal.{AreAccepted}
use Rattle.leakage_history.proofs.Refusals.{AreAccepted-setup}
use Rattle.leakage_history.proofs.history.History.new.Goals as goal

pub invariant_of-result : goal.invariant_of-result
invariant_of-result c =
    let s = setup_with c.args.docs.documents c.args.b c.args.big c.args.pad in
    let none = ap (map command_of) c.new.ensures.items in
    record {
      accepted = subst (λ cs. AreAccepted (record { setup = s; later = cs })) (sym none) (AreAccepted-setup s c.words-limits.ensures.valid);
      registry = none;
    }
