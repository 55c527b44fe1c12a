use Rattle.std.proofs.Common.{Some, sym, ap, ◌∙◌}
use Rattle.std.specs.Prelude.{option_map}
use Rattle.client_registry.specs.Acceptance.{size_refusal}
use Rattle.client_registry.specs.Setup.{setup_with}
use Rattle.def_script_meaning.specs.Refused.{size_refused}
use Rattle.script_history.proofs.LinesTaken.{fault_said}
use Rattle.script_history.proofs.taken_line.set_up.Goals as goal

pub returns-in-Err-clause-found : goal.returns-in-Err-clause-found
returns-in-Err-clause-found c =
    let s = setup_with c.args.docs.documents c.args.sizes.b c.args.sizes.big c.args.sizes.pad in
    ap (λ r. Some r) c.refusal_of_size.ensures ∙ sym (ap (option_map size_refused) (fault_said c.size_of.result (size_refusal s) c.in-Err.fault c.in-Err.is c.size_of.ensures.refused c.size_of.ensures.accepted))
