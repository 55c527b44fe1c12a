use Rattle.std.proofs.Common.{refl, subst}
use Rattle.world_client.proofs.Hearing.{found_asking, found_other}
use Rattle.world_client.specs.Clients.{IsClientIn}
use Rattle.world_client.specs.declared.state.State.TheVariants as states
use Rattle.world_client.proofs.whole_answers.found.Goals as goal

pub returns-in-Asking : goal.returns-in-Asking
returns-in-Asking c = record {
  found = λ f first h phase is. found_asking f first h phase c.in-Asking.client c.in-Asking.field-1 c.args.ids.items c.rising.result c.rising.ensures (subst (IsClientIn f first h phase) c.in-Asking.is is);
}

pub returns-in-Greeting : goal.returns-in-Greeting
returns-in-Greeting c = record { found = λ f first h phase is. found_other f first h phase (states.Greeting c.in-Greeting.field-0) c.args.ids.items refl (subst (IsClientIn f first h phase) c.in-Greeting.is is) }

pub returns-in-Fresh : goal.returns-in-Fresh
returns-in-Fresh c = record { found = λ f first h phase is. found_other f first h phase (states.Fresh c.in-Fresh.field-0) c.args.ids.items refl (subst (IsClientIn f first h phase) c.in-Fresh.is is) }

pub returns-in-Resting : goal.returns-in-Resting
returns-in-Resting c = record { found = λ f first h phase is. found_other f first h phase (states.Resting c.in-Resting.field-0) c.args.ids.items refl (subst (IsClientIn f first h phase) c.in-Resting.is is) }

pub returns : goal.returns
returns c = record { found = λ f first h phase is. found_other f first h phase (states.Sending c.in-Sending.field-0) c.args.ids.items refl (subst (IsClientIn f first h phase) c.in-Sending.is is) }
