use Rattle.std.proofs.Common.{subst}
use Rattle.keyed_fn.specs.KeyedFn.{keyed_fn}
use Rattle.world_client.proofs.Said.{answered_greeting, answered_sending, answered_fresh, answered_rested, answered_asked}
use Rattle.world_client.specs.Clients.{IsClientIn}
use Rattle.world_client.proofs.answers.answered.Goals as goal

pub returns-in-Greeting : goal.returns-in-Greeting
returns-in-Greeting g c = record {
  goes_on = λ first h phase text of is reads.
      let f = keyed_fn g.K.Keyed.prf g.K.Keyed.pad in
      answered_greeting f first h phase c.in-Greeting.client text c.greeted.result (subst (IsClientIn f first h phase) c.in-Greeting.is is) (λ greets. c.greeted.ensures.goes_on_by first h text of greets reads);
}

pub returns-in-Sending : goal.returns-in-Sending
returns-in-Sending g c = record {
  goes_on = λ first h phase text of is reads.
      let f = keyed_fn g.K.Keyed.prf g.K.Keyed.pad in
      answered_sending f first h phase c.in-Sending.client text c.args.reply.now c.acknowledged.result of (subst (IsClientIn f first h phase) c.in-Sending.is is) reads (λ es next sends. c.acknowledged.ensures.goes_on f first es next sends);
}

pub returns-in-Fresh : goal.returns-in-Fresh
returns-in-Fresh g c = record {
  goes_on = λ first h phase text of is reads.
      let f = keyed_fn g.K.Keyed.prf g.K.Keyed.pad in
      answered_fresh f first h phase c.in-Fresh.field-0 text (subst (IsClientIn f first h phase) c.in-Fresh.is is);
}

pub returns-in-Resting : goal.returns-in-Resting
returns-in-Resting g c = record {
  goes_on = λ first h phase text of is reads.
      let f = keyed_fn g.K.Keyed.prf g.K.Keyed.pad in
      answered_rested f first h phase c.in-Resting.field-0 text (subst (IsClientIn f first h phase) c.in-Resting.is is);
}

pub returns : goal.returns
returns g c = record {
  goes_on = λ first h phase text of is reads.
      let f = keyed_fn g.K.Keyed.prf g.K.Keyed.pad in
      answered_asked f first h phase c.in-Asking.field-0 c.in-Asking.field-1 text (subst (IsClientIn f first h phase) c.in-Asking.is is);
}
