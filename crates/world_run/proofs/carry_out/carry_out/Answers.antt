use Rattle.std.proofs.Common.{subst}
use Rattle.keyed_fn.specs.KeyedFn.{keyed_fn}
use Rattle.world_client.specs.Clients.{IsClientIn}
use Rattle.world_run.proofs.Came.{asking_refuses, greeting_refuses, resting_key, sending_refuses}
use Rattle.world_run.specs.Commands.{change_of}
use Rattle.world_run.proofs.carry_out.carry_out.Goals as goal

pub returns-in-Greeting-clause-came : goal.returns-in-Greeting-clause-came
returns-in-Greeting-clause-came g c = λ first h phase is key holds.
    let f = keyed_fn g.K.Keyed.prf g.K.Keyed.pad in
    let in_state = subst (IsClientIn f first h phase) c.in-Greeting.is is in
    (greeting_refuses f first h phase (change_of c.args.command) c.in-Greeting.client in_state, in_state, holds)

pub returns-in-Sending-clause-came : goal.returns-in-Sending-clause-came
returns-in-Sending-clause-came g c = λ first h phase is key holds.
    let f = keyed_fn g.K.Keyed.prf g.K.Keyed.pad in
    let in_state = subst (IsClientIn f first h phase) c.in-Sending.is is in
    (sending_refuses f first h phase (change_of c.args.command) c.in-Sending.client in_state, in_state, holds)

pub returns-in-Asking-clause-came : goal.returns-in-Asking-clause-came
returns-in-Asking-clause-came g c = λ first h phase is key holds.
    let f = keyed_fn g.K.Keyed.prf g.K.Keyed.pad in
    let in_state = subst (IsClientIn f first h phase) c.in-Asking.is is in
    (asking_refuses f first h phase (change_of c.args.command) c.in-Asking.client c.in-Asking.word in_state, in_state, holds)

pub returns-in-Fresh-clause-came : goal.returns-in-Fresh-clause-came
returns-in-Fresh-clause-came g c = λ first h phase is key holds.
    let f = keyed_fn g.K.Keyed.prf g.K.Keyed.pad in
    c.of_fresh.ensures.came first h phase (subst (IsClientIn f first h phase) c.in-Fresh.is is) holds

pub returns-in-Resting-clause-came : goal.returns-in-Resting-clause-came
returns-in-Resting-clause-came g c = λ first h phase is key holds.
    let f = keyed_fn g.K.Keyed.prf g.K.Keyed.pad in
    c.of_resting.ensures.came first h phase (subst (IsClientIn f first h phase) c.in-Resting.is is) holds

pub of_resting-requires-clause-key : goal.of_resting-requires-clause-key
of_resting-requires-clause-key g c =
    let f = keyed_fn g.K.Keyed.prf g.K.Keyed.pad in
    let client = c.requires.client in
    resting_key f client.0 client.1 client.2 c.in-Resting.client c.args.key.now (subst (IsClientIn f client.0 client.1 client.2) c.in-Resting.is client.3) client.4
