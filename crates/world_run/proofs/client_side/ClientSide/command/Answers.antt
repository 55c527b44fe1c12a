use Rattle.std.proofs.Common.{sym, ◌∙◌, subst}
use Rattle.keyed_fn.specs.KeyedFn.{keyed_fn}
use Rattle.world_model.specs.Events.{Command as Commands}
use Rattle.sse_world.specs.declared.event.Outcome.TheVariants as outcome
use Rattle.world_run.proofs.Commanding.{none_refuses, waiting_refuses}
use Rattle.world_run.specs.Commands.{change_of}
use Rattle.world_run.specs.Sides.{IsClient, LeadsClient, client_part}
use Rattle.world_run.proofs.client_side.ClientSide.command.Goals as goal

pub returns-in_default : goal.returns-in_default
returns-in_default g c = record {
  leads = λ first w reached is waits.
      let f = keyed_fn g.K.Keyed.prf g.K.Keyed.pad in
      let side = c.args.self.now in
      let change = change_of c.args.command in
      let here = subst (λ r. IsClient f first (client_part w) r side.disk side.stop side.key side.other) (sym c.take.ensures.value ∙ c.in_default.is) is in
      subst (λ r. LeadsClient f first w (Commands change) outcome.Nothing r side.disk side.stop side.key side.other c.args.waiting.now) (sym c.take.ensures.after)
      (none_refuses f first w change side.disk side.stop side.key side.other c.args.waiting.now here waits);
}

pub returns-then-it : goal.returns-then-it
returns-then-it g c = record {
  leads = λ first w reached is waits.
      let f = keyed_fn g.K.Keyed.prf g.K.Keyed.pad in
      let side = c.args.self.now in
      let here = subst (λ r. IsClient f first (client_part w) r side.disk side.stop side.key side.other) (sym c.take.ensures.value ∙ c.in-Some.is) is in
      waiting_refuses f first w (change_of c.args.command) side.disk side.stop side.key side.other c.args.waiting.now c.in-Some.it c.if-it.true here waits;
}
