use Rattle.std.proofs.Common.{None}
use Rattle.world_run.proofs.Commanding.{taken_leads}
use Rattle.world_run.proofs.client_side.ClientSide.taken.Goals as goal

pub returns : goal.returns
returns c = record {
  leads = λ f first w change waiting t came waits.
      let side = c.args.self.now in
      let it = c.resumed in
      taken_leads f first w change side.stop side.key c.args.own t c.args.client c.args.calls c.args.journal side.disk it.result c.later-self.result c.unwrap_or-self.result None waiting came it.ensures.state it.ensures.journal it.ensures.free c.later-self.ensures
      c.unwrap_or-self.ensures waits;
}
