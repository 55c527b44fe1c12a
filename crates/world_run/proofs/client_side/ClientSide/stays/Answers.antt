use Rattle.world_run.proofs.Commanding.{stays_so}
use Rattle.world_run.proofs.client_side.ClientSide.stays.Goals as goal

pub returns : goal.returns
returns c = record {
  runs = λ f first w change own t is holds.
      let side = c.args.self.now in
      stays_so f first w change side.stop side.key own t c.args.state c.args.journal side.disk c.resumed.result side.other c.resumed.ensures.state c.resumed.ensures.journal c.resumed.ensures.free is holds;
}
