use Rattle.world_run.proofs.Starting.{halts}
use Rattle.world_server.proofs.Sides.{either}
use Rattle.world_run.proofs.client_side.ClientSide.halt.Goals as goal

pub returns-clause-halts : goal.returns-clause-halts
returns-clause-halts c = λ f first part is.
    let self = c.args.self.now in
    halts f first part self.running self.disk c.crash.new.disk self.stop self.key self.other c.is_none.result c.is_none.ensures c.if-is_none.false is (either c.crash.result c.crash.ensures.settles c.crash.ensures.err)
