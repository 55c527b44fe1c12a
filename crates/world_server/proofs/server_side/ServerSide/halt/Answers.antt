use Rattle.world_server.proofs.Sides.{either, halts}
use Rattle.world_server.proofs.server_side.ServerSide.halt.Goals as goal

pub returns-clause-halts : goal.returns-clause-halts
returns-clause-halts g c = λ part is.
    halts part c.args.self.now.store c.args.self.now.disk c.crash.new.disk c.args.self.now.stop c.is_none.result c.is_none.ensures c.if-is_none.false is (either c.crash.result c.crash.ensures.settles c.crash.ensures.err)
