use Rattle.world_server.proofs.Sides.{stops_now, stops_later}
use Rattle.world_server.proofs.server_side.ServerSide.stop.Goals as goal

pub returns-then-call-eq0-clause-stops : goal.returns-then-call-eq0-clause-stops
returns-then-call-eq0-clause-stops g c = λ part is.
    stops_now part c.args.self.now.store c.args.self.now.disk c.crash.new.disk c.args.self.now.stop c.args.call c.args.pick c.if-call-eq0.true is c.in_ok-crash.ensures.settles

pub returns-clause-stops : goal.returns-clause-stops
returns-clause-stops g c = λ part is.
    stops_later part c.args.self.now.store c.args.self.now.disk c.plan_stop.new.disk c.args.self.now.stop c.args.call c.args.pick c.if-call-eq0.false is c.plan_stop.ensures.disk c.plan_stop.ensures.holds
