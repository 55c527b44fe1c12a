use Rattle.std.proofs.Common.{arith, subst, sym}
use Rattle.std.proofs.lemmas.Grind.{common_steps}
use Rattle.sse_served.proofs.FreshServers.{AreFresh, fresh_append, fresh_states}
use Rattle.sse_served.proofs.owner_service.fresh_servers.Goals as goal

pub loop-alloc-preserved : goal.loop-alloc-preserved
loop-alloc-preserved c = (
  grind (arith, common_steps),
  subst (λ servers. AreFresh (λ server. server.state) servers) (sym c.in_ok-push.ensures.items)
      (fresh_append (λ server. server.state) c.loop-alloc.servers.items c.new-in-loop-alloc.result c.loop-alloc.invariant.1 c.new-in-loop-alloc.ensures),
)

pub returns : goal.returns
returns c = fresh_states (λ server. server.state) c.loop-alloc.servers.items c.args.numbers.now (grind (arith, common_steps)) c.loop-alloc.invariant.1
