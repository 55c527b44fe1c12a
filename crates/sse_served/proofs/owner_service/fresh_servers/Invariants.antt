use Rattle.std.proofs.Common.{◌≤◌, ◌-◌, length}
use Rattle.sse_served.proofs.FreshServers.{AreFresh}
use Rattle.sse_served.proofs.owner_service.fresh_servers.Given as goal

abbrev pub invariant-loop-alloc : goal.invariant-loop-alloc
invariant-loop-alloc l = (length l.servers.items ≤ length l.numbers) × AreFresh (λ server. server.state) l.servers.items

abbrev pub decreases-loop-alloc : goal.decreases-loop-alloc
decreases-loop-alloc l = length l.numbers - length l.servers.items
