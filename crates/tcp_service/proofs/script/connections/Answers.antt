use Rattle.std.proofs.Common.{◌≡◌, ◌∷◌, [], length, drop, sym, ap, subst, arith, length-append}
use Rattle.std.specs.Prelude.{reverse}
use Rattle.sse_outside.specs.MemSource.{left_of}
use Rattle.sse_outside.specs.MemSink.{bytes_of}
use Rattle.tcp_service.specs.Scripts.{IsMade, AreMade}
use Rattle.tcp_service.specs.QueuedConns.{MemConn}
use Rattle.tcp_service.proofs.OneGiven.{front_kept, AreMade-more}
use Rattle.tcp_service.proofs.script.connections.Goals as goal

-- the last script that was left makes the next connection
pub loop-script-preserved : goal.loop-script-preserved
loop-script-preserved c =
    let now = c.loop-script.invariant in
    let last = c.in-Some.ensures.items in
    let conn : MemConn = record { source = c.new.result; sink = c.new-in-Some.result } in
    let input : left_of c.new.result ≡ c.in-Some.script.input.items = cc in
    let none : bytes_of c.new-in-Some.result ≡ [] = cc in
    let one : IsMade conn c.in-Some.script = record { input = input; read_fails = c.new.ensures.fails; none_written = none; write_fails = c.new-in-Some.ensures.fails } in
    record {
      count = omega (arith, now.count, ap length last, length-append c.pop.new.self.items (c.in-Some.script ∷ []), ap length c.push_reserved.ensures.items, length-append c.loop-script.conns.items (conn ∷ []));
      room = omega (arith, now.room, c.push_reserved.ensures.capacity);
      front = front_kept c.args.scripts.items c.loop-script.scripts.items c.pop.new.self.items c.in-Some.script now.front last;
      made = subst (λ cs. AreMade (reverse cs) (drop (length c.pop.new.self.items) c.args.scripts.items)) (sym c.push_reserved.ensures.items)
          (AreMade-more c.loop-script.conns.items conn c.args.scripts.items c.loop-script.scripts.items c.pop.new.self.items c.in-Some.script now.front last now.made one);
    }
