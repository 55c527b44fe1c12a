use Rattle.std.proofs.Common.{◌≡◌, ◌+◌, ◌≤◌, length, take, drop, vec_capacity}
use Rattle.std.specs.Prelude.{reverse}
use Rattle.tcp_service.specs.Scripts.{AreMade}
use Rattle.tcp_service.proofs.script.connections.Given as goal

-- a connection for each script that is gone, and room for the others
abbrev pub invariant-loop-script : goal.invariant-loop-script
invariant-loop-script l = record {
  count : length l.conns.items + length l.scripts.items ≡ length l.fn.scripts.items;
  room : length l.fn.scripts.items ≤ vec_capacity l.conns;
  front : take (length l.scripts.items) l.fn.scripts.items ≡ l.scripts.items;
  made : AreMade (reverse l.conns.items) (drop (length l.scripts.items) l.fn.scripts.items);
}

abbrev pub decreases-loop-script : goal.decreases-loop-script
decreases-loop-script l = length l.scripts.items
