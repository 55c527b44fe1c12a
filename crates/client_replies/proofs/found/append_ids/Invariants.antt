use Rattle.std.proofs.Common.{◌≡◌, ◌≤◌, ◌+◌, ◌-◌, ◌++◌, map, vec_len, vec_capacity}
use Rattle.std.specs.Int.{w64, from_be_bytes}
use Rattle.std.specs.Simd.{first_chunks}
use Rattle.client_replies.proofs.found.append_ids.Given as goal

abbrev pub invariant-loop-i : goal.invariant-loop-i
invariant-loop-i l = record {
  room : vec_len l.out + (l.count - l.i) ≤ vec_capacity l.out;
  appended : l.out.items ≡ l.initial.out.items ++ map (from_be_bytes w64) (first_chunks 8 l.i l.ids);
}
