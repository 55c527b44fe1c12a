use Rattle.std.proofs.Common.{◌≡◌, ◌+◌, ◌*◌, ◌-◌, ◌<◌, ◌≤◌, true, length, nat_eq}
use Rattle.sse_frames.specs.Fields.{entry_fields, first_fault}
use Rattle.sse_frames.proofs.fields.pass_entries.Given as goal

abbrev pub invariant-loop-i : goal.invariant-loop-i
invariant-loop-i l = record {
  inside : l.at ≤ length l.body;
  place : l.at ≡ l.fn.place + l.i * (16 + l.width);
  behind : 0 < l.i → 16 + l.width ≤ l.at;
  same : first_fault (entry_fields (nat_eq l.i 0) l.width (l.count - l.i) l.at) l.body ≡ first_fault (entry_fields true l.width l.count l.fn.place) l.body;
}
