use Rattle.std.proofs.Common.{◌≡◌, ◌+◌, ◌*◌, ◌-◌, ◌<◌, ◌≤◌, true, length, nat_eq}
use Rattle.sse_frames.specs.Fields.{number_fields, first_fault}
use Rattle.sse_frames.proofs.fields.pass_numbers.Given as goal

abbrev pub invariant-loop-i : goal.invariant-loop-i
invariant-loop-i l = record {
  inside : l.at ≤ length l.body;
  place : l.at ≡ l.fn.place + l.i * 16;
  behind : 0 < l.i → 16 ≤ l.at;
  same : first_fault (number_fields (nat_eq l.i 0) (l.count - l.i) l.at) l.body ≡ first_fault (number_fields true l.count l.fn.place) l.body;
}
