use Rattle.std.proofs.Common.{◌≡◌, ◌+◌, ◌*◌, ◌-◌, ◌≤◌, length}
use Rattle.sse_frames.specs.Fields.{id_fields, first_fault}
use Rattle.sse_frames.proofs.fields.pass_ids.Given as goal

abbrev pub invariant-loop : goal.invariant-loop
invariant-loop l = record {
  inside : l.at ≤ length l.body;
  place : l.at ≡ l.fn.place + l.counter * 8;
  same : first_fault (id_fields (l.count - l.counter) l.at) l.body ≡ first_fault (id_fields l.count l.fn.place) l.body;
}
