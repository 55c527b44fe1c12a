use Rattle.std.proofs.Common.{◌≡◌, ◌+◌, ◌*◌, ◌-◌, ◌≤◌, length}
use Rattle.sse_frames.specs.Fields.{block_fields, first_fault}
use Rattle.sse_frames.proofs.fields.pass_blocks.Given as goal

abbrev pub invariant-loop : goal.invariant-loop
invariant-loop l = record {
  inside : l.at ≤ length l.body;
  place : l.at ≡ l.fn.place + l.counter * l.width;
  same : first_fault (block_fields l.width (l.count - l.counter) l.at) l.body ≡ first_fault (block_fields l.width l.count l.fn.place) l.body;
}
