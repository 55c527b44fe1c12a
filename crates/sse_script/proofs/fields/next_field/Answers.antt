use Rattle.std.proofs.Common.{arith}
use Rattle.std.proofs.lemmas.List.Sums.{prefix_len-le-length}
use Rattle.sse_script.proofs.FieldsLemmas.{Cut, fields_of_some, fields_of_none}
use Rattle.sse_script.proofs.fields.next_field.Goals as goal

pub split_at-requires : goal.split_at-requires
split_at-requires c = rw c.spaces.ensures (prefix_len-le-length _ c.args.bytes.now)

pub split_at-requires-2 : goal.split_at-requires-2
split_at-requires-2 c = rw c.field_len.ensures (prefix_len-le-length _ c.split_at.result.1.now)

pub returns-then-is_empty-clause-none : goal.returns-then-is_empty-clause-none
returns-then-is_empty-clause-none c =
    let cut : Cut c.args.bytes.now c.split_at.result.1.now c.split_at-2.result.0.now c.split_at-2.result.1.now = record { behind = cc; front = cc; back = cc } in
    fields_of_none _ _ _ _ cut (grind arith)

pub returns-clause-some : goal.returns-clause-some
returns-clause-some c =
    let cut : Cut c.args.bytes.now c.split_at.result.1.now c.split_at-2.result.0.now c.split_at-2.result.1.now = record { behind = cc; front = cc; back = cc } in
    fields_of_some _ _ _ _ cut (grind arith)
