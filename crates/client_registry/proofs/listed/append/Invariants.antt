use Rattle.std.proofs.Common.{◌≡◌, ◌+◌, ◌++◌, take, vec_capacity, vec_len}
use Rattle.client_registry.proofs.listed.append.Given as goal

abbrev pub invariant-loop-number : goal.invariant-loop-number
invariant-loop-number l = record {
  items : l.to.items ≡ l.initial.to.items ++ take l.number-index l.numbers;
  count : vec_len l.to ≡ vec_len l.initial.to + l.number-index;
  capacity : vec_capacity l.to ≡ vec_capacity l.initial.to;
}
