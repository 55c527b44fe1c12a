use Rattle.std.proofs.Common.{◌≡◌, ◌+◌, ◌≤◌, ◌++◌, take, filter, length, not, nat_eq, vec_capacity, vec_len}
use Rattle.std.specs.List.{list_any}
use Rattle.client_registry.proofs.listed.append_others.Given as goal

abbrev pub invariant-loop-number : goal.invariant-loop-number
invariant-loop-number l = record {
  items : l.to.items ≡ l.initial.to.items ++ filter (λ n. not (list_any (nat_eq n) l.others)) (take l.number-index l.numbers);
  count : vec_len l.to ≤ vec_len l.initial.to + l.number-index;
  capacity : vec_len l.initial.to + length l.numbers ≤ vec_capacity l.to;
}
