use Rattle.std.proofs.Common.{◌≡◌, ◌+◌, ◌++◌, map, vec_len}
use Rattle.std.specs.List.{range_with_len}
use Rattle.keyed_fn.specs.DummyFormulas.{dummy_label}
use Rattle.keyed_fn.specs.KeyFormulas.{plain_key}
use Rattle.keyed_fn.specs.KeyedFn.{keyed_fn}
use Rattle.client_tag_order.specs.Tagged.{tagged_from}
use Rattle.index_setup.proofs.dummies.push_dummy_labels.Given as goal

-- the labels of the first i dummies
abbrev pub invariant-loop-i : goal.invariant-loop-i
invariant-loop-i g l = record {
  count : vec_len l.labels ≡ vec_len l.initial.labels + l.i;
  labels : l.labels.items ≡ l.initial.labels.items ++ tagged_from (vec_len l.initial.labels) (map (dummy_label (keyed_fn g.K.Keyed.prf g.K.Keyed.pad) (plain_key (keyed_fn g.K.Keyed.prf g.K.Keyed.pad) l.master 8)) (range_with_len 0 l.i));
}
