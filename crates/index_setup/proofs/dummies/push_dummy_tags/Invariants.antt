use Rattle.std.proofs.Common.{◌≡◌, ◌+◌, ◌++◌, map, vec_len}
use Rattle.std.specs.List.{range_with_len}
use Rattle.keyed_fn.specs.DummyFormulas.{dummy_tag}
use Rattle.keyed_fn.specs.KeyFormulas.{plain_key}
use Rattle.keyed_fn.specs.KeyedFn.{keyed_fn}
use Rattle.client_tag_order.specs.Tagged.{tagged_from}
use Rattle.index_setup.proofs.dummies.push_dummy_tags.Given as goal

-- the tags of the first j dummies
abbrev pub invariant-loop-j : goal.invariant-loop-j
invariant-loop-j g l = record {
  count : vec_len l.tags ≡ vec_len l.initial.tags + l.j;
  tags : l.tags.items ≡ l.initial.tags.items ++ tagged_from (vec_len l.initial.tags) (map (dummy_tag (keyed_fn g.K.Keyed.prf g.K.Keyed.pad) (plain_key (keyed_fn g.K.Keyed.prf g.K.Keyed.pad) l.master 8)) (range_with_len 0 l.j));
}
