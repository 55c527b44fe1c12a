use Rattle.std.proofs.Common.{◌≡◌, ◌+◌, ◌++◌, map, vec_len}
use Rattle.std.specs.List.{range_with_len}
use Rattle.keyed_fn.specs.KeyedFn.{keyed_fn}
use Rattle.keyed_fn.specs.KeyFormulas.{place_tag}
use Rattle.client_tag_order.specs.Tagged.{tagged_from}
use Rattle.index_setup.proofs.labels.push_under.Given as goal

-- the tags of the first i blocks
abbrev pub invariant-loop-i : goal.invariant-loop-i
invariant-loop-i g l = record {
  count : vec_len l.tags ≡ vec_len l.initial.tags + l.i;
  tags : l.tags.items ≡ l.initial.tags.items ++ tagged_from (vec_len l.initial.tags) (map (place_tag (keyed_fn g.K.Keyed.prf g.K.Keyed.pad) l.key) (range_with_len 0 l.i));
}
