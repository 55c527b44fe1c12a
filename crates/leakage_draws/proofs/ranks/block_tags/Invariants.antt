use Rattle.std.proofs.Common.{◌≡◌, ◌<◌, ◌^◌, take, vec_len}
use Rattle.std.specs.Prelude.{flat_map}
use Rattle.leakage_draws.specs.Given.{tags_given}
use Rattle.client_tag_order.specs.Tagged.{tagged_from}
use Rattle.leakage_draws.proofs.ranks.block_tags.Given as goal

abbrev pub invariant-loop-drawing : goal.invariant-loop-drawing
invariant-loop-drawing l = record {
  tags : l.tags.items ≡ tagged_from 0 (flat_map (tags_given l.sheet) (take l.drawing-index l.drawings));
  few : vec_len l.tags < 2 ^ 32;
}
