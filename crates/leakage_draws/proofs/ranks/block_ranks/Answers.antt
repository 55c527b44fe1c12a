use Rattle.std.proofs.Common.{◌≡◌, sym, subst}
use Rattle.std.specs.Prelude.{flat_map}
use Rattle.std.proofs.lemmas.Result.{IfOk-weaker}
use Rattle.sse_model.specs.Positions.{ranks_of}
use Rattle.client_tag_order.specs.Tagged.{IsOrderOf}
use Rattle.index_setup.proofs.RankWrites.{positions_within}
use Rattle.leakage_draws.specs.Given.{tags_given}
use Rattle.leakage_draws.proofs.ranks.block_ranks.Goals as goal

pub ranks-requires-clause-positions : goal.ranks-requires-clause-positions
ranks-requires-clause-positions c =
    let tags = flat_map (tags_given c.args.sheet.now) c.args.drawings.now in
    positions_within tags c.deref.result.now (subst (IsOrderOf tags) (sym c.deref.ensures.value) (c.in_ok-sorted.ensures.order tags c.in_ok-block_tags.ensures.tags))

pub returns : goal.returns
returns c =
    let tags = flat_map (tags_given c.args.sheet.now) c.args.drawings.now in
    IfOk-weaker c.ranks.result _ (λ ranks. ranks.items ≡ ranks_of tags) (λ ranks told. told tags (subst (IsOrderOf tags) (sym c.deref.ensures.value) (c.in_ok-sorted.ensures.order tags c.in_ok-block_tags.ensures.tags))) c.ranks.ensures
