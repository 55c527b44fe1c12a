use Rattle.std.proofs.Common.{sym, subst, arith}
use Rattle.keyed_fn.specs.KeyedFn.{keyed_fn}
use Rattle.client_tag_order.specs.Tagged.{IsOrderOf}
use Rattle.index_setup.specs.Entries.{index_tags}
use Rattle.index_setup.specs.SizeOf.{setup_sized}
use Rattle.index_setup.proofs.KeyTags.{tags_within}
use Rattle.index_setup.proofs.RankWrites.{length-sorted, positions_within}
use Rattle.index_setup.proofs.index_build.distinct_ranks.Goals as goal

pub ranks-requires-clause-most : goal.ranks-requires-clause-most
ranks-requires-clause-most g c =
    let f = keyed_fn g.K.Keyed.prf g.K.Keyed.pad in
    let s = setup_sized c.args.docs.now.documents c.args.size.now in
    let order = subst (IsOrderOf (index_tags f c.args.master.now s)) (sym c.deref-in-Ok.ensures.value) c.in_ok-tags.ensures in
    omega (arith, tags_within f c.args.master.now s c.requires.accepted, length-sorted (index_tags f c.args.master.now s) c.deref-in-Ok.result.now order)

pub ranks-requires-clause-positions : goal.ranks-requires-clause-positions
ranks-requires-clause-positions g c =
    let tags = index_tags (keyed_fn g.K.Keyed.prf g.K.Keyed.pad) c.args.master.now (setup_sized c.args.docs.now.documents c.args.size.now) in
    positions_within tags c.deref-in-Ok.result.now (subst (IsOrderOf tags) (sym c.deref-in-Ok.ensures.value) c.in_ok-tags.ensures)

pub returns-in-Ok-clause-ranks : goal.returns-in-Ok-clause-ranks
returns-in-Ok-clause-ranks g c =
    let tags = index_tags (keyed_fn g.K.Keyed.prf g.K.Keyed.pad) c.args.master.now (setup_sized c.args.docs.now.documents c.args.size.now) in
    c.in_ok-ranks-in-Ok.ensures tags (subst (IsOrderOf tags) (sym c.deref-in-Ok.ensures.value) c.in_ok-tags.ensures)

pub returns-in-Ok-clause-clash : goal.returns-in-Ok-clause-clash
returns-in-Ok-clause-clash g c = λ _.
    let own = index_tags (keyed_fn g.K.Keyed.prf g.K.Keyed.pad) c.args.master.now (setup_sized c.args.docs.now.documents c.args.size.now) in
    c.in-Ok.ensures own (subst (IsOrderOf own) (sym c.deref.ensures.value) c.in_ok-tags.ensures)

pub returns-clause-clash : goal.returns-clause-clash
returns-clause-clash g c = λ _.
    let own = index_tags (keyed_fn g.K.Keyed.prf g.K.Keyed.pad) c.args.master.now (setup_sized c.args.docs.now.documents c.args.size.now) in
    c.in-Err.ensures own (subst (IsOrderOf own) (sym c.deref.ensures.value) c.in_ok-tags.ensures)
