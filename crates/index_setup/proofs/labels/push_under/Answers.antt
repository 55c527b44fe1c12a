use Rattle.std.proofs.Common.{vec_len, ◌∙◌, arith}
use Rattle.keyed_fn.specs.KeyedFn.{keyed_fn}
use Rattle.keyed_fn.specs.KeyFormulas.{place_tag}
use Rattle.index_setup.proofs.TagLists.{tagged-range_more}
use Rattle.index_setup.proofs.labels.push_under.Goals as goal

pub loop-i-preserved : goal.loop-i-preserved
loop-i-preserved g c =
    let f = keyed_fn g.K.Keyed.prf g.K.Keyed.pad in
    let n = vec_len c.args.tags.now in
    record {
      count = omega (arith, c.in_ok-push.ensures.len, c.loop-i.invariant.count);
      tags =
          c.in_ok-push.ensures.items
          ∙ tagged-range_more (place_tag f c.args.key.now) n c.loop-i.i c.len-position.result c.tag-tag.result c.args.tags.now.items c.loop-i.tags.items
          c.loop-i.invariant.tags c.tag-tag.ensures (omega (arith, c.len-position.ensures, c.loop-i.invariant.count));
    }
