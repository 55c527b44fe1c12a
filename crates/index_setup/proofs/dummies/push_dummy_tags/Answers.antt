use Rattle.std.proofs.Common.{vec_len, ap, ◌∙◌, arith}
use Rattle.keyed_fn.specs.DummyFormulas.{dummy_tag}
use Rattle.keyed_fn.specs.KeyFormulas.{plain_key}
use Rattle.keyed_fn.specs.KeyedFn.{keyed_fn}
use Rattle.index_setup.proofs.TagLists.{tagged-range_more}
use Rattle.index_setup.proofs.dummies.push_dummy_tags.Goals as goal

pub loop-j-preserved : goal.loop-j-preserved
loop-j-preserved g c =
    let f = keyed_fn g.K.Keyed.prf g.K.Keyed.pad in
    let key = plain_key f c.args.master.now 8 in
    let n = vec_len c.args.tags.now in
    record {
      count = omega (arith, c.in_ok-push.ensures.len, c.loop-j.invariant.count);
      tags =
          c.in_ok-push.ensures.items
          ∙ tagged-range_more (dummy_tag f key) n c.loop-j.j c.len-position.result c.tag-tag.result c.args.tags.now.items c.loop-j.tags.items
          c.loop-j.invariant.tags (c.tag-tag.ensures ∙ ap (λ keys. dummy_tag f keys.label_key c.loop-j.j) c.dummy_key-key.ensures) (omega (arith, c.len-position.ensures, c.loop-j.invariant.count));
    }
