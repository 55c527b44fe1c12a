use Rattle.std.proofs.Common.{vec_len, ap, ◌∙◌, arith}
use Rattle.keyed_fn.specs.DummyFormulas.{dummy_label}
use Rattle.keyed_fn.specs.KeyFormulas.{plain_key}
use Rattle.keyed_fn.specs.KeyedFn.{keyed_fn}
use Rattle.index_setup.proofs.TagLists.{tagged-range_more}
use Rattle.index_setup.proofs.dummies.push_dummy_labels.Goals as goal

pub loop-i-preserved : goal.loop-i-preserved
loop-i-preserved g c =
    let f = keyed_fn g.K.Keyed.prf g.K.Keyed.pad in
    let key = plain_key f c.args.master.now 8 in
    let n = vec_len c.args.labels.now in
    record {
      count = omega (arith, c.in_ok-push.ensures.len, c.loop-i.invariant.count);
      labels =
          c.in_ok-push.ensures.items
          ∙ tagged-range_more (dummy_label f key) n c.loop-i.i c.len-position.result c.label-tag.result c.args.labels.now.items c.loop-i.labels.items
          c.loop-i.invariant.labels (c.label-tag.ensures ∙ ap (λ keys. dummy_label f keys.label_key c.loop-i.i) c.dummy_key-key.ensures) (omega (arith, c.len-position.ensures, c.loop-i.invariant.count));
    }
