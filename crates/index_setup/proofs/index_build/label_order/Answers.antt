use Rattle.keyed_fn.specs.KeyedFn.{keyed_fn}
use Rattle.index_setup.specs.Entries.{index_labels}
use Rattle.index_setup.specs.SizeOf.{setup_sized}
use Rattle.index_setup.proofs.index_build.label_order.Goals as goal

pub returns : goal.returns
returns g c =
    c.by_tag.ensures.order (index_labels (keyed_fn g.K.Keyed.prf g.K.Keyed.pad) c.args.master.now (setup_sized c.args.docs.now.documents c.args.size.now)) c.in_ok-labels_of.ensures
