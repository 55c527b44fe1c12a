use Rattle.std.proofs.Common.{sym, subst}
use Rattle.keyed_fn.specs.KeyedFn.{keyed_fn}
use Rattle.client_tag_order.specs.Tagged.{IsOrderOf}
use Rattle.index_setup.specs.Entries.{index_labels}
use Rattle.index_setup.specs.SizeOf.{setup_sized}
use Rattle.index_setup.proofs.index_build.distinct_labels.Goals as goal

pub returns-in-Ok-clause-clash : goal.returns-in-Ok-clause-clash
returns-in-Ok-clause-clash g c = λ _.
    let own = index_labels (keyed_fn g.K.Keyed.prf g.K.Keyed.pad) c.args.master.now (setup_sized c.args.docs.now.documents c.args.size.now) in
    c.in-Ok.ensures own (subst (IsOrderOf own) (sym c.deref.ensures.value) c.in_ok-labels.ensures)

pub returns-in-Err-clause-clash : goal.returns-in-Err-clause-clash
returns-in-Err-clause-clash g c = λ _.
    let own = index_labels (keyed_fn g.K.Keyed.prf g.K.Keyed.pad) c.args.master.now (setup_sized c.args.docs.now.documents c.args.size.now) in
    c.in-Err.ensures own (subst (IsOrderOf own) (sym c.deref.ensures.value) c.in_ok-labels.ensures)
