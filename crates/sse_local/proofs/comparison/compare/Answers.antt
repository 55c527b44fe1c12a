use Rattle.std.proofs.Common.{Some, subst, sym}
use Rattle.keyed_fn.specs.KeyedFn.{keyed_fn}
use Rattle.leakage_history.specs.HashedEpochs.{epochs_in}
use Rattle.leakage_values.specs.SheetOf.{AreSheetsIn}
use Rattle.def_relabelling.specs.Histories.{relabelled_from, table_in}
use Rattle.sse_local.proofs.ComparedSame.{compared-same}
use Rattle.sse_local.proofs.comparison.compare.Goals as goal

pub returns-in-Ok : goal.returns-in-Ok
returns-in-Ok g c =
    let f = keyed_fn g.K.Keyed.prf g.K.Keyed.pad in
    let key = c.args.key.now in
    let es = epochs_in c.args.epochs.now in
    let other = epochs_in c.args.other.now in
    let sheets = subst (λ values. AreSheetsIn values es (table_in f key es)) (sym c.as_slice.ensures) c.in_ok-sheets.ensures.values in
    let moved = subst (λ values. AreSheetsIn values other (relabelled_from f key (Some es) (Some other))) (sym c.as_slice-in-Ok.ensures) (c.in-Ok.ensures.values (table_in f key es) sheets) in
    compared-same f key es other c.as_slice-in-Ok.result.now c.count_moved.result c.in-Ok.ensures.same moved c.count_moved.ensures
