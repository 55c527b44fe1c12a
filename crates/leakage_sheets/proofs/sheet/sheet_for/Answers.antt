use Rattle.std.proofs.Common.{take, sym, subst}
use Rattle.std.proofs.lemmas.List.{take_more}
use Rattle.keyed_fn.specs.KeyedFn.{keyed_fn}
use Rattle.leakage_sheets.specs.ByKeys.{value_by_keys}
use Rattle.leakage_values.specs.Held.{Holds}
use Rattle.leakage_sheets.proofs.sheet.sheet_for.Goals as goal

pub loop-name-preserved : goal.loop-name-preserved
loop-name-preserved g c =
    let names = c.args.names.now in
    let i = c.loop-name.name-index in
    let keys = c.args.keys.now in
    subst (λ ns. Holds c.put.new.sheet ns (value_by_keys (keyed_fn g.K.Keyed.prf g.K.Keyed.pad) keys.shape keys.words keys.dummies))
    (sym (take_more names i _ c.loop-name-test.true))
    (c.in_ok-put.ensures (take i names) c.loop-name.invariant)
