use Rattle.std.proofs.Common.{take}
use Rattle.keyed_fn.specs.KeyedFn.{keyed_fn}
use Rattle.leakage_sheets.specs.ByKeys.{value_by_keys}
use Rattle.leakage_values.specs.Held.{Holds}
use Rattle.leakage_sheets.proofs.sheet.sheet_for.Given as goal

abbrev pub invariant-loop-name : goal.invariant-loop-name
invariant-loop-name g l = Holds l.sheet (take l.name-index l.names) (value_by_keys (keyed_fn g.K.Keyed.prf g.K.Keyed.pad) l.keys.shape l.keys.words l.keys.dummies)
