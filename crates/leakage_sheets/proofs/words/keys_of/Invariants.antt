use Rattle.std.proofs.Common.{◌≡◌, map, take}
use Rattle.keyed_fn.specs.KeyedFn.{keyed_fn}
use Rattle.leakage_sheets.specs.OwnKeys.{own_keys}
use Rattle.leakage_sheets.proofs.words.keys_of.Given as goal

abbrev pub invariant-loop-number : goal.invariant-loop-number
invariant-loop-number g l = l.keys ≡ map (own_keys (keyed_fn g.K.Keyed.prf g.K.Keyed.pad) l.master) (take l.number l.words)
