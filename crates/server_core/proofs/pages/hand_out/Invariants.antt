use Rattle.std.proofs.Common.{◌≡◌, ◌≤◌, ◌-◌, ◌++◌, length, take}
use Rattle.std.specs.FinSet as set
use Rattle.keyed_fn.specs.KeyedFn.{keyed_fn}
use Rattle.server_core.specs.Search.{unrevoked}
use Rattle.server_core.proofs.pages.hand_out.Given as goal

abbrev pub invariant-loop-passed : goal.invariant-loop-passed
invariant-loop-passed g l = record {
  handed : take l.filled l.out ≡ take l.done l.initial.out ++ unrevoked (keyed_fn g.K.Keyed.prf g.K.Keyed.pad) l.token (set.contains (g.T.Tables.contents l.tables).revoked) (take l.passed l.ids);
  passed : l.passed ≤ length l.ids;
  long : length l.out ≡ length l.initial.out;
  room : l.filled ≤ length l.out;
}

abbrev pub decreases-loop-passed : goal.decreases-loop-passed
decreases-loop-passed g l = length l.ids - l.passed
