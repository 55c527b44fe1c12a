use Rattle.std.proofs.Common.{rules, ◌≡◌}
use Rattle.std.specs.Bool.{Decides}
use Rattle.std.proofs.lemmas.Slice.Eq.{slice_eq-Decides}
use Rattle.leakage_frames.specs.declared.leak.WordLeak.{WordLeak}
use Rattle.leakage_frames.specs.contracts.leak.WordLeakPartialEq.TheImpl.{eq-value}
use Rattle.leakage_frames.proofs.same.same_words.Goals as goal

each : (a b : WordLeak) → Decides (eq-value.it a b) (a ≡ b)
each a b = search rules

pub returns : goal.returns
returns c = slice_eq-Decides each c.args.left.now c.args.right.now c.eq.result c.eq.ensures
