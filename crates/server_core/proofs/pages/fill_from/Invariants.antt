use Rattle.std.proofs.Common.{◌≡◌, ◌≤◌, length, take, Some}
use Rattle.std.specs.Prelude.{MatchOption}
use Rattle.std.specs.FinMap as map
use Rattle.std.specs.FinSet as set
use Rattle.keyed_fn.specs.KeyedFn.{keyed_fn}
use Rattle.two_level.specs.Opened.{joined}
use Rattle.server_core.specs.SearchState.{coming, InRange, steps_from}
use Rattle.server_core.specs.OpenedStep.{IsKept}
use Rattle.server_core.proofs.pages.fill_from.Given as goal

-- what was handed out and what still comes is all that came
abbrev pub invariant-loop-numbers : goal.invariant-loop-numbers
invariant-loop-numbers g l =
    let f = keyed_fn g.K.Keyed.prf g.K.Keyed.pad in
    let held = g.T.Tables.contents l.tables in
    record {
      handed : coming f l.token held l.fn.from l.within ≡ joined (Some (take l.count l.out)) (coming f l.token held l.spot l.skip);
      room : l.count ≤ length l.out;
      long : length l.out ≡ length l.initial.out;
      numbers : MatchOption l.numbers ((g.T.Tables.contents l.tables).revoked ≡ set.empty) (λ key. key ≡ l.token.revocation_key);
      labels : MatchOption l.labels (map.len (g.T.Tables.contents l.tables).additions ≡ 0) (λ key. key ≡ l.token.plus_label_key);
      range : InRange l.spot;
      kept : IsKept f l.token held l.group;
    }

abbrev pub decreases-loop-numbers : goal.decreases-loop-numbers
decreases-loop-numbers g l = steps_from (map.len (g.T.Tables.contents l.tables).additions) l.spot
