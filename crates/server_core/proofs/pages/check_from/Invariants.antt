use Rattle.std.proofs.Common.{◌≡◌}
use Rattle.std.specs.Prelude.{MatchOption}
use Rattle.std.specs.FinMap as map
use Rattle.std.specs.Option.{is_some}
use Rattle.keyed_fn.specs.KeyedFn.{keyed_fn}
use Rattle.server_core.specs.SearchState.{ids_from, InRange, steps_from}
use Rattle.server_core.specs.OpenedStep.{IsKept}
use Rattle.server_core.proofs.pages.check_from.Given as goal

-- there is a list from the first spot on where there is one from here on
abbrev pub invariant-loop-labels : goal.invariant-loop-labels
invariant-loop-labels g l =
    let f = keyed_fn g.K.Keyed.prf g.K.Keyed.pad in
    let held = g.T.Tables.contents l.tables in
    record {
      same : is_some (ids_from f l.token held l.fn.from) ≡ is_some (ids_from f l.token held l.spot);
      labels : MatchOption l.labels (map.len (g.T.Tables.contents l.tables).additions ≡ 0) (λ key. key ≡ l.token.plus_label_key);
      range : InRange l.spot;
      kept : IsKept f l.token held l.group;
    }

abbrev pub decreases-loop-labels : goal.decreases-loop-labels
decreases-loop-labels g l = steps_from (map.len (g.T.Tables.contents l.tables).additions) l.spot
