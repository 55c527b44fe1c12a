use Rattle.std.proofs.Common.{◌++◌, ◌∷◌, [], map, ap, ◌∙◌}
use Rattle.std.proofs.lemmas.List.{map-append}
use Rattle.leakage_frames.specs.Views.{leak_view}
use Rattle.leakage_model.proofs.leaks.leak_next.Goals as goal

pub returns-clause-leaked : goal.returns-clause-leaked
returns-clause-leaked c =
    λ o s past follows.
    ap (map leak_view) c.in_ok-push.ensures.ok
    ∙ map-append leak_view c.args.leaks.now (c.in_ok-leak.leak ∷ [])
    ∙ (λ j. map leak_view c.args.leaks.now ++ c.in_ok-leak.ensures o s past follows j ∷ [])
