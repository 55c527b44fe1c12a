use Rattle.std.proofs.Common.{◌++◌, ◌∷◌, [], map, sym, ap, ◌∙◌}
use Rattle.std.proofs.lemmas.List.{map-append}
use Rattle.leakage_frames.specs.Views.{listed_view}
use Rattle.client_live_docs.proofs.Pushing.{take-one_more}
use Rattle.leakage_model.proofs.pairs.Pairs.listed.Goals as goal

pub loop-place-preserved : goal.loop-place-preserved
loop-place-preserved c =
    ap (map listed_view) c.in_ok-push.ensures.ok
    ∙ map-append listed_view c.loop-place.listed (c.at.result ∷ [])
    ∙ ap (λ ps. ps ++ listed_view c.at.result ∷ []) c.loop-place.invariant
    ∙ sym (take-one_more c.args.self.now c.loop-place.place (listed_view c.at.result) c.at.ensures)
