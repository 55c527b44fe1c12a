use Rattle.std.proofs.Common.{◌≡◌, ◌++◌, ◌∷◌, [], Bool, true, false, not, sym, ap, ◌∙◌}
use Rattle.std.proofs.lemmas.List.{append-nil}
use Rattle.leakage_frames.specs.Views.{listed_view}
use Rattle.sse_simulator.specs.Leaks.{ListedLeak}
use Rattle.leakage_model.proofs.ListLaws.{passing-more}
use Rattle.leakage_model.proofs.pairs.Pairs.found.Goals as goal
use Rattle.leakage_model.proofs.pairs.Pairs.found.Goals.{then-not-pair+in_ok-push, else-not-pair}

pub loop-place-preserved : goal.loop-place-preserved
loop-place-preserved c =
    let ps = c.args.self.now in
    let p = listed_view c.at-pair.result in
    let more = λ (b : Bool) (is : not p.revoked ≡ b). passing-more (λ (q : ListedLeak). q.id) (λ q. not q.revoked) ps c.loop-place.place p b c.at-pair.ensures is in
    elim c.if-not-pair.branch [
      | then-not-pair+in_ok-push w ↦ w.found-is ∙ w.in_ok-push.ensures.ok ∙ ap (λ ids. ids ++ p.id ∷ []) c.loop-place.invariant ∙ sym (more true w.if-not-pair.true)
      | else-not-pair w ↦ w.found-is ∙ c.loop-place.invariant ∙ sym (append-nil _) ∙ sym (more false w.if-not-pair.false)
    ]
