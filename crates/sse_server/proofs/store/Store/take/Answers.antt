use Rattle.std.proofs.Common.{◌≡◌, refl, sym, ◌∙◌, ap, subst, rules}
use Rattle.std.specs.Prelude.{None}
use Rattle.sse_frames.specs.FrameViews.{frame_view}
use Rattle.server_core.specs.Refusal.{refusal}
use Rattle.server_core.specs.State.{ServerState}
use Rattle.server_core.specs.Step.{taken}
use Rattle.sse_server.specs.Taken.{IsTaken}
use Rattle.sse_server.specs.StoreView.{StoreView, IsStoreOf}
use Rattle.sse_server.proofs.AnswerLaws.{store_push}
use Rattle.sse_server.proofs.store.Store.take.Goals as goal

pub returns-in-Ok-clause-added : goal.returns-in-Ok-clause-added
returns-in-Ok-clause-added g c q same frames is =
    let frame = frame_view c.args.frame.now in
    let state : ServerState = c.self.inside.server.state in
    let accepted : refusal c.prepare.new.self.state frame ≡ None = search rules in
    let one : IsTaken state frame = record { update = c.requires.update; grammar = c.requires.grammar; accepted = ap (λ s. refusal s frame) (sym c.prepare.ensures.kept) ∙ accepted } in
    store_push frames frame state c.apply.new.self.state c.self.inside.journal c.keep.new.journal (g.D.Disk.content c.args.disk.now) (g.D.Disk.content c.keep.new.disk) (g.D.Disk.images c.args.disk.now) (g.D.Disk.images c.keep.new.disk)
    (subst (λ (v : StoreView). IsStoreOf frames v (g.D.Disk.content c.args.disk.now) (g.D.Disk.images c.args.disk.now)) (sym c.self.view_is) is)
    one
    (c.apply.ensures ∙ ap (λ s. taken s frame) c.prepare.ensures.kept)
    c.in-Ok.ensures.added

-- it was answered that the frame was taken
pub returns-in-Ok-clause-stays : goal.returns-in-Ok-clause-stays
returns-in-Ok-clause-stays g c frames whole not_taken is = absurd (not_taken c.next-q.result refl)
