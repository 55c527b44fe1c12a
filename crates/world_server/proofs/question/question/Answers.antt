use Rattle.std.proofs.Common.{sym, ◌∙◌}
use Rattle.keyed_fn.specs.KeyedFn.{keyed_fn}
use Rattle.sse_frames.specs.FrameViews.{frame_view}
use Rattle.sse_server.proofs.AnswerLaws.{not_taken}
use Rattle.sse_server.proofs.TakenFrames.{step_stays}
use Rattle.world_server.proofs.Steps.{serves_same}
use Rattle.world_server.proofs.question.question.Goals as goal

pub returns-in-Some : goal.returns-in-Some
returns-in-Some g c =
    let f = keyed_fn g.K.Keyed.prf g.K.Keyed.pad in
    let h = c.in-Answered.ensures in
    let s = c.args.store.now.state in
    let frame = frame_view c.args.frame.now in
    let untaken = not_taken s frame c.requires.question in
    let same = h.untouched untaken in
    record {
      replies = sym (c.in-Some.ensures.replies f c.handle.new.self.state c.handle.new.page) ∙ h.replies (λ e. untaken (h.no_memory e).1) (λ e. untaken (h.store_fault e).1);
      can = c.in-Some.ensures.can;
      stays = λ frames serves. serves_same frames c.args.store.now c.handle.new.self c.args.disk.now c.handle.new.disk same.0 same.1
          (h.state (λ e. untaken (h.no_memory e).1) (λ e. untaken (h.store_fault e).1) ∙ step_stays f s frame c.requires.question) serves;
      disk = same.0;
      long = h.long;
    }
