use Rattle.std.proofs.Common.{[], ◌∷◌, ◌++◌, subst}
use Rattle.std.specs.Prelude.{IfOk, Result}
use Rattle.sse_frames.specs.declared.fault.FrameFault.{FrameFault}
use Rattle.vault_server.specs.VaultFrames.{VaultFrameText}
use Rattle.vault_server.specs.VaultServerView.{IsVaultOf}
use Rattle.vault_server.specs.VaultViews.{frame_view}
use Rattle.vault_server.proofs.server.VaultServer.answer.Goals as goal

pub returns-in-Ok-clause-journal : goal.returns-in-Ok-clause-journal
returns-in-Ok-clause-journal g c = record {
  added = λ n took frames is.
      subst (λ (read : Result VaultFrameText FrameFault). IfOk read (λ frame. IsVaultOf (frames ++ frame ∷ []) c.answer_frame.new.self (g.D.Disk.content c.answer_frame.new.disk) (g.D.Disk.images c.answer_frame.new.disk)))
      c.in-Ok.ensures.read (c.answer_frame.ensures.journal.added n took frames is);
  any_moment = c.answer_frame.ensures.journal.any_moment;
  untouched = λ untaken. c.answer_frame.ensures.journal.untouched (λ is. untaken (frame_view c.in-Ok.frame, is, c.in-Ok.ensures.found.spelled));
}
