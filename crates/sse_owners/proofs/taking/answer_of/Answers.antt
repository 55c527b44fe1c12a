use Rattle.keyed_fn.specs.KeyedFn.{keyed_fn}
use Rattle.sse_frames.specs.FrameViews.{frame_view}
use Rattle.sse_server.proofs.AnswerLaws.{no_took}
use Rattle.sse_owners.proofs.taking.answer_of.Goals as goal

pub returns-clause-not_taken : goal.returns-clause-not_taken
returns-clause-not_taken g c q took =
    no_took (keyed_fn g.K.Keyed.prf g.K.Keyed.pad) c.args.server.now.state c.handle.new.self.state (frame_view c.args.frame.now) c.handle.result c.handle.new.page q c.requires.no_update c.handle.ensures.replies took
