use Rattle.std.proofs.Common.{◌≤◌, length, sym, ◌∙◌, subst}
use Rattle.sse_frames.specs.Frames.{frame_bytes}
use Rattle.sse_frames.specs.FrameViews.{frame_view}
use Rattle.sse_frames.proofs.Heads.{length-frame_bytes}
use Rattle.client_core.proofs.IndexCounts.{length-index_frames}
use Rattle.client_core.proofs.owed_setup.OwedSetup.at.Goals as goal

-- no frame is longer than the room
pub write_frame_into-size-requires-clause-room : goal.write_frame_into-size-requires-clause-room
write_frame_into-size-requires-clause-room c =
    subst (λ n. length (frame_bytes (frame_view c.frame_at.result)) ≤ n) (sym (c.deref_mut.ensures.len ∙ c.requires.fits)) (length-frame_bytes (frame_view c.frame_at.result) c.frame_at.ensures.grammar)

pub invariant_of-result-clause-counted : goal.invariant_of-result-clause-counted
invariant_of-result-clause-counted c = length-index_frames c.args.index c.frame_at.ensures.limits
