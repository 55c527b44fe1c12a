use Rattle.sse_frames.proofs.Only.{frame_is_read}
use Rattle.sse_frames.proofs.frame_reader.read_frame.Goals as goal

pub returns-clause-only : goal.returns-clause-only
returns-clause-only c = frame_is_read c.front_frame.result c.args.bytes.now c.front_frame.ensures.outcome c.front_frame.ensures.found
