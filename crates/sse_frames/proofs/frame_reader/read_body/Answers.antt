use Rattle.sse_frames.proofs.Only.{body_is_read}
use Rattle.sse_frames.proofs.frame_reader.read_body.Goals as goal

pub returns-clause-only : goal.returns-clause-only
returns-clause-only c = body_is_read c.whole_body.result c.args.bytes.now c.whole_body.ensures.fault c.whole_body.ensures.found
