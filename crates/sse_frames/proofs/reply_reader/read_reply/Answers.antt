use Rattle.sse_frames.proofs.Only.{reply_is_read}
use Rattle.sse_frames.proofs.reply_reader.read_reply.Goals as goal

pub returns-clause-only : goal.returns-clause-only
returns-clause-only c = reply_is_read c.front_reply.result c.args.bytes.now c.front_reply.ensures.outcome c.front_reply.ensures.found
