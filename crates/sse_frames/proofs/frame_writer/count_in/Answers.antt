use Rattle.std.proofs.Common.{◌/◌, length, sym}
use Rattle.sse_frames.proofs.Chunks.{length-first_chunks}
use Rattle.sse_frames.proofs.frame_writer.count_in.Goals as goal

pub returns : goal.returns
returns c = sym (length-first_chunks c.args.size (length c.args.bytes.now / c.args.size) c.args.bytes.now)
