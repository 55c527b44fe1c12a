use Rattle.sse_frames.proofs.Puts.{put_behind}
use Rattle.sse_frames.proofs.put.put_u32.Goals as goal

pub returns : goal.returns
returns c = put_behind c.args.place 4 _ c.args.out.now c.write_u32.new.buf c.requires c.write_u32.ensures
