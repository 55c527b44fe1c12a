use Rattle.sse_frames.proofs.Puts.{put_behind}
use Rattle.sse_frames.proofs.put.put_u16.Goals as goal

pub returns : goal.returns
returns c = put_behind c.args.place 2 _ c.args.out.now c.write_u16.new.buf c.requires c.write_u16.ensures
