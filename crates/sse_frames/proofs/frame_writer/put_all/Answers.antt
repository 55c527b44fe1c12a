use Rattle.sse_frames.proofs.Puts.{put_three}
use Rattle.sse_frames.proofs.frame_writer.put_all.Goals as goal

pub returns-clause-bytes : goal.returns-clause-bytes
returns-clause-bytes c =
    put_three c.args.head.now c.args.first.now c.args.second.now c.args.out.now c.put-place.new.out c.put-place-2.new.out c.put.new.out c.put-place.result c.put-place-2.result c.put.result
    c.put-place.ensures.place c.put-place.ensures.bytes c.put-place-2.ensures.place c.put-place-2.ensures.bytes c.put.ensures.place c.put.ensures.bytes
