use Rattle.chacha_stream.proofs.Streams.{filled}
use Rattle.chacha_stream.proofs.pad.fill_out.Goals as goal

pub returns : goal.returns
returns c = filled c.args.key.now c.args.n _ _ _ _ c.ranges.n.fits c.requires c.key_stream-stream.ensures c.fill_bytes.ensures
