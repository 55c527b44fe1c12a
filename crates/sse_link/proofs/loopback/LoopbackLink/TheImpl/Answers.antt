use Rattle.std.proofs.Common.{rules}
use Rattle.keyed_fn.specs.KeyedFn.{keyed_fn}
use Rattle.sse_link.specs.FailingLoopback.{failure_at}
use Rattle.sse_link.proofs.ReachedLaws.{ok_reached, cut_reached}
use Rattle.sse_link.proofs.loopback.LoopbackLink.TheImpl.Goals as goal

-- the server moved as the mark says, and where the call is cut it did or is as before
pub send-tells : goal.send-tells
send-tells g c =
    let f = keyed_fn g.K.Keyed.prf g.K.Keyed.pad in
    let old = c.args.self.now in
    let new = c.new.self.now in
    let reached = ok_reached f old.told new.told c.args.frame.now c.result c.ensures.sent in
    let cut = cut_reached f (failure_at old.fails old.calls) old.told new.told c.args.frame.now c.result c.ensures.listed in
    search (rules, reached, cut)
