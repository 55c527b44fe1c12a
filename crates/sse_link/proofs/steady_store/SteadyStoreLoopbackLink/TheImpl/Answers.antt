use Rattle.std.proofs.Common.{rules}
use Rattle.keyed_fn.specs.KeyedFn.{keyed_fn}
use Rattle.sse_link.proofs.ReachedLaws.{ok_reached, never_cut}
use Rattle.sse_link.proofs.steady_store.SteadyStoreLoopbackLink.TheImpl.Goals as goal

-- the server moved as the mark says
pub send-tells : goal.send-tells
send-tells g c =
    let reached = ok_reached (keyed_fn g.K.Keyed.prf g.K.Keyed.pad) c.args.self.now c.new.self.now c.args.frame.now c.result c.ensures.sent in
    search (rules, reached, never_cut c.args.self.now c.new.self.now c.args.frame.now c.result c.ensures.err)
