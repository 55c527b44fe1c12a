use Rattle.std.proofs.Common.{inl, refl, arith}
use Rattle.keyed_fn.specs.KeyedFn.{keyed_fn}
use Rattle.server_connections.proofs.Servings.{HaveServed-none}
use Rattle.server_connections.proofs.service.serve.Goals as goal

pub loop-init : goal.loop-init
loop-init g c = record {
  stands = c.requires.stands;
  closed = λ is. (refl, is);
  served = HaveServed-none (keyed_fn g.K.Keyed.prf g.K.Keyed.pad) g.S.Keeps.state g.S.Keeps.lasts g.C.In.Source.remaining g.C.Out.Sink.written c.args.store.now c.args.disk.now (g.C.Conns.offered c.args.conns.now) (g.C.Conns.returned c.args.conns.now);
  disk = inl (record { count = refl; stays = λ sound. sound });
  given = omega arith;
  lent = refl;
  steady = refl;
}
