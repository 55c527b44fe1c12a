use Rattle.std.proofs.Common.{inl, refl, arith}
use Rattle.keyed_fn.specs.KeyedFn.{keyed_fn}
use Rattle.server_connections.proofs.OwnersServedLaws.{HaveOwnersServed-none}
use Rattle.server_connections.proofs.owner_service.serve_owners.Goals as goal

pub loop-init : goal.loop-init
loop-init g c = record {
  stands = c.requires.stands;
  closed = λ is. (refl, is);
  served = λ frames is. HaveOwnersServed-none (keyed_fn g.K.Keyed.prf g.K.Keyed.pad) g.C.In.Source.remaining g.C.Out.Sink.written frames c.args.owners.now (g.D.Disk.content c.args.disk.now) (g.D.Disk.images c.args.disk.now)
      (g.C.Conns.offered c.args.conns.now) (g.C.Conns.returned c.args.conns.now) is;
  disk = inl (record { count = refl; stays = λ sound. sound });
  given = omega arith;
  lent = refl;
  steady = refl;
}
