use Rattle.std.proofs.Common.{inl, refl, arith}
use Rattle.vault_served.specs.Lasting.{Lasts}
use Rattle.vault_served.proofs.Servings.{HaveServed-none}
use Rattle.vault_served.proofs.serving.serve.Goals as goal

pub loop-init : goal.loop-init
loop-init g c = record {
  within = c.requires.within;
  closed = λ is. (refl, is);
  served = HaveServed-none (Lasts g.D.Disk.content g.D.Disk.images) g.C.In.Source.remaining g.C.Out.Sink.written c.args.server.now c.args.disk.now
      (g.C.Conns.offered c.args.conns.now) (g.C.Conns.returned c.args.conns.now);
  disk = inl (record { count = refl; stays = λ sound. sound });
  given = omega arith;
  lent = refl;
  steady = refl;
}
