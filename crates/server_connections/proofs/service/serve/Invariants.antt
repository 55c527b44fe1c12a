use Rattle.std.proofs.Common.{◌≡◌, ◌+◌}
use Rattle.keyed_fn.specs.KeyedFn.{keyed_fn}
use Rattle.tcp_service.specs.Disks.{SoFar, StaysClosed}
use Rattle.server_connections.specs.Served.{HaveServed}
use Rattle.server_connections.proofs.service.serve.Given as goal

-- the connections that were served, and one more in each round
abbrev pub invariant-loop : goal.invariant-loop
invariant-loop g l = record {
  stands : g.S.Keeps.stands l.store l.disk;
  closed : StaysClosed (g.S.Keeps.closed l.fn.store) (g.S.Keeps.closed l.store) l.fn.disk l.disk;
  served : HaveServed (keyed_fn g.K.Keyed.prf g.K.Keyed.pad) g.S.Keeps.state g.S.Keeps.lasts g.C.In.Source.remaining g.C.Out.Sink.written l.fn.store l.store l.fn.disk l.disk
      (g.C.Conns.offered l.fn.conns) (g.C.Conns.offered l.conns) (g.C.Conns.returned l.fn.conns) (g.C.Conns.returned l.conns);
  disk : SoFar (g.S.Keeps.sound l.fn.store) (g.S.Keeps.sound l.store) (g.D.Disk.faults l.fn.disk) (g.D.Disk.faults l.disk);
  given : g.C.Conns.given l.conns ≡ g.C.Conns.given l.fn.conns + l.counter;
  lent : g.C.Conns.lent l.conns ≡ g.C.Conns.lent l.fn.conns;
  steady : g.C.Conns.faults l.conns ≡ g.C.Conns.faults l.fn.conns;
}
