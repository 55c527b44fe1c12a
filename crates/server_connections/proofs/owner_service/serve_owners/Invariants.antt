use Rattle.std.proofs.Common.{◌≡◌, ◌+◌, List}
use Rattle.std.specs.Prelude.{IsSome}
use Rattle.keyed_fn.specs.KeyedFn.{keyed_fn}
use Rattle.sse_journal.specs.JournalView.{broken_by}
use Rattle.sse_server.specs.StoreView.{IsWithin}
use Rattle.sse_owners.specs.Owned.{OwnedFrame}
use Rattle.sse_owners.specs.OwnersView.{IsOwnersOf}
use Rattle.tcp_service.specs.Disks.{SoFar, IsSound, StaysClosed}
use Rattle.server_connections.specs.OwnerConnections.{HaveOwnersServed}
use Rattle.server_connections.proofs.owner_service.serve_owners.Given as goal

-- the connections that were served, and one more in each round
abbrev pub invariant-loop : goal.invariant-loop
invariant-loop g l = record {
  stands : IsWithin l.owners.journal (g.D.Disk.content l.disk);
  closed : StaysClosed (IsSome (broken_by l.fn.owners.journal)) (IsSome (broken_by l.owners.journal)) l.fn.disk l.disk;
  served : (frames : List OwnedFrame) → IsOwnersOf frames l.fn.owners (g.D.Disk.content l.fn.disk) (g.D.Disk.images l.fn.disk) →
      HaveOwnersServed (keyed_fn g.K.Keyed.prf g.K.Keyed.pad) g.C.In.Source.remaining g.C.Out.Sink.written l.fn.owners.numbers frames l.owners (g.D.Disk.content l.disk) (g.D.Disk.images l.disk)
      (g.C.Conns.offered l.fn.conns) (g.C.Conns.offered l.conns) (g.C.Conns.returned l.fn.conns) (g.C.Conns.returned l.conns);
  disk : SoFar (IsSound l.fn.owners.journal) (IsSound l.owners.journal) (g.D.Disk.faults l.fn.disk) (g.D.Disk.faults l.disk);
  given : g.C.Conns.given l.conns ≡ g.C.Conns.given l.fn.conns + l.counter;
  lent : g.C.Conns.lent l.conns ≡ g.C.Conns.lent l.fn.conns;
  steady : g.C.Conns.faults l.conns ≡ g.C.Conns.faults l.fn.conns;
}
