use Rattle.std.proofs.Common.{◌≡◌, ◌+◌}
use Rattle.std.specs.Prelude.{IsSome}
use Rattle.tcp_service.specs.Disks.{SoFar, IsSound, StaysClosed}
use Rattle.sse_journal.specs.JournalView.{broken_by}
use Rattle.vault_server.specs.VaultServerView.{IsWithin}
use Rattle.vault_served.specs.Lasting.{Lasts}
use Rattle.vault_served.specs.Served.{HaveServed}
use Rattle.vault_served.proofs.serving.serve.Given as goal

-- the connections that were served, and one more in each round
abbrev pub invariant-loop : goal.invariant-loop
invariant-loop g l = record {
  within : IsWithin l.server.journal (g.D.Disk.content l.disk);
  closed : StaysClosed (IsSome (broken_by l.fn.server.journal)) (IsSome (broken_by l.server.journal)) l.fn.disk l.disk;
  served : HaveServed (Lasts g.D.Disk.content g.D.Disk.images) g.C.In.Source.remaining g.C.Out.Sink.written l.fn.server l.server l.fn.disk l.disk
      (g.C.Conns.offered l.fn.conns) (g.C.Conns.offered l.conns) (g.C.Conns.returned l.fn.conns) (g.C.Conns.returned l.conns);
  disk : SoFar (IsSound l.fn.server.journal) (IsSound l.server.journal) (g.D.Disk.faults l.fn.disk) (g.D.Disk.faults l.disk);
  given : g.C.Conns.given l.conns ≡ g.C.Conns.given l.fn.conns + l.counter;
  lent : g.C.Conns.lent l.conns ≡ g.C.Conns.lent l.fn.conns;
  steady : g.C.Conns.faults l.conns ≡ g.C.Conns.faults l.fn.conns;
}
