use Rattle.std.proofs.Common.{◌≡◌}
use Rattle.std.specs.Prelude.{IsSome}
use Rattle.tcp_service.specs.Arrivals.{bytes_to_come}
use Rattle.tcp_service.specs.Disks.{IsSteady, IsSound, StaysClosed}
use Rattle.sse_journal.specs.JournalView.{broken_by}
use Rattle.vault_server.specs.VaultServerView.{IsWithin}
use Rattle.vault_served.specs.Lasting.{Lasts}
use Rattle.vault_served.specs.Steps.{Progress}
use Rattle.vault_served.proofs.connection.serve_connection.Given as goal

-- the frames that were answered, what is held after them, and no fault so far
abbrev pub invariant-frames : goal.invariant-frames
invariant-frames g l = record {
  within : IsWithin l.server.journal (g.D.Disk.content l.disk);
  closed : StaysClosed (IsSome (broken_by l.initial.server.journal)) (IsSome (broken_by l.server.journal)) l.initial.disk l.disk;
  progress : Progress (g.I.Source.remaining l.initial.conn.source) (g.I.Source.remaining l.conn.source) (g.O.Sink.written l.initial.conn.sink) (g.O.Sink.written l.conn.sink)
      (Lasts g.D.Disk.content g.D.Disk.images l.initial.server l.initial.disk) (Lasts g.D.Disk.content g.D.Disk.images l.server l.disk)
      l.initial.server.state l.incoming l.server.state;
  disk : IsSteady (IsSound l.initial.server.journal) (IsSound l.server.journal) (g.D.Disk.faults l.initial.disk) (g.D.Disk.faults l.disk);
  source_steady : g.I.Source.faults l.conn.source ≡ g.I.Source.faults l.initial.conn.source;
  sink_steady : g.O.Sink.faults l.conn.sink ≡ g.O.Sink.faults l.initial.conn.sink;
  supplied : g.O.Sink.shortages l.conn.sink ≡ g.O.Sink.shortages l.initial.conn.sink;
}

abbrev pub decreases-frames : goal.decreases-frames
decreases-frames g l = bytes_to_come l.incoming (g.I.Source.handed_out l.conn.source)
