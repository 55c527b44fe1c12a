use Rattle.std.proofs.Common.{◌≡◌}
use Rattle.keyed_fn.specs.KeyedFn.{keyed_fn}
use Rattle.tcp_service.specs.Disks.{IsSteady, StaysClosed}
use Rattle.server_connections.specs.ConnectionSteps.{Progress}
use Rattle.tcp_service.specs.Arrivals.{bytes_to_come}
use Rattle.server_connections.proofs.connection.serve_connection.Given as goal

-- the frames that were answered, what is held behind them, and no fault so far
abbrev pub invariant-frames : goal.invariant-frames
invariant-frames g l = record {
  stands : g.S.Keeps.stands l.store l.disk;
  closed : StaysClosed (g.S.Keeps.closed l.initial.store) (g.S.Keeps.closed l.store) l.initial.disk l.disk;
  progress : Progress (keyed_fn g.K.Keyed.prf g.K.Keyed.pad) (g.I.Source.remaining l.initial.conn.source) (g.I.Source.remaining l.conn.source) (g.O.Sink.written l.initial.conn.sink) (g.O.Sink.written l.conn.sink)
      (g.S.Keeps.lasts l.initial.store l.initial.disk) (g.S.Keeps.lasts l.store l.disk) (g.S.Keeps.state l.initial.store) l.incoming (g.S.Keeps.state l.store);
  disk : IsSteady (g.S.Keeps.sound l.initial.store) (g.S.Keeps.sound l.store) (g.D.Disk.faults l.initial.disk) (g.D.Disk.faults l.disk);
  source_steady : g.I.Source.faults l.conn.source ≡ g.I.Source.faults l.initial.conn.source;
  sink_steady : g.O.Sink.faults l.conn.sink ≡ g.O.Sink.faults l.initial.conn.sink;
  supplied : g.O.Sink.shortages l.conn.sink ≡ g.O.Sink.shortages l.initial.conn.sink;
}

abbrev pub decreases-frames : goal.decreases-frames
decreases-frames g l = bytes_to_come l.incoming (g.I.Source.handed_out l.conn.source)
