use Rattle.std.proofs.Common.{refl}
use Rattle.keyed_fn.specs.KeyedFn.{keyed_fn}
use Rattle.sse_owners.proofs.LastingOwners.{chosen_taken}
use Rattle.server_connections.proofs.OwnerServings.{served_owner, refused_owner, cut_head, cut-source, cut-sink, cut-disk}
use Rattle.server_connections.proofs.owner_connection.serve_owner.Goals as goal

pub returns-in-Ok-choose-clause-served : goal.returns-in-Ok-choose-clause-served
returns-in-Ok-choose-clause-served g c frames is =
    served_owner (keyed_fn g.K.Keyed.prf g.K.Keyed.pad) c.args.owners.now c.choose.new.self c.serve_connection.new.store c.in-Ok.owner
    (g.I.Source.remaining c.args.conn.now.source) (g.I.Source.remaining c.read_owner.new.source) (g.I.Source.remaining c.serve_connection.new.conn.source) (g.O.Sink.written c.args.conn.now.sink) (g.O.Sink.written c.serve_connection.new.conn.sink)
    (g.D.Disk.content c.args.disk.now) (g.D.Disk.content c.serve_connection.new.disk) (g.D.Disk.images c.args.disk.now) (g.D.Disk.images c.serve_connection.new.disk) frames
    c.serve_connection.result c.choose.ensures.others.0 c.in-Ok-choose.ensures.chosen c.in-Ok.ensures.short c.in-Ok-choose.ensures.known c.in-Ok.ensures.owner
    (chosen_taken frames c.args.owners.now c.choose.new.self (g.D.Disk.content c.args.disk.now) (g.D.Disk.images c.args.disk.now) c.in-Ok-choose.ensures.within c.choose.ensures.others is)
    c.serve_connection.ensures.connection

pub returns-in-Err-choose-clause-served : goal.returns-in-Err-choose-clause-served
returns-in-Err-choose-clause-served g c frames is =
    refused_owner (keyed_fn g.K.Keyed.prf g.K.Keyed.pad) c.args.owners.now c.choose.new.self c.in-Ok.owner
    (g.I.Source.remaining c.args.conn.now.source) (g.I.Source.remaining c.read_owner.new.source) (g.O.Sink.written c.args.conn.now.sink) (g.O.Sink.written c.refuse_owner.new.sink)
    (g.D.Disk.content c.args.disk.now) (g.D.Disk.images c.args.disk.now) frames
    c.refuse_owner.result c.in-Err-choose.ensures.unchanged c.in-Ok.ensures.short (c.in-Err-choose.ensures.unknown.0 refl) c.in-Ok.ensures.owner c.refuse_owner.ensures.refused is

pub returns-in-Err-clause-served : goal.returns-in-Err-clause-served
returns-in-Err-clause-served g c frames is =
    cut_head (keyed_fn g.K.Keyed.prf g.K.Keyed.pad) c.args.owners.now c.args.owners.now 0
    (g.I.Source.remaining c.args.conn.now.source) (g.I.Source.remaining c.read_owner.new.source) (g.O.Sink.written c.args.conn.now.sink) (g.O.Sink.written c.args.conn.now.sink)
    (g.D.Disk.content c.args.disk.now) (g.D.Disk.images c.args.disk.now) frames c.in-Err.end _ _ c.in-Err.ensures.cut is

pub returns-in-Err-clause-disk_cause : goal.returns-in-Err-clause-disk_cause
returns-in-Err-clause-disk_cause g c = cut-disk _ _ _ _ _ c.in-Err.end _ (g.D.Disk.faults c.args.disk.now) c.in-Err.ensures.cut

pub returns-in-Err-clause-source_cause : goal.returns-in-Err-clause-source_cause
returns-in-Err-clause-source_cause g c = cut-source _ _ _ _ _ c.in-Err.end c.in-Err.ensures.cut

pub returns-in-Err-clause-sink_cause : goal.returns-in-Err-clause-sink_cause
returns-in-Err-clause-sink_cause g c = cut-sink _ _ _ _ _ c.in-Err.end (g.O.Sink.faults c.args.conn.now.sink) (g.O.Sink.shortages c.args.conn.now.sink) c.in-Err.ensures.cut
