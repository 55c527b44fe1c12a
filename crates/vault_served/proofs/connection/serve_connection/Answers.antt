use Rattle.std.proofs.Common.{◌∙◌}
use Rattle.tcp_service.proofs.DiskCauses.{ends-after, steady-steady, StaysClosed-then}
use Rattle.vault_served.proofs.connection.serve_connection.Goals as goal

-- the disk over the frames before, and then over the last step
pub returns-in-Err-clause-disk_cause : goal.returns-in-Err-clause-disk_cause
returns-in-Err-clause-disk_cause g c = ends-after _ _ _ _ _ _ c.in-Err.end c.frames.invariant.disk c.in-Err.ensures.disk_cause

pub returns-in-Err-clause-closed : goal.returns-in-Err-clause-closed
returns-in-Err-clause-closed g c = StaysClosed-then _ _ _ _ _ _ c.frames.invariant.closed c.advance.ensures.closed

pub frames-preserved : goal.frames-preserved
frames-preserved g c =
    let now = c.frames.invariant in
    record {
      within = c.advance.ensures.within;
      closed = StaysClosed-then _ _ _ _ _ _ now.closed c.advance.ensures.closed;
      progress = c.in-Ok.ensures.goes _ _ _ _ now.progress;
      disk = steady-steady _ _ _ _ _ _ now.disk c.in-Ok.ensures.disk_cause;
      source_steady = c.in-Ok.ensures.source_cause ∙ now.source_steady;
      sink_steady = c.in-Ok.ensures.sink_cause.0 ∙ now.sink_steady;
      supplied = c.in-Ok.ensures.sink_cause.1 ∙ now.supplied;
    }
