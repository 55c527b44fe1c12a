-- The status of a run and the fault counts of its devices.
use Rattle.std.specs.Prelude.{◌≡◌, ◌≢◌, ◌≤◌, ℕ}
use Rattle.sse_outside.specs.Causes.{Rose}

-- by the counts of faults of source, sink, link and disk, before the run and after it: a device's count rose if the status says that the
-- device failed, and is unchanged otherwise. That of the sink may also rise in the last line. If no last line is due, it is unchanged, and the
-- script was read to its end
pub record TellsDevices (source source' sink sink' link link' disk disk' : ℕ) (read : Type 0) (status : ℕ) : Type 0 where
  pub at_end : status ≤ 1 → read
  pub source_failed : status ≡ 3 → Rose source source'
  pub source_steady : status ≢ 3 → source' ≡ source
  pub sink_failed : status ≡ 4 → Rose sink sink'
  pub sink_steady : status ≤ 1 → sink' ≡ sink
  pub link_failed : status ≡ 5 → Rose link link'
  pub link_steady : status ≢ 5 → link' ≡ link
  pub disk_failed : status ≡ 6 → Rose disk disk'
  pub disk_steady : status ≢ 6 → disk' ≡ disk
