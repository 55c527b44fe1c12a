-- A run over a fresh server in the same process.
use Rattle.std.specs.Prelude.{◌≢◌, ◌≤◌, ℕ, List, Some}
use Rattle.def_script_meaning.specs.Carries.{Outside}
use Rattle.def_script_meaning.specs.Headline.{Headline}
use Rattle.def_script_meaning.specs.Meaning.{meaning}
use Rattle.def_script_meaning.specs.Session.{IsFree}
use Rattle.keyed_fn.specs.KeyFormulas.{mark_of}
use Rattle.keyed_fn.specs.KeyedFn.{KeyedFn}
use Rattle.server_core.specs.State.{ServerState, at_first}
use Rattle.client_journal.specs.Shows.{SinkShows}
use Rattle.sse_client.specs.WholeRuns.{IsRun}

-- a whole run by a link that is honest, from a server that has taken nothing: no collision and no reply stopped it, where its history up to
-- its stop has no collision; and where no device and no want of memory did, it did what its script means
pub record IsRunOverServer (f : KeyedFn) (bytes : List ℕ) (now last : Outside) (sink sink' : SinkShows) (state : ServerState) (status : ℕ) : Type 0 where
  pub run : IsRun f bytes now last sink sink' status
  pub stopped : IsFree f run.end.key run.end.history → status ≤ 7
  pub headline : status ≢ 3 → status ≢ 4 → status ≢ 6 → status ≢ 7 → IsFree f (meaning (Some (mark_of f)) bytes).key (meaning (Some (mark_of f)) bytes).history → Headline f at_first (meaning (Some (mark_of f)) bytes) now last status state
