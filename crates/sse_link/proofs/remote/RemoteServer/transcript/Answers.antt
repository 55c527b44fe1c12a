use Rattle.std.proofs.Common.{map}
use Rattle.keyed_fn.specs.KeyedFn.{keyed_fn}
use Rattle.sse_frames.specs.Replies.{reply_bytes}
use Rattle.sse_link.specs.Due.{waiting}
use Rattle.sse_link.specs.Recorded.{recorded}
use Rattle.sse_link.specs.LinkStates.{LinkState}
use Rattle.sse_link.proofs.Stored.{IsStored-has}
use Rattle.sse_link.proofs.remote.RemoteServer.transcript.Goals as goal

-- the file is that of the store
pub returns-clause-stored : goal.returns-clause-stored
returns-clause-stored g c =
    let f = keyed_fn g.K.Keyed.prf g.K.Keyed.pad in
    let inside = c.self.inside in
    let now : LinkState = record {
      events = recorded inside.passed;
      began = inside.began.value.state;
      began_file = g.D.Disk.content inside.began_disk.value;
      state = inside.store.state;
      file = g.D.Disk.content inside.disk;
      due = map reply_bytes (waiting f inside.store.state inside.due inside.page);
    } in
    rw (← c.self.view_is) (IsStored-has f now inside.store (g.D.Disk.images inside.disk) c.self.invariant.stored)
