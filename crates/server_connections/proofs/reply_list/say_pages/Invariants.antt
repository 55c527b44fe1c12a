use Rattle.std.proofs.Common.{◌≡◌, ◌++◌, length, take}
use Rattle.keyed_fn.specs.KeyedFn.{keyed_fn}
use Rattle.sse_frames.specs.SentParts.{pages}
use Rattle.server_core.specs.Walk.{HasPage, contents_of, rest_of}
use Rattle.server_connections.specs.RepliesLeft.{IsSaying}
use Rattle.server_connections.specs.Turns.{bytes_of}
use Rattle.server_connections.proofs.reply_list.say_pages.Given as goal

-- the pages that were written, and those from the one in front on
abbrev pub invariant-pages : goal.invariant-pages
invariant-pages g l = record {
  begun : HasPage (keyed_fn g.K.Keyed.prf g.K.Keyed.pad) (contents_of (g.S.Keeps.state l.store)) l.count l.walk l.page;
  long : length l.page ≡ 8192;
  long_room : length l.room ≡ length l.initial.room;
  saying : IsSaying (g.W.Sink.written l.initial.sink) (g.W.Sink.written l.sink)
      (bytes_of (pages (take l.fn.first.count l.fn.page ++ rest_of (keyed_fn g.K.Keyed.prf g.K.Keyed.pad) (contents_of (g.S.Keeps.state l.store)) l.fn.first.walk)))
      (bytes_of (pages (take l.count l.page ++ rest_of (keyed_fn g.K.Keyed.prf g.K.Keyed.pad) (contents_of (g.S.Keeps.state l.store)) l.walk)));
  steady : g.W.Sink.faults l.sink ≡ g.W.Sink.faults l.initial.sink;
  supplied : g.W.Sink.shortages l.sink ≡ g.W.Sink.shortages l.initial.sink;
}

abbrev pub decreases-pages : goal.decreases-pages
decreases-pages g l = length (rest_of (keyed_fn g.K.Keyed.prf g.K.Keyed.pad) (contents_of (g.S.Keeps.state l.store)) l.walk)
