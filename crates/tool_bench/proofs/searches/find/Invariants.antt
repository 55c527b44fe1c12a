use Rattle.std.proofs.Common.{◌<◌, length}
use Rattle.keyed_fn.specs.KeyedFn.{keyed_fn}
use Rattle.server_core.specs.Walk.{IsWalk, contents_of}
use Rattle.tool_bench.proofs.searches.find.Given as goal

-- the walk goes on after the page
abbrev pub invariant-loop-page : goal.invariant-loop-page
invariant-loop-page g l = record {
  some : 0 < length l.page;
  walk : IsWalk (keyed_fn g.K.Keyed.prf g.K.Keyed.pad) (contents_of l.server.state) l.walk;
}
