use Rattle.std.proofs.Common.{◌<◌, ◌≤◌, length}
use Rattle.keyed_fn.specs.KeyedFn.{keyed_fn}
use Rattle.server_core.specs.Walk.{IsWalk, contents_of}
use Rattle.test_server.proofs.walks.is_walked.Given as goal

-- the page has room for what it begins with, and the walk goes on after that
abbrev pub invariant-loop-page : goal.invariant-loop-page
invariant-loop-page g l = record {
  count : l.count ≤ length l.page;
  some : 0 < length l.page;
  walk : IsWalk (keyed_fn g.K.Keyed.prf g.K.Keyed.pad) (contents_of l.server.state) l.walk;
}
