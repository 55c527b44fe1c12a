use Rattle.std.proofs.Common.{◌≡◌, ◌<◌, ◌++◌, length, take}
use Rattle.std.specs.List.{All}
use Rattle.keyed_fn.specs.KeyedFn.{keyed_fn}
use Rattle.server_core.specs.Walk.{contents_of, rest_of, IsWalk}
use Rattle.world_server.proofs.gather.gather.Given as goal

abbrev pub invariant-pages : goal.invariant-pages
invariant-pages g l = record {
  walk : IsWalk (keyed_fn g.K.Keyed.prf g.K.Keyed.pad) (contents_of l.store.state) l.rest;
  all : l.ids.items ++ rest_of (keyed_fn g.K.Keyed.prf g.K.Keyed.pad) (contents_of l.store.state) l.rest ≡ take l.fn.count l.fn.page ++ rest_of (keyed_fn g.K.Keyed.prf g.K.Keyed.pad) (contents_of l.store.state) l.fn.walk;
  some_ids : All (λ id. 0 < id) l.ids.items;
  long : length l.page ≡ length l.fn.page;
}

abbrev pub decreases-pages : goal.decreases-pages
decreases-pages g l = length (rest_of (keyed_fn g.K.Keyed.prf g.K.Keyed.pad) (contents_of l.store.state) l.rest)
