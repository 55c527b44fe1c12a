-- What a walk gives.
use Rattle.std.proofs.Common.{◌<◌}
use Rattle.std.specs.Prelude.{All}
use Rattle.keyed_fn.specs.KeyedFn.{KeyedFn}
use Rattle.server_tables.specs.Contents.{Contents}
use Rattle.server_core.specs.declared.walk.Walk.{Walk}
use Rattle.server_core.specs.Walk.{IsWalk, rest_of}
use Rattle.server_core.proofs.SearchLemmas.{All-coming}

-- each identifier that a walk still gives is above 0
pub All-rest_of : (f : KeyedFn) (c : Contents) (walk : Walk) → IsWalk f c walk → All (λ id. 0 < id) (rest_of f c walk)
All-rest_of f c walk is = All-coming f walk.token c walk.spot walk.within (rest_of f c walk) is.come
