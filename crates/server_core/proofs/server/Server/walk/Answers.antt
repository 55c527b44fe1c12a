use Rattle.std.proofs.Common.{take, ◌++◌}
use Rattle.server_core.specs.declared.spot.Spot.TheVariants.{Cell}
use Rattle.keyed_fn.specs.KeyedFn.{keyed_fn}
use Rattle.server_core.specs.Walk.{rest_of}
use Rattle.server_core.proofs.SearchLemmas.{All-coming, All-front}
use Rattle.server_core.proofs.server.Server.walk.Goals as goal

-- what is found is above 0, and the page is its front
pub returns-in-Ok-clause-ids : goal.returns-in-Ok-clause-ids
returns-in-Ok-clause-ids g c =
    let f = keyed_fn g.K.Keyed.prf g.K.Keyed.pad in
    let held = g.T.Tables.contents c.self.inside.tables in
    let front = take c.in-Ok.first.count c.first_page.new.page in
    let rest = rest_of f held c.in-Ok.first.walk in
    All-front front rest (All-coming f c.args.token.now held Cell 0 (front ++ rest) c.in-Ok.ensures.first)
