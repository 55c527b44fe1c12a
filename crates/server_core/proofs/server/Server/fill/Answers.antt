use Rattle.std.proofs.Common.{◌≡◌, ◌<◌, All, take, sym, ap, subst}
use Rattle.keyed_fn.specs.KeyedFn.{keyed_fn}
use Rattle.server_core.specs.Walk.{IsWalk, rest_of, contents_of}
use Rattle.server_core.proofs.SearchLemmas.{All-front}
use Rattle.server_core.proofs.WalkLaws.{All-rest_of}
use Rattle.server_core.proofs.server.Server.fill.Goals as goal

-- what comes is above 0, and the page is its front
pub returns-clause-ids : goal.returns-clause-ids
returns-clause-ids g c =
    let f = keyed_fn g.K.Keyed.prf g.K.Keyed.pad in
    let held = g.T.Tables.contents c.self.inside.tables in
    let same : held ≡ contents_of c.args.self.now.state = ap (λ v. contents_of v.state) c.self.view_is in
    let is = subst (λ t. IsWalk f t c.args.walk.now) (sym same) c.requires.walk in
    All-front (take c.next_page.result c.next_page.new.page) (rest_of f held c.next_page.new.walk) (subst (λ xs. All (λ id. 0 < id) xs) c.next_page.ensures.handed (All-rest_of f held c.args.walk.now is))
