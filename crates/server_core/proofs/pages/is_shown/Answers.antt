use Rattle.std.proofs.Common.{◌≡◌, not, sym, ap, subst, ◌∙◌}
use Rattle.std.specs.Prelude.{MatchOption}
use Rattle.std.specs.Ordering.{nat_cmp}
use Rattle.std.specs.Cmp.Lexicographic.{slice_cmp}
use Rattle.std.specs.FinSet as set
use Rattle.keyed_fn.specs.KeyedFn.{keyed_fn}
use Rattle.keyed_fn.specs.KeyFormulas.{revocation}
use Rattle.server_core.proofs.pages.is_shown.Goals as goal

-- nothing is revoked
pub returns-in-None : goal.returns-in-None
returns-in-None g c =
    let revoked = (g.T.Tables.contents c.args.tables.now).revoked in
    let none = subst (λ o. MatchOption o (revoked ≡ set.empty) (λ key. key ≡ c.args.token.now.revocation_key)) c.in-None.is c.requires in
    let number = revocation (keyed_fn g.K.Keyed.prf g.K.Keyed.pad) c.args.token.now.revocation_key c.args.id in
    sym (ap not (ap (λ s. set.contains s number) none ∙ set.contains-empty (slice_cmp nat_cmp) number))
