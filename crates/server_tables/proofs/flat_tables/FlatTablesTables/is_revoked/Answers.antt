use Rattle.std.proofs.Common.{sym, ap, ◌∙◌}
use Rattle.std.specs.Option.{is_some}
use Rattle.std.specs.FinSet as set
use Rattle.server_tables.proofs.TableLemmas.{contains-label_set}
use Rattle.server_tables.proofs.flat_tables.FlatTablesTables.is_revoked.Goals as goal

pub returns : goal.returns
returns g c =
    c.is_some.ensures ∙ ap is_some c.get.ensures ∙ sym (contains-label_set _ c.args.number.now) ∙ ap (λ t. set.contains t.contents.revoked c.args.number.now) c.self.view_is
