use Rattle.std.proofs.Common.{◌≡◌, sym, ap, ◌∙◌}
use Rattle.std.specs.FinMap as map
use Rattle.std.specs.FinSet as set
use Rattle.std.proofs.lemmas.Result.{on_ok_weaker}
use Rattle.server_tables.specs.Places.{label_set}
use Rattle.server_tables.proofs.TableLemmas.{contains-label_set, label_set-remove, changed_revoked}
use Rattle.server_tables.proofs.flat_tables.FlatTablesTables.restore.Goals as goal

pub returns-clause-ok : goal.returns-clause-ok
returns-clause-ok g c =
    on_ok_weaker c.remove.result (λ is. changed_revoked _ _ _ _ _ _ c.self.view_is (λ s. set.remove s c.args.number.now) _ (ap label_set is ∙ label_set-remove _ c.args.number.now)) c.remove.ensures.ok

pub returns-clause-there : goal.returns-clause-there
returns-clause-there g c =
    let same : set.contains c.args.self.now.contents.revoked c.args.number.now ≡ map.contains_key (g.R.LabelMap.entries c.self.inside.revoked) c.args.number.now =
    ap (λ t. set.contains t.contents.revoked c.args.number.now) (sym c.self.view_is) ∙ contains-label_set _ c.args.number.now in
    (λ ok. same ∙ c.remove.ensures.there.0 ok, λ there. c.remove.ensures.there.1 (sym same ∙ there))
