use Rattle.std.proofs.Common.{◌≡◌, false, sym, ap, ◌∙◌, arith}
use Rattle.std.specs.FinMap as map
use Rattle.std.specs.FinSet as set
use Rattle.std.proofs.lemmas.Result.{on_ok_weaker}
use Rattle.server_tables.specs.Places.{label_set}
use Rattle.server_tables.proofs.TableLemmas.{contains-label_set, label_set-insert, changed_revoked, is_absent}
use Rattle.server_tables.proofs.flat_tables.FlatTablesTables.revoke.Goals as goal

pub returns-clause-ok : goal.returns-clause-ok
returns-clause-ok g c =
    on_ok_weaker c.insert.result (λ is. changed_revoked _ _ _ _ _ _ c.self.view_is (λ s. set.insert s c.args.number.now) _ (ap label_set is ∙ label_set-insert _ c.args.number.now)) c.insert.ensures.ok

pub returns-clause-taken : goal.returns-clause-taken
returns-clause-taken g c =
    let same : set.contains c.args.self.now.contents.revoked c.args.number.now ≡ map.contains_key (g.R.LabelMap.entries c.self.inside.revoked) c.args.number.now =
    ap (λ t. set.contains t.contents.revoked c.args.number.now) (sym c.self.view_is) ∙ contains-label_set _ c.args.number.now in
    (λ taken. same ∙ c.insert.ensures.taken.0 taken, λ there. c.insert.ensures.taken.1 (sym same ∙ there))

pub returns-clause-has_room : goal.returns-clause-has_room
returns-clause-has_room g c = λ room absent.
    let none : map.contains_key (g.R.LabelMap.entries c.self.inside.revoked) c.args.number.now ≡ false =
    sym (contains-label_set _ c.args.number.now) ∙ ap (λ t. set.contains t.contents.revoked c.args.number.now) c.self.view_is ∙ absent in
    c.insert.ensures.has_room (omega (arith, room.revoked.calls, ap (λ t. t.room.revoked.calls) c.self.view_is)) (is_absent _ none)
