use Rattle.std.proofs.Common.{[], ◌∷◌, map, ap, ◌∙◌}
use Rattle.std.specs.Prelude.{unwrap_or}
use Rattle.std.proofs.lemmas.List.{map-append}
use Rattle.client_registry.specs.IdNumber.{id_number}
use Rattle.leakage_values.proofs.ListedLaws.{lists-one}
use Rattle.leakage_values.proofs.listed.list.Goals as goal

pub returns : goal.returns
returns c =
    lists-one c.args.table.now.entries c.taken-ids.new.table.entries c.insert.new.self.entries c.args.word.now (id_number c.args.id) (map id_number c.taken-ids.result)
    c.taken-ids.ensures.ids c.taken-ids.ensures.others
    (ap (λ o. map id_number (unwrap_or o [])) c.in_ok-insert.ensures.updates.1 ∙ ap (map id_number) c.in_ok-push.ensures.ok ∙ map-append id_number c.taken-ids.result (c.args.id ∷ []))
    (λ w differ. ap (λ o. map id_number (unwrap_or o [])) (c.in_ok-insert.ensures.updates.2 w differ))
