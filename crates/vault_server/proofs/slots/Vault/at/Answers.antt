use Rattle.std.proofs.Common.{ap, sym, ◌∙◌}
use Rattle.std.specs.FinMap as finmap
use Rattle.vault_server.proofs.SlotMaps.{get_slot, lent_copied}
use Rattle.vault_server.proofs.slots.Vault.at.Goals as goal

pub returns : goal.returns
returns c =
    lent_copied c.get.result
    ∙ c.get.ensures.value
    ∙ sym (get_slot c.self.inside.slots.entries c.args.slot.now)
    ∙ ap (λ v. finmap.get v.slots c.args.slot.now) c.self.view_is
