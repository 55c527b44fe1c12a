use Rattle.std.proofs.Common.{◌+◌, ap, ◌∙◌}
use Rattle.std.specs.FinMap as finmap
use Rattle.vault_server.proofs.SlotMaps.{one_emptied}
use Rattle.vault_server.proofs.slots.Vault.empty.Goals as goal

pub returns : goal.returns
returns c = λ i. record {
  slots = (one_emptied c.self.inside.slots.entries c.remove.new.self.entries c.args.slot.now c.remove.ensures.updates.0
      ∙ ap (λ v. finmap.remove v.slots c.args.slot.now) c.self.view_is) i;
  next = ap (λ v. v.next + 1) c.self.view_is i;
}
