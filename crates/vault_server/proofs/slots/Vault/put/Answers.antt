use Rattle.std.proofs.Common.{◌+◌, ap, ◌∙◌}
use Rattle.std.specs.FinMap as finmap
use Rattle.vault_server.proofs.SlotMaps.{one_put}
use Rattle.vault_server.proofs.slots.Vault.put.Goals as goal

pub returns-clause-ok : goal.returns-clause-ok
returns-clause-ok c = λ i. record {
  slots = (one_put c.self.inside.slots.entries c.insert.new.self.entries c.args.slot.now c.args.held c.in_ok-insert.ensures.updates.0
      ∙ ap (λ v. finmap.insert v.slots c.args.slot.now c.args.held) c.self.view_is) i;
  next = ap (λ v. v.next + 1) c.self.view_is i;
}
