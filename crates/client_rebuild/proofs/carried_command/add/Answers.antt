use Rattle.std.proofs.Common.{◌-◌, ◌^◌, sym, ap, subst, ◌∙◌}
use Rattle.client_registry.specs.Facts.{Facts}
use Rattle.client_registry.specs.Registered.{facts}
use Rattle.client_rebuild.proofs.LastLaws.{has_counters-counted}
use Rattle.client_rebuild.specs.Updates.{AreCounted}
use Rattle.client_rebuild.proofs.carried_command.add.Goals as goal

pub add_numbered-requires-clause-dead : goal.add_numbered-requires-clause-dead
add_numbered-requires-clause-dead c = ap (λ (x : Facts). x.live c.args.doc.now.id) c.reserve_numbered.ensures.facts ∙ c.requires.dead

pub add_numbered-requires-clause-counters : goal.add_numbered-requires-clause-counters
add_numbered-requires-clause-counters c =
    has_counters-counted (facts c.reserve_numbered.new.self) c.args.doc.now
    (subst (λ (x : Facts). AreCounted x (2 ^ 32 - 1)) (sym c.reserve_numbered.ensures.facts) c.requires.counted)
