use Rattle.std.proofs.Common.{nat_eq, position, ap, ◌∙◌}
use Rattle.client_registry.specs.IdNumber.{id_number}
use Rattle.client_registry.specs.Registered.{Kept}
use Rattle.client_registry.proofs.RegistryLaws.{entry_place}
use Rattle.client_registry.proofs.registry.Registry.place_of.Goals as goal

pub returns : goal.returns
returns c =
    let id = id_number c.args.id in
    c.get_index_of.ensures.index ∙ entry_place c.self.inside id ∙ ap (λ v. position (λ (k : Kept). nat_eq id k.id) v.kept) c.self.view_is
