use Rattle.std.proofs.Common.{map, sym, ap, ◌∙◌}
use Rattle.std.specs.Prelude.{option_map, slice_get}
use Rattle.std.specs.Map.Iter.{deref_pair}
use Rattle.std.proofs.lemmas.Option.{slice_get-map}
use Rattle.client_registry.specs.Registered.{Kept}
use Rattle.client_registry.specs.RegistryView.{kept_entry}
use Rattle.client_registry.proofs.registry.Registry.id_at.Goals as goal

pub returns : goal.returns
returns c =
    let es = c.self.inside.documents.entries in
    let at = sym c.get_index.ensures.entry ∙ ap (option_map deref_pair) c.unwrap.ensures in
    ap (λ v. slice_get (map (λ (k : Kept). k.id) v.kept) c.args.place) (sym c.self.view_is)
    ∙ slice_get-map (λ (k : Kept). k.id) (map kept_entry es) c.args.place
    ∙ ap (option_map (λ (k : Kept). k.id)) (slice_get-map kept_entry es c.args.place ∙ ap (option_map kept_entry) at)
