use Rattle.std.proofs.Common.{◌≡◌, false, List, [], ◌∷◌, map, nat_eq, subst}
use Rattle.std.specs.List.{AllByRecursion, IsDistinct}
use Rattle.std.specs.Map.{keys_of}
use Rattle.client_registry.specs.IdNumber.{id_number}
use Rattle.client_registry.specs.Registered.{Kept}
use Rattle.client_registry.specs.RegistryView.{kept_entry}
use Rattle.client_registry.specs.declared.doc_id.DocId.{DocId}
use Rattle.client_registry.specs.declared.listed.Listed.{Listed}
use Rattle.client_registry.proofs.registry.Registry.ids.Goals as goal

ids_differ : (es : List (DocId × Listed)) → IsDistinct (λ a b. nat_eq (id_number a) (id_number b)) (keys_of es) → IsDistinct nat_eq (map (λ (k : Kept). k.id) (map kept_entry es))
unfolding IsDistinct
ids_differ [] d = tt
ids_differ (e ∷ es) d = (others e.0 es d.0, ids_differ es d.1)
  where
    others : (id : DocId) (es : List (DocId × Listed)) → AllByRecursion (λ y. nat_eq (id_number id) (id_number y) ≡ false) (keys_of es)
        → AllByRecursion (λ y. nat_eq (id_number id) y ≡ false) (map (λ (k : Kept). k.id) (map kept_entry es))
    others id [] all = tt
    others id (e ∷ es) all = (all.0, others id es all.1)

pub returns-clause-different : goal.returns-clause-different
returns-clause-different c =
    subst (λ v. IsDistinct nat_eq (map (λ (k : Kept). k.id) v.kept)) c.self.view_is (ids_differ c.self.inside.documents.entries c.len.ensures.unique)
