-- Values of which no two are equal, in order, rise.
use Rattle.std.proofs.Common.{◌≡◌, ℕ, List, map, None, sym, subst}
use Rattle.std.specs.Prelude.{bytes_eq}
use Rattle.std.specs.List.{IsDistinct}
use Rattle.std.proofs.lemmas.List.{map-id}
use Rattle.client_registry.specs.FirstClash.{first_clash}
use Rattle.client_registry.proofs.DistinctLaws.{IsDistinct-first_clash}
use Rattle.sse_frames.proofs.Sorted.{AllDiffer, Rises-by_bytes}
use Rattle.sse_frames.specs.Frames.{Rises}
use Rattle.sse_frames.specs.Order.{by_bytes}
use Rattle.sse_model.proofs.SealedEntries.{AllDiffer-words}

AllDiffer-distinct : (values : List (List ℕ)) → IsDistinct bytes_eq values → AllDiffer values
AllDiffer-distinct values distinct = subst AllDiffer (map-id values) (AllDiffer-words (λ value. value) values distinct (λ v w here there same. same))

pub Rises-sorted : {X : Type 0} (key : X → List ℕ) (xs ys : List X) → ys ≡ by_bytes key xs → IsDistinct bytes_eq (map key xs) → Rises (map key ys)
Rises-sorted key xs ys sorted distinct = subst (λ zs. Rises (map key zs)) (sym sorted) (Rises-by_bytes key xs (AllDiffer-distinct (map key xs) distinct))

pub Rises-numbers : (xs ys : List (List ℕ)) → ys ≡ by_bytes (λ number. number) xs → first_clash xs ≡ None → Rises ys
Rises-numbers xs ys sorted none =
    subst Rises (map-id ys) (Rises-sorted (λ number. number) xs ys sorted (subst (IsDistinct bytes_eq) (sym (map-id xs)) (IsDistinct-first_clash xs none)))
