-- Equal keys have the same bytes.
use Rattle.std.specs.Prelude.{◌≡◌, [], ◌∷◌, IsTrue, nat_eq}
use Rattle.std.proofs.Common.{ap, refl}
use Rattle.std.proofs.lemmas.Slice.Eq.{slice_eq-Decides}
use Rattle.std.proofs.lemmas.Bool.Decides.{Decides-eqb}
use Rattle.std.specs.Cmp.Lexicographic.{pointwise}
use Rattle.server_tables.specs.declared.key.Key.{Key}

pub same_bytes : (x y : Key) → IsTrue (pointwise nat_eq x.0 y.0) → x.0 ∷ [] ≡ y.0 ∷ []
same_bytes x y same = ap (λ bytes. bytes ∷ []) ((slice_eq-Decides Decides-eqb x.0 y.0 _ refl).0 same)
