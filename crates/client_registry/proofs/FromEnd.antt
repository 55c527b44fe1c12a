use Rattle.std.proofs.Common.{List, [], ◌∷◌, ◌++◌, sym, subst, append_assoc}
use Rattle.std.proofs.lemmas.List.{append-nil}

-- what holds of the empty list, and of a list with one more after where it holds of the list, holds of each
pub from_end : {A : Type 0} (P : List A → Type 0) → P [] → ((xs : List A) (x : A) → P xs → P (xs ++ x ∷ [])) → (xs : List A) → P xs
from_end {A} P nil push xs = go [] xs nil
  where
    go : (done rest : List A) → P done → P (done ++ rest)
    go done [] p = subst P (sym (append-nil done)) p
    go done (x ∷ rest) p = subst P (append_assoc done (x ∷ []) rest) (go (done ++ x ∷ []) rest (push done x p))
