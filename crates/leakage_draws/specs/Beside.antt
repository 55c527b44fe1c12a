-- Two lists taken together.
use Rattle.std.specs.Prelude.{List, [], ◌∷◌}

-- what is made of each two items at one place, as far as both lists go
abbrev pub beside : {A B X : Type 0} → (A → B → X) → List A → List B → List X
beside f [] ys = []
beside f (x ∷ xs) [] = []
beside f (x ∷ xs) (y ∷ ys) = f x y ∷ beside f xs ys
