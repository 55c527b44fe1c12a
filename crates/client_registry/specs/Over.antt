-- A value for each item of a list, made from it and the items before it.
use Rattle.std.specs.Prelude.{Bool, List, [], ◌∷◌, ◌++◌, if◌then◌else◌}

-- what f gives of each item and the items before it, beginning with those of the past
abbrev pub over : {A B : Type 0} → (List A → A → B) → List A → List A → List B
over f past [] = []
over f past (x ∷ xs) = f past x ∷ over f (past ++ x ∷ []) xs

-- of the results of these items, those of the items that pass
abbrev pub kept_by : {A B : Type 0} → (A → Bool) → List A → List B → List B
kept_by keep [] rs = []
kept_by keep (x ∷ xs) [] = []
kept_by keep (x ∷ xs) (r ∷ rs) = if keep x then r ∷ kept_by keep xs rs else kept_by keep xs rs
