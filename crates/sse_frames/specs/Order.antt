-- The order in which entries, blocks and revocation numbers are sent.
use Rattle.std.specs.Prelude.{ℕ, Bool, List, [], ◌∷◌, if◌then◌else◌}
use Rattle.std.specs.Ordering.{nat_cmp, is_lt}
use Rattle.std.specs.Cmp.Lexicographic.{slice_cmp}

-- whether the first key is below the second, at the first byte in which they differ
abbrev pub is_below : List ℕ → List ℕ → Bool
is_below x y = is_lt (slice_cmp nat_cmp x y)

-- an item put in front of the first whose key isn't below its own
abbrev pub insert_by : {X : Type 0} → (X → List ℕ) → X → List X → List X
insert_by key x [] = x ∷ []
insert_by key x (y ∷ ys) = if is_below (key y) (key x) then y ∷ insert_by key x ys else x ∷ y ∷ ys

-- the items by rising key; those with equal keys stay in their order
abbrev pub by_bytes : {X : Type 0} → (X → List ℕ) → List X → List X
by_bytes key [] = []
by_bytes key (x ∷ xs) = insert_by key x (by_bytes key xs)
