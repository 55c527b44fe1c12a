-- Lists packed by hand.
use Rattle.std.proofs.Common.{◌≡◌, ℕ, [], ◌∷◌, refl}
use Rattle.list_packing.specs.Parts.{parts, filled, blocks}

pub parts_row : parts {X = ℕ} 2 (1 ∷ 2 ∷ 3 ∷ 4 ∷ 5 ∷ []) ≡ (1 ∷ 2 ∷ []) ∷ (3 ∷ 4 ∷ []) ∷ (5 ∷ []) ∷ []
parts_row = refl

pub whole_parts_row : parts {X = ℕ} 2 (1 ∷ 2 ∷ 3 ∷ 4 ∷ []) ≡ (1 ∷ 2 ∷ []) ∷ (3 ∷ 4 ∷ []) ∷ []
whole_parts_row = refl

pub no_parts_row : parts {X = ℕ} 2 [] ≡ []
no_parts_row = refl

pub filled_row : filled 4 (7 ∷ 9 ∷ []) ≡ 7 ∷ 9 ∷ 0 ∷ 0 ∷ []
filled_row = refl

pub blocks_row : blocks 2 (1 ∷ 2 ∷ 3 ∷ 4 ∷ 5 ∷ []) ≡ (1 ∷ 2 ∷ []) ∷ (3 ∷ 4 ∷ []) ∷ (5 ∷ 0 ∷ []) ∷ []
blocks_row = refl
