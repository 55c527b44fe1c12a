-- Eight hash values or blocks side by side. Word k of each of them is in vector k, with a lane for each.
use Rattle.std.specs.Prelude.{ℕ, List, map, slice_index}

-- the words in lane j of vectors, in the order of the vectors
abbrev pub lane : ℕ → List (List ℕ) → List ℕ
lane j vectors = map (λ v. slice_index v j) vectors
