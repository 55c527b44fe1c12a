-- The meaning of a pair in a word's table.
use Rattle.std.specs.Prelude.{ℕ, ◌-◌, List, [], ◌∷◌, map, option_map}
use Rattle.std.specs.List.{range_with_len}
use Rattle.client_registry.specs.IdNumber.{id_number}
use Rattle.client_registry.specs.declared.doc_id.DocId.{DocId}
use Rattle.leakage_frames.specs.Views.{origin_view}
use Rattle.sse_simulator.specs.Leaks.{Home, ListedLeak}
use Rattle.leakage_model.specs.declared.pair.Pair.{Pair}
use Rattle.leakage_model.specs.declared.pair.HomeAt.{HomeAt}

-- a pair with this identifier
abbrev pub pair_with : ℕ → Pair → ListedLeak
pair_with id p = record { id = id; origin = origin_view p.origin; number = option_map origin_view p.number; revoked = p.revoked }

-- a pair, by its identifier
abbrev pub pair_view : DocId × Pair → ListedLeak
pair_view e = pair_with (id_number e.0) e.1

-- pairs with the identifiers at their places
abbrev pub pairs_beside : List ℕ → List Pair → List ListedLeak
pairs_beside [] pairs = []
pairs_beside (id ∷ ids) [] = []
pairs_beside (id ∷ ids) (p ∷ pairs) = pair_with id p ∷ pairs_beside ids pairs

-- the pairs of a table
abbrev pub pairs_in : List (DocId × Pair) → List ListedLeak
pairs_in entries = map pair_view entries

-- the entry of a word, and the positions of its blocks
abbrev pub home_view : HomeAt → Home
home_view home = record { entry = home.entry; blocks = range_with_len home.first (home.end - home.first) }
