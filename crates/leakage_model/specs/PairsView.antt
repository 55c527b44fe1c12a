-- The meaning of the fields of a word's pairs, and which of them are found by halving.
use Rattle.std.specs.Prelude.{◌≡◌, ◌-◌, ◌<◌, ℕ, ◌++◌, List, true, false, length, nat_eq, slice_index}
use Rattle.std.specs.List.{list_any}
use Rattle.std.specs.List.Sorted.{IsStrictlyIncreasing}
use Rattle.sse_simulator.specs.Leaks.{ListedLeak}
use Rattle.leakage_model.specs.Pairs.{pairs_beside, pairs_in}
use Rattle.leakage_model.specs.WordFacts.{lists}
use Rattle.leakage_model.specs.declared.pairs.Pairs.TheInside.{Inside}

-- what contracts see of them: the pairs up to the first whose identifier isn't greater than the one before it, then the others
abbrev pub pairs_of : Inside → List ListedLeak
pairs_of w = pairs_beside w.ids.items w.front.items ++ pairs_in w.rest.entries

-- the first identifiers rise to the last, each has its pair, and none of them is that of another pair
pub record AreInOrder (w : Inside) : Type 0 where
  pub rising : IsStrictlyIncreasing w.ids.items
  pub beside : length w.front.items ≡ length w.ids.items
  pub last : 0 < length w.ids.items → slice_index w.ids.items (length w.ids.items - 1) ≡ w.last
  pub apart : (id : ℕ) → list_any (nat_eq id) w.ids.items ≡ true → lists id (pairs_in w.rest.entries) ≡ false
