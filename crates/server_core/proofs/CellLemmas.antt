-- What a server's tables keep: that each label has a cell.
use Rattle.std.proofs.Common.{◌≡◌, ℕ, suc, Bool, true, false, cond, List, [], length, Option, Some, None, sym, ap, subst, ◌∙◌, arith}
use Rattle.std.specs.Option.{ForSome}
use Rattle.std.specs.Ordering.{eq_by_cmp, nat_cmp}
use Rattle.std.specs.Cmp.Lexicographic.{slice_cmp}
use Rattle.std.specs.FinMap as map
use Rattle.std.proofs.lemmas.Cmp.{nat_list_cmp_total}
use Rattle.server_tables.specs.Contents.{CellMap, Contents, no_contents}
use Rattle.server_tables.specs.Room.{Room, no_room, pieces, of_entry, of_block, of_addition, of_number, HasRoom, Spends}
use Rattle.server_core.specs.Holds.{IsCell, HasCells, IsBlock, AreBlocks, IsHeld}
use Rattle.std.proofs.lemmas.List.Elements.{All-nil}
use Rattle.std.proofs.lemmas.Option.{slice_get_within, get_or_from_slice_get}
use Rattle.std.specs.List.{slice_get, All}

either : (b : Bool) (cell : List ℕ) (o : Option (List ℕ)) → IsCell cell → ForSome o IsCell → ForSome (cond b (Some cell) o) IsCell
either true cell o new old = λ x is. let same : cell ≡ x = cc in subst IsCell same new
either false cell o new old = old

-- one cell more
pub HasCells-insert : (m : CellMap) (label cell : List ℕ) → HasCells m → IsCell cell → HasCells (map.insert m label cell)
HasCells-insert m label cell old new = record {
  each = λ q. subst (λ o. ForSome o IsCell) (sym (map.get-insert nat_list_cmp_total m label cell q)) (either (eq_by_cmp (slice_cmp nat_cmp) q label) cell (map.get m q) new (old.each q));
}

no_cell : {X : Type 0} (x : X) → None ≡ Some x → ⊥
no_cell x e = cc

-- a block of the array is one
pub IsBlock-at : (array : List (List ℕ)) (place : ℕ) (block : List ℕ) → AreBlocks array → Some block ≡ slice_get array place → IsBlock block
IsBlock-at array place block all there = subst IsBlock (get_or_from_slice_get array place block [] (sym there)) (all.each place [] (slice_get_within array place block (sym there)))

-- tables of nothing keep it
pub IsHeld-no_contents : (c : Contents) → c ≡ no_contents → IsHeld c
IsHeld-no_contents c is = record {
  cells = record { each = λ q cell there. absurd (no_cell cell (sym (map.get-empty (slice_cmp nat_cmp) q) ∙ sym (ap (λ t. map.get t.dictionary q) is) ∙ there)) };
  blocks = record { each = subst (All IsBlock) (sym (ap (λ t. t.array) is)) (All-nil IsBlock); few = omega (arith, ap (λ t. length t.array) is) };
}

-- where there was room for some cells or blocks of one size, one less is left behind each
pub room_left : (old new : Room) (n width size : ℕ) → HasRoom old (record no_room { entries = pieces (suc n) width }) → Spends old new (of_entry size) → size ≡ width → HasRoom new (record no_room { entries = pieces n width })
room_left old new n width size has spent same = record {
  entries = record { calls = omega (arith, has.entries.calls, spent.entries.calls); bytes = omega (arith, has.entries.bytes, spent.entries.bytes, same) };
  blocks = record { calls = omega arith; bytes = omega arith };
  additions = record { calls = omega arith; bytes = omega arith };
  revoked = record { calls = omega arith; bytes = omega arith };
}

pub block_room_left : (old new : Room) (n width size : ℕ) → HasRoom old (record no_room { blocks = pieces (suc n) width }) → Spends old new (of_block size) → size ≡ width → HasRoom new (record no_room { blocks = pieces n width })
block_room_left old new n width size has spent same = record {
  entries = record { calls = omega arith; bytes = omega arith };
  blocks = record { calls = omega (arith, has.blocks.calls, spent.blocks.calls); bytes = omega (arith, has.blocks.bytes, spent.blocks.bytes, same) };
  additions = record { calls = omega arith; bytes = omega arith };
  revoked = record { calls = omega arith; bytes = omega arith };
}

-- the same of additions, and of numbers
pub addition_room_left : (old new : Room) (n : ℕ) → HasRoom old (record no_room { additions = pieces (suc n) 8 }) → Spends old new of_addition → HasRoom new (record no_room { additions = pieces n 8 })
addition_room_left old new n has spent = record {
  entries = record { calls = omega arith; bytes = omega arith };
  blocks = record { calls = omega arith; bytes = omega arith };
  additions = record { calls = omega (arith, has.additions.calls, spent.additions.calls); bytes = omega (arith, has.additions.bytes, spent.additions.bytes) };
  revoked = record { calls = omega arith; bytes = omega arith };
}

pub number_room_left : (old new : Room) (n : ℕ) → HasRoom old (record no_room { revoked = pieces (suc n) 16 }) → Spends old new of_number → HasRoom new (record no_room { revoked = pieces n 16 })
number_room_left old new n has spent = record {
  entries = record { calls = omega arith; bytes = omega arith };
  blocks = record { calls = omega arith; bytes = omega arith };
  additions = record { calls = omega arith; bytes = omega arith };
  revoked = record { calls = omega (arith, has.revoked.calls, spent.revoked.calls); bytes = omega (arith, has.revoked.bytes, spent.revoked.bytes) };
}
