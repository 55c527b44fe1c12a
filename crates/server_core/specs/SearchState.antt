-- A search that hands out its list piece by piece: its place, and the identifiers still to come from there.
use Rattle.std.specs.Prelude.{ℕ, zero, suc, ◌+◌, ◌*◌, ◌-◌, ◌<◌, ◌≤◌, List, [], ◌∷◌, length, drop, Option, Some, None, option_and_then}
use Rattle.std.specs.Option.{option_map, option_map_or}
use Rattle.std.specs.FinMap as map
use Rattle.std.specs.FinSet as set
use Rattle.two_level.specs.Plan.{CellKind, Identifiers, DataPointers, BlockPointers}
use Rattle.two_level.specs.Opened.{numbers_of, leading, kind_of, joined, followed}
use Rattle.search_token.specs.KeyedFn.{KeyedFn}
use Rattle.search_token.specs.KeyFormulas.{list_label, cell_pad}
use Rattle.search_token.specs.Xored.{xored}
use Rattle.search_token.specs.TokenKeys.{TokenKeys}
use Rattle.server_tables.specs.Contents.{Contents}
use Rattle.server_core.specs.declared.spot.Spot.{Spot}
use Rattle.server_core.specs.declared.spot.Spot.TheVariants.{Cell, Blocks, Added}
use Rattle.server_core.specs.Search.{block_at, setup_ids, added_from, unrevoked}

-- the word's cell, decrypted
abbrev pub cell_at : KeyedFn → TokenKeys → Contents → Option (List ℕ)
cell_at f keys c =
    option_map (λ text. xored text (cell_pad f keys.pad_key (length text))) (map.get c.dictionary (list_label f keys.label_key))

-- the pointers to blocks of identifiers of a cell's numbers, from group `top` on: the numbers of a cell of such
-- pointers are one group, and each block of pointers is one
abbrev pub pointers_in : (block : (number pointer : ℕ) → Option (List ℕ)) → CellKind → (top : ℕ) → (numbers : List ℕ) → Option (List ℕ)
pointers_in block Identifiers top numbers = Some []
pointers_in block DataPointers zero numbers = Some numbers
pointers_in block DataPointers (suc top) numbers = Some []
pointers_in block BlockPointers top numbers = followed block top (drop top numbers)

-- the same after a decrypted cell
abbrev pub pointers_behind : (block : (number pointer : ℕ) → Option (List ℕ)) → (clear : List ℕ) → (top : ℕ) → Option (List ℕ)
pointers_behind block [] top = None
pointers_behind block (kind ∷ bytes) top =
    option_and_then (λ k. option_and_then (pointers_in block k top) (leading (numbers_of bytes))) (kind_of kind)

-- the same of the word's list: none where the word's label is missing
abbrev pub pointers_from : KeyedFn → TokenKeys → Contents → (top : ℕ) → Option (List ℕ)
pointers_from f keys c top = option_map_or (λ clear. pointers_behind (block_at f keys c.array) clear top) (cell_at f keys c) (Some [])

-- the word's additions from counter n on
abbrev pub additions_from : KeyedFn → TokenKeys → Contents → (n : ℕ) → Option (List ℕ)
additions_from f keys c n = added_from f keys (map.get c.additions) n (map.len c.additions - n)

-- the identifiers from here on, the revoked ones too; None where what is opened on the way is no list
abbrev pub ids_from : KeyedFn → TokenKeys → Contents → Spot → Option (List ℕ)
ids_from f keys c Cell = joined (setup_ids f keys (map.get c.dictionary) c.array) (additions_from f keys c 0)
ids_from f keys c (Blocks top at number) =
    joined (option_and_then (λ pointers. followed (block_at f keys c.array) number (drop at pointers)) (pointers_from f keys c top)) (additions_from f keys c 0)
ids_from f keys c (Added n) = additions_from f keys c n

-- what a search still gives that stands here and has passed so many identifiers of this place
abbrev pub coming : KeyedFn → TokenKeys → Contents → Spot → (within : ℕ) → Option (List ℕ)
coming f keys c spot within = option_map (λ ids. unrevoked f keys (set.contains c.revoked) (drop within ids)) (ids_from f keys c spot)

-- the numbers of a block that the code counts fit 32 bits
abbrev pub InRange : Spot → Type 0
InRange Cell = Unit {0}
InRange (Blocks top at number) = (top < 64) × (at ≤ 256) × (number ≤ 64 + 256 * top + at)
InRange (Added n) = Unit {0}

-- how many steps a search from here takes at most, with so many additions
abbrev pub steps_from : (additions : ℕ) → Spot → ℕ
steps_from n Cell = 20000 + n
steps_from n (Blocks top at number) = (63 - top) * 258 + (257 - at) + 1 + n
steps_from n (Added c) = n - c
