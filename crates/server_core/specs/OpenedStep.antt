-- The lists that a step of a search has opened.
use Rattle.std.specs.Prelude.{◌≡◌, ℕ, ◌+◌, ◌<◌, ◌≤◌, Bool, true, false, List, [], ◌∷◌, take, Some, None}
use Rattle.two_level.specs.Opened.{numbers_of, leading, joined}
use Rattle.search_token.specs.KeyedFn.{KeyedFn}
use Rattle.search_token.specs.TokenKeys.{TokenKeys}
use Rattle.server_tables.specs.Contents.{Contents}
use Rattle.server_core.specs.declared.spot.Spot.{Spot}
use Rattle.server_core.specs.declared.group.Group.{Group}
use Rattle.server_core.specs.SearchState.{cell_at, pointers_from, ids_from, InRange, steps_from}
use Rattle.std.specs.FinMap as map

-- a decrypted cell of this kind, with these numbers before its zeros
pub record IsRead (clear : List ℕ) (kind : ℕ) (numbers : List ℕ) : Type 0 where
  pub bytes : List ℕ
  pub text : clear ≡ kind ∷ bytes
  pub known : kind ≤ 2
  pub front : leading (numbers_of bytes) ≡ Some numbers

-- the same of the word's cell
pub record IsOpened (f : KeyedFn) (keys : TokenKeys) (c : Contents) (kind : ℕ) (numbers : List ℕ) : Type 0 where
  pub clear : List ℕ
  pub there : cell_at f keys c ≡ Some clear
  pub read : IsRead clear kind numbers

abbrev pub HasNoCell : KeyedFn → TokenKeys → Contents → Type 0
HasNoCell f keys c = cell_at f keys c ≡ None

-- these pointers are group `top`, and whether it is the last one
pub record IsGroup (f : KeyedFn) (keys : TokenKeys) (c : Contents) (top : ℕ) (pointers : List ℕ) (is_last : Bool) : Type 0 where
  pub these : pointers_from f keys c top ≡ joined (Some pointers) (pointers_from f keys c (top + 1))
  pub last : is_last ≡ true → pointers_from f keys c (top + 1) ≡ Some []
  pub more : is_last ≡ false → top + 1 < 64

-- one place: its identifiers, and where the search goes on after it
pub record IsPlace (f : KeyedFn) (keys : TokenKeys) (c : Contents) (spot : Spot) (ids : List ℕ) (behind : Spot) : Type 0 where
  pub ids_then : ids_from f keys c spot ≡ joined (Some ids) (ids_from f keys c behind)
  pub in_range : InRange behind
  pub nearer : steps_from (map.len c.additions) behind < steps_from (map.len c.additions) spot

-- a group that was opened before is still that group
abbrev pub IsKept : KeyedFn → TokenKeys → Contents → Group → Type 0
IsKept f keys c group = group.is_open ≡ true → (group.count ≤ 256) × IsGroup f keys c group.top (take group.count group.pointers) group.is_last
