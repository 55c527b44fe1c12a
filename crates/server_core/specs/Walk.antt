-- A search under way, as a value that a caller keeps.
use Rattle.std.specs.Prelude.{◌≡◌, ◌≢◌, ◌≤◌, ◌<◌, ℕ, Bool, true, false, List, [], length, take, All, Some}
use Rattle.std.specs.Option.{option_map_or}
use Rattle.search_token.specs.KeyedFn.{KeyedFn}
use Rattle.server_tables.specs.Contents.{Contents}
use Rattle.server_core.specs.declared.walk.Walk.{Walk}
use Rattle.server_core.specs.State.{ServerState}
use Rattle.server_core.specs.SearchState.{coming, InRange}

-- what a server holds in its tables
abbrev pub contents_of : ServerState → Contents
contents_of s = record { dictionary = s.dictionary; array = s.array; additions = s.additions; revoked = s.revoked }

-- what a walk still gives over these contents; nothing where what it is to open is no list
abbrev pub rest_of : KeyedFn → Contents → Walk → List ℕ
rest_of f c walk = option_map_or (λ ids. ids) (coming f walk.token c walk.spot walk.within) []

-- the walk is one over these contents: all that it is to open is there, and it knows whether it still gives something
pub record IsWalk (f : KeyedFn) (c : Contents) (walk : Walk) : Type 0 where
  pub come : coming f walk.token c walk.spot walk.within ≡ Some (rest_of f c walk)
  pub in_range : InRange walk.spot
  pub over : walk.is_over ≡ true → rest_of f c walk ≡ []
  pub more : walk.is_over ≡ false → rest_of f c walk ≢ []

-- a page begins with so many identifiers, and is full where others follow
pub record IsFront (count : ℕ) (is_over : Bool) (page : List ℕ) : Type 0 where
  pub room : count ≤ length page
  pub full : is_over ≡ false → count ≡ length page
  pub ids : All (λ id. 0 < id) (take count page)

-- and a walk goes on after them
pub record HasPage (f : KeyedFn) (c : Contents) (count : ℕ) (walk : Walk) (page : List ℕ) : Type 0 where
  pub front : IsFront count walk.is_over page
  pub walk_is : IsWalk f c walk
