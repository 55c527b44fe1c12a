-- The answer to a search: the word's list, then its additions, without the deleted ones.
use Rattle.std.specs.Prelude.{ℕ, zero, suc, ◌+◌, Bool, not, List, [], ◌∷◌, ◌++◌, length, filter, Option, Some, None, if◌then◌else◌, ◌==◌, option_and_then}
use Rattle.std.specs.Option.{option_map, option_map_or}
use Rattle.std.specs.List.{slice_get}
use Rattle.std.specs.Int.{w64, from_be_bytes}
use Rattle.std.specs.FinMap as map
use Rattle.std.specs.FinSet as set
use Rattle.two_level.specs.Opened.{numbers_of}
pub use Rattle.two_level.specs.Opened.{cell_list}
use Rattle.search_token.specs.KeyedFn.{KeyedFn}
use Rattle.search_token.specs.KeyFormulas.{list_label, cell_pad, block_pad, plus_label, plus_pad, revocation}
use Rattle.search_token.specs.Xored.{xored}
use Rattle.search_token.specs.TokenKeys.{TokenKeys}
use Rattle.server_core.specs.State.{ServerState}

-- the numbers of a list's block, decrypted by its number in the list, at a pointer into the array, which
-- counts from 1; None where the array ends before it
abbrev pub block_at : KeyedFn → TokenKeys → List (List ℕ) → (number pointer : ℕ) → Option (List ℕ)
block_at f keys array number zero = None
block_at f keys array number (suc place) =
    option_map (λ text. numbers_of (xored text (block_pad f keys.pad_key number (length text)))) (slice_get array place)

-- the identifiers of setup: none where the word's label is missing
abbrev pub setup_ids : KeyedFn → TokenKeys → (cell : List ℕ → Option (List ℕ)) → (array : List (List ℕ)) → Option (List ℕ)
setup_ids f keys cell array =
    option_map_or (λ text. cell_list (block_at f keys array) (xored text (cell_pad f keys.pad_key (length text)))) (cell (list_label f keys.label_key)) (Some [])

-- the identifier of an addition, before the later ones: none where its label is missing, and no list
-- where it is 0
abbrev pub added_at : KeyedFn → TokenKeys → ℕ → Option (List ℕ) → Option (List ℕ) → Option (List ℕ)
added_at f keys c None later = Some []
added_at f keys c (Some text) later =
    let id = from_be_bytes w64 (xored text (plus_pad f keys.plus_pad_key c)) in
    if id == 0 then None else option_map (λ ids. id ∷ ids) later

-- the additions from number c on, at most so many
abbrev pub added_from : KeyedFn → TokenKeys → (List ℕ → Option (List ℕ)) → (c most : ℕ) → Option (List ℕ)
added_from f keys plus c zero = Some []
added_from f keys plus c (suc most) = added_at f keys c (plus (plus_label f keys.plus_label_key c)) (added_from f keys plus (c + 1) most)

-- the identifiers whose revocation numbers aren't in the set
abbrev pub unrevoked : KeyedFn → TokenKeys → (List ℕ → Bool) → List ℕ → List ℕ
unrevoked f keys is_revoked ids = filter (λ id. not (is_revoked (revocation f keys.revocation_key id))) ids

-- what a search gives, by the look-ups in the dictionary and the array, in the additions, of which there are so many,
-- and in the revoked numbers; None where what it opens is no list
abbrev pub searched : KeyedFn → TokenKeys → (cell : List ℕ → Option (List ℕ)) → (array : List (List ℕ)) → (plus : List ℕ → Option (List ℕ)) → (additions : ℕ) → (is_revoked : List ℕ → Bool) → Option (List ℕ)
searched f keys cell array plus additions is_revoked =
    option_and_then (λ first. option_map (λ later. unrevoked f keys is_revoked (first ++ later)) (added_from f keys plus 0 additions)) (setup_ids f keys cell array)

abbrev pub search_result : KeyedFn → ServerState → TokenKeys → Option (List ℕ)
search_result f s keys = searched f keys (map.get s.dictionary) s.array (map.get s.additions) (map.len s.additions) (set.contains s.revoked)
