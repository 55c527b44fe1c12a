-- Rows that compute: the steps of a server under the toy keyed function, which adds bytes up, for one document `1 a` and
-- cells of one identifier; and what cells are lists.
use Rattle.std.proofs.Common.{◌≡◌, ℕ, zero, suc, ◌+◌, ◌*◌, ◌-◌, true, List, [], Option, ◌∷◌, ◌++◌, cond, ltb, Some, None, refl}
use Rattle.std.specs.Prelude.{codes}
use Rattle.std.specs.FinMap as map
use Rattle.std.specs.FinSet as set
use Rattle.keyed_fn.specs.KeyedFn.{KeyedFn, keyed_fn}
use Rattle.keyed_fn.specs.Toy.{toy_prf, toy_pad}
use Rattle.sse_frames.specs.Frames.{Entry, Hello, SetupBegin, SetupDict, SetupEnd, AddFrame, DeleteFrame, SearchFrame}
use Rattle.sse_frames.specs.Replies.{Next, Took, Number, Clash, Page, OutOfPlace}
use Rattle.search_token.specs.TokenKeys.{keys_of_bytes}
use Rattle.server_core.specs.declared.stage.Stage.TheVariants.{Filling, Ready}
use Rattle.server_core.specs.State.{ServerState, at_first}
use Rattle.server_core.specs.Search.{cell_list, search_result}
use Rattle.server_core.specs.Refusal.{clash}
use Rattle.server_core.specs.Step.{step, taken}

abbrev toy : KeyedFn
toy = keyed_fn toy_prf toy_pad

-- the value of a hexadecimal digit in lower case
abbrev digit : ℕ → ℕ
digit c = cond (ltb c 97) (c - 48) (c - 87)

-- the bytes that a text spells in pairs of hexadecimal digits
abbrev hex : List ℕ → List ℕ
hex [] = []
hex (a ∷ []) = []
hex (a ∷ b ∷ more) = (digit a * 16 + digit b) ∷ hex more

abbrev rising : ℕ → ℕ → List ℕ
rising zero first = []
rising (suc n) first = first ∷ rising n (first + 1)

-- the tokens of the words `a` and `c`
abbrev of_a : List ℕ
of_a = rising 32 0xc3 ++ rising 32 0xc4 ++ rising 32 0xc5 ++ rising 32 0xc6 ++ rising 32 0xc7

abbrev of_c : List ℕ
of_c = rising 32 0xc7 ++ rising 32 0xc8 ++ rising 32 0xc9 ++ rising 32 0xca ++ rising 32 0xcb

-- the label of `a` with its cell
abbrev entry : Entry
entry = record { label = hex (codes "c3c5c7c9cbcdcfd1d3d5d7d9dbdddfe1"); text = hex (codes "c4c5c6c7c8c9cacbcd") }

abbrev begun : ServerState
begun = record at_first { stage = Filling; next = 1; words = 1; shape = record { b = 1; big = 1 } }

abbrev filled : ServerState
filled = record begun { next = 2; dictionary = map.insert map.empty entry.label entry.text }

abbrev whole : ServerState
whole = record filled { stage = Ready; next = 3 }

hello_row : step toy at_first Hello ≡ (at_first, Next 0 ∷ [])
hello_row = refl

begin_row : step toy at_first (SetupBegin 0 1 1 1 0) ≡ (begun, Took 0 ∷ [])
begin_row = refl

dict_row : step toy begun (SetupDict 1 9 (entry ∷ [])) ≡ (filled, Took 1 ∷ [])
dict_row = simp (map.gets)

end_row : step toy filled (SetupEnd 2) ≡ (whole, Took 2 ∷ [])
end_row = simp (map.gets)

-- the setup's list of `a`, by the five keys of its token
search_row : step toy whole (SearchFrame of_a) ≡ (whole, Page true (1 ∷ []) ∷ [])
search_row = simp (map.gets, set.members)

-- another word's list has no label
missing_row : step toy whole (SearchFrame of_c) ≡ (whole, Page true [] ∷ [])
missing_row = simp (map.gets, set.members)

-- a frame that comes again, and one before its time
again_row : step toy whole (SetupBegin 0 1 1 1 0) ≡ (whole, Number 3 ∷ [])
again_row = refl

ahead_row : step toy begun (SetupEnd 2) ≡ (begun, Number 1 ∷ [])
ahead_row = refl

-- a setup after a whole one begins with empty tables
second_row : step toy whole (SetupBegin 3 1 1 1 0) ≡ (record at_first { stage = Filling; next = 4; words = 1; shape = record { b = 1; big = 1 } }, Took 3 ∷ [])
second_row = refl

-- a frame that isn't one for the stage: a search before the setup, a setup within one, a setup that ends too early, cells of
-- another width, more cells than words
early_row : step toy at_first (SearchFrame []) ≡ (at_first, OutOfPlace ∷ [])
early_row = refl

within_row : step toy begun (SetupBegin 1 1 1 1 0) ≡ (begun, OutOfPlace ∷ [])
within_row = refl

short_row : step toy begun (SetupEnd 1) ≡ (begun, OutOfPlace ∷ [])
short_row = simp (map.gets)

width_row : step toy begun (SetupDict 1 17 (entry ∷ [])) ≡ (begun, OutOfPlace ∷ [])
width_row = refl

more_row : step toy filled (SetupDict 2 9 (entry ∷ [])) ≡ (filled, OutOfPlace ∷ [])
more_row = simp (map.gets)

-- a label that is there
clash_row : step toy (record filled { words = 2 }) (SetupDict 2 9 (entry ∷ [])) ≡ (record filled { words = 2 }, Clash 1 0 ∷ [])
clash_row = simp (map.gets)

-- a cell of identifiers; one with a number after a zero; one of an unknown kind; pointers without blocks, and none
abbrev no_block : (number pointer : ℕ) → Option (List ℕ)
no_block number pointer = None

list_row : cell_list no_block (hex (codes "000000000000000007ffffffffffffffff")) ≡ Some (7 ∷ 18446744073709551615 ∷ [])
list_row = refl

hole_row : cell_list no_block (hex (codes "0000000000000000000000000000000007")) ≡ None
hole_row = refl

kind_row : cell_list no_block (hex (codes "030000000000000007")) ≡ None
kind_row = refl

pointer_row : cell_list no_block (hex (codes "010000000000000001")) ≡ None
pointer_row = refl

no_pointer_row : cell_list no_block (hex (codes "020000000000000000")) ≡ Some []
no_pointer_row = refl

-- a list of two identifiers over cells of one and blocks of two: its cell points to a block of the array
abbrev with_block : ServerState
with_block = record whole {
  shape = record { b = 1; big = 2 };
  dictionary = map.insert map.empty entry.label (hex (codes "c5c5c6c7c8c9cacbcd"));
  array = hex (codes "c5c6c7c8c9cacbcdcdcecfd0d1d2d3d6") ∷ [];
}

block_row : search_result toy with_block (keys_of_bytes of_a) ≡ Some (1 ∷ 2 ∷ [])
block_row = simp (map.gets, set.members)

-- document 5 with the word `a` is added, deleted, and added again with `a` and `c`
abbrev number : List ℕ
number = hex (codes "eff1f3f5f7f9fbfdff01030507090b0d")

abbrev addition : Entry
addition = record { label = hex (codes "c5c7c9cbcdcfd1d3d5d7d9dbdddfe1e3"); text = hex (codes "c6c7c8c9cacbccc8") }

abbrev other_addition : Entry
other_addition = record { label = hex (codes "c9cbcdcfd1d3d5d7d9dbdddfe1e3e5e7"); text = hex (codes "cacbcccdcecfd0d4") }

abbrev added : ServerState
added = taken whole (AddFrame 3 (addition ∷ []) [])

abbrev deleted : ServerState
deleted = taken added (DeleteFrame 4 (number ∷ []))

abbrev added_again : ServerState
added_again = taken deleted (AddFrame 5 (other_addition ∷ []) (number ∷ []))

add_row : step toy whole (AddFrame 3 (addition ∷ []) []) ≡ (added, Took 3 ∷ [])
add_row = simp (map.gets, set.members)

delete_row : step toy added (DeleteFrame 4 (number ∷ [])) ≡ (deleted, Took 4 ∷ [])
delete_row = simp (map.gets, set.members)

add_again_row : step toy deleted (AddFrame 5 (other_addition ∷ []) (number ∷ [])) ≡ (added_again, Took 5 ∷ [])
add_again_row = simp (map.gets, set.members)

added_row : search_result toy added (keys_of_bytes of_a) ≡ Some (1 ∷ 5 ∷ [])
added_row = simp (map.gets, set.members)

deleted_row : search_result toy deleted (keys_of_bytes of_a) ≡ Some (1 ∷ [])
deleted_row = simp (map.gets, set.members)

added_again_row : search_result toy added_again (keys_of_bytes of_a) ≡ Some (1 ∷ 5 ∷ [])
added_again_row = simp (map.gets, set.members)

other_word_row : search_result toy added_again (keys_of_bytes of_c) ≡ Some (5 ∷ [])
other_word_row = simp (map.gets, set.members)

-- an addition whose label is there, a number to be taken out that isn't there, and one to be put in that is
addition_clash_row : clash added (AddFrame 4 (addition ∷ []) []) ≡ Some (Clash 2 0)
addition_clash_row = simp (map.gets)

restored_clash_row : clash added (AddFrame 4 [] (number ∷ [])) ≡ Some (Clash 3 0)
restored_clash_row = simp (set.members)

deleted_clash_row : clash deleted (DeleteFrame 5 (number ∷ [])) ≡ Some (Clash 3 0)
deleted_clash_row = simp (set.members)
