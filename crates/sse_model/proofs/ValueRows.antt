-- The values at names, and what a setup encrypts, under the toy function and the key of 32 zero bytes: labels, tags, a token
-- and numbers that were computed by hand, counts of blocks, and values that are equal.
use Rattle.std.proofs.Common.{◌≡◌, List, ℕ, [], ◌∷◌, ◌++◌, map, flat_map, length, take, true, false, Some, refl}
use Rattle.std.specs.Prelude.{codes}
use Rattle.std.specs.List.{range_with_len}
use Rattle.client_registry.specs.Setup.{Setup, setup_of}
use Rattle.client_registry.specs.Acceptance.{blocks_of}
use Rattle.client_registry.specs.Command.{Search}
use Rattle.client_registry.specs.FirstClash.{first_clash}
use Rattle.client_registry.specs.Live.{counter, matching_ids}
use Rattle.client_registry.specs.Run.{at_first}
use Rattle.sse_frames.specs.Frames.{Entry}
use Rattle.sse_model.specs.Compared.{Labels, collision_of_setup}
use Rattle.sse_model.specs.Names.{Kind, name, no_word, Token, ListLabel, ListPad, PlusLabel, Revocation, PlaceTag, DummyTag}
use Rattle.sse_model.specs.Positions.{entry_positions, block_positions, ranks_of, sealed}
use Rattle.sse_model.specs.Wire.{labels_in}
use Rattle.sse_model.specs.Drawn.{probed_by, drawn, was_sent}
use Rattle.sse_model.proofs.CollisionTest.{is_collision_free}
use Rattle.sse_model.proofs.ToyBytes.{hex, document, zero_table}

abbrev a : List ℕ
a = 0x61 ∷ []

-- one document with the word `a`
abbrev of_one : Setup
of_one = setup_of (document 1 (a ∷ []) ∷ []) 1 1

-- the values at names of `a`
abbrev value : Kind → ℕ → List ℕ
value kind number = zero_table of_one.shape (name 0 a kind number)

label_value : value ListLabel 0 ≡ hex (codes "c3c5c7c9cbcdcfd1d3d5d7d9dbdddfe1")
label_value = refl

token_value : value Token 0 ≡
    hex (codes "c3c4c5c6c7c8c9cacbcccdcecfd0d1d2d3d4d5d6d7d8d9dadbdcdddedfe0e1e2"
    ++ codes "c4c5c6c7c8c9cacbcccdcecfd0d1d2d3d4d5d6d7d8d9dadbdcdddedfe0e1e2e3"
    ++ codes "c5c6c7c8c9cacbcccdcecfd0d1d2d3d4d5d6d7d8d9dadbdcdddedfe0e1e2e3e4"
    ++ codes "c6c7c8c9cacbcccdcecfd0d1d2d3d4d5d6d7d8d9dadbdcdddedfe0e1e2e3e4e5"
    ++ codes "c7c8c9cacbcccdcecfd0d1d2d3d4d5d6d7d8d9dadbdcdddedfe0e1e2e3e4e5e6")
token_value = refl

addition_label_value : value PlusLabel 0 ≡ hex (codes "c5c7c9cbcdcfd1d3d5d7d9dbdddfe1e3")
addition_label_value = refl

revocation_value : value Revocation 1 ≡ hex (codes "cfd1d3d5d7d9dbdddfe1e3e5e7e9ebed")
revocation_value = refl

tag_value : value PlaceTag 0 ≡ hex (codes "c8caccced0d2d4d6d8dadcdee0e2e4e6")
tag_value = refl

-- all that is encrypted of a setup: its cells, then its blocks
abbrev encrypted : Setup → List Entry
encrypted s =
    let ranks = ranks_of (labels_in (zero_table s.shape) (block_positions 0 s)) in
    map (sealed (zero_table s.shape) ranks) (entry_positions 0 s ++ block_positions 0 s)

-- its plaintexts
abbrev plaintexts : Setup → List (List ℕ)
plaintexts s =
    let ranks = ranks_of (labels_in (zero_table s.shape) (block_positions 0 s)) in
    map (λ p. p.clear ranks) (entry_positions 0 s ++ block_positions 0 s)

abbrev entry : List ℕ → List ℕ → Entry
entry label text = record { label = label; text = text }

one_cell : encrypted of_one ≡ entry (hex (codes "c3c5c7c9cbcdcfd1d3d5d7d9dbdddfe1")) (hex (codes "c4c5c6c7c8c9cacbcd")) ∷ []
one_cell = refl

-- two identifiers over cells of one and blocks of two: a cell with pointer 1, and a block
abbrev of_two : Setup
of_two = setup_of (document 1 (a ∷ []) ∷ document 2 (a ∷ []) ∷ []) 1 2

pointer_to_block : plaintexts of_two ≡ hex (codes "010000000000000001") ∷ hex (codes "00000000000000010000000000000002") ∷ []
pointer_to_block = refl

cell_and_block : encrypted of_two ≡
    entry (hex (codes "c3c5c7c9cbcdcfd1d3d5d7d9dbdddfe1")) (hex (codes "c5c5c6c7c8c9cacbcd"))
    ∷ entry (hex (codes "c8caccced0d2d4d6d8dadcdee0e2e4e6")) (hex (codes "c5c6c7c8c9cacbcdcdcecfd0d1d2d3d6")) ∷ []
cell_and_block = refl

-- With a Q of 2: a dummy's label and tag, and their pads, over zeros.

abbrev dummy_value : Kind → ℕ → List ℕ
dummy_value kind number = zero_table of_one.shape (name 0 no_word kind number)

dummy_tag_values : dummy_value DummyTag 0 ∷ dummy_value DummyTag 1 ∷ [] ≡ hex (codes "0c0e10121416181a1c1e20222426282a") ∷ hex (codes "1416181a1c1e20222426282a2c2e3032") ∷ []
dummy_tag_values = refl

word_and_dummy : encrypted (record of_one { pad = 2 }) ≡
    entry (hex (codes "c3c5c7c9cbcdcfd1d3d5d7d9dbdddfe1")) (hex (codes "c4c5c6c7c8c9cacbcd"))
    ∷ entry (hex (codes "080a0c0e10121416181a1c1e20222426")) (hex (codes "090a0b0c0d0e0f1011")) ∷ []
word_and_dummy = refl

-- the dummy block has the lesser tag, and so the word's block the rank 1, to which its cell points by 2
ranks_with_dummies : plaintexts (record of_two { pad = 2 }) ≡
    hex (codes "010000000000000002") ∷ hex (codes "000000000000000000") ∷ hex (codes "00000000000000010000000000000002") ∷ hex (codes "00000000000000000000000000000000") ∷ []
ranks_with_dummies = refl

-- dummies 0 and 32 have equal labels under the toy function, and so a setup with 63 of them collides
equal_dummies : collision_of_setup (zero_table of_one.shape) 0 (record of_one { pad = 64 }) ≡ Some (Labels 1 33)
equal_dummies = refl

-- the search looks up the label of addition 0 and the revocation number of identifier 1, neither of which was drawn
looked_up : probed_by 0 of_one [] (Search a) ≡ name 0 a ListLabel 0 ∷ name 0 a PlusLabel 0 ∷ name 0 a Revocation 1 ∷ []
looked_up = refl

drawn_names : drawn at_first (record { setup = of_one; later = Search a ∷ [] })
    ≡ (name 0 a ListLabel 0 ∷ name 0 a ListPad 0 ∷ []) ∷ (name 0 a Token 0 ∷ []) ∷ []
drawn_names = refl

no_addition : counter of_one [] a ≡ 0
no_addition = refl

no_revocation : was_sent of_one [] a 1 ≡ false
no_revocation = refl

-- documents 1 to n of these words, with cells and blocks of two
abbrev of_many : List (List ℕ) → ℕ → Setup
of_many words n = setup_of (map (λ id. document id words) (range_with_len 1 n)) 2 2

-- one word in 2, 3, 4, 5 and 8 documents: how many blocks, counted from the list's length and one by one, and the cell's kind
many_blocks : map (λ n. blocks_of (of_many (a ∷ []) n)) (2 ∷ 3 ∷ 4 ∷ 5 ∷ 8 ∷ []) ≡ 0 ∷ 2 ∷ 2 ∷ 5 ∷ 6 ∷ []
many_blocks = refl

many_positions : map (λ n. length (block_positions 0 (of_many (a ∷ []) n))) (2 ∷ 3 ∷ 4 ∷ 5 ∷ 8 ∷ []) ≡ 0 ∷ 2 ∷ 2 ∷ 5 ∷ 6 ∷ []
many_positions = refl

many_kinds : map (λ n. flat_map (take 1) (take 1 (plaintexts (of_many (a ∷ []) n)))) (2 ∷ 3 ∷ 4 ∷ 5 ∷ 8 ∷ [])
    ≡ (0 ∷ []) ∷ (1 ∷ []) ∷ (1 ∷ []) ∷ (2 ∷ []) ∷ (2 ∷ []) ∷ []
many_kinds = refl

-- and all of them are found
many_found : map (λ n. matching_ids (of_many (a ∷ []) n) [] a) (2 ∷ 3 ∷ 8 ∷ [])
    ≡ (1 ∷ 2 ∷ []) ∷ (1 ∷ 2 ∷ 3 ∷ []) ∷ (1 ∷ 2 ∷ 3 ∷ 4 ∷ 5 ∷ 6 ∷ 7 ∷ 8 ∷ []) ∷ []
many_found = refl

-- the words `da` and `ac` have equal labels
equal_labels :
    let s = setup_of (document 1 ((0x64 ∷ a) ∷ (0x61 ∷ 0x63 ∷ []) ∷ []) ∷ []) 1 1 in
    first_clash (labels_in (zero_table s.shape) (entry_positions 0 s)) ≡ Some (0, 1)
equal_labels = refl

-- so a run of that setup has a collision, and one of another setup has none
collides :
    let s = setup_of (document 1 ((0x64 ∷ a) ∷ (0x61 ∷ 0x63 ∷ []) ∷ []) ∷ []) 1 1 in
    is_collision_free (zero_table s.shape) at_first (record { setup = s; later = [] }) ≡ false
collides = refl

no_collision : is_collision_free (zero_table of_one.shape) at_first (record { setup = of_one; later = Search a ∷ [] }) ≡ true
no_collision = refl

-- three documents with `a` and `e`: the first bytes of the tags of their four blocks, of which those of 1 and 2 are equal
abbrev tags : List (List ℕ)
tags =
    let s = of_many (a ∷ (0x65 ∷ []) ∷ []) 3 in
    labels_in (zero_table s.shape) (block_positions 0 s)

tags_begin : flat_map (take 1) tags ≡ 200 ∷ 208 ∷ 208 ∷ 216 ∷ []
tags_begin = refl

equal_tags : first_clash tags ≡ Some (1, 2)
equal_tags = refl
