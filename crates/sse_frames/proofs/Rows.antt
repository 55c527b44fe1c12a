-- Rows that compute: frames and replies with the keyed function that adds bytes up, byte for byte.
use Rattle.std.proofs.Common.{◌≡◌, ℕ, zero, suc, ◌+◌, ◌*◌, ◌-◌, true, false, List, [], ◌∷◌, ◌++◌, map, take, cond, ltb, Ok, Err, refl}
use Rattle.std.specs.Prelude.{codes}
use Rattle.sse_frames.specs.declared.fault.FrameFault.TheVariants.{BadLength, BadKind, BadBody}
use Rattle.sse_frames.specs.Frames.{Entry, Hello, AddFrame, DeleteFrame, SearchFrame, frame_bytes}
use Rattle.sse_frames.specs.Replies.{Next, Took, reply_bytes}
use Rattle.sse_frames.specs.Fields.{number_at}
use Rattle.sse_frames.specs.ReadOutcomes.{frame_outcome}
use Rattle.sse_frames.specs.SentParts.{setup_frames, pages}

-- the value of a hexadecimal digit in lower case
abbrev digit : ℕ → ℕ
digit c = cond (ltb c 97) (c - 48) (c - 87)

-- the bytes that a text spells in pairs of hexadecimal digits, between single spaces
abbrev hex : List ℕ → List ℕ
hex [] = []
hex (a ∷ []) = []
hex (a ∷ b ∷ more) = cond (ltb a 33) (hex (b ∷ more)) ((digit a * 16 + digit b) ∷ hex more)

abbrev rising : ℕ → ℕ → List ℕ
rising zero first = []
rising (suc n) first = first ∷ rising n (first + 1)

abbrev entry : List ℕ → List ℕ → Entry
entry label text = record { label = label; text = text }

-- one document `doc 1 a` set up with cells of one identifier: Hello, and the three frames of the setup
hello_row : frame_bytes Hello ≡ hex (codes "00000001 01")
hello_row = refl

setup_row : map frame_bytes (setup_frames 0 (record { b = 1; big = 1 }) (entry (hex (codes "c3c5c7c9cbcdcfd1d3d5d7d9dbdddfe1")) (hex (codes "c4c5c6c7c8c9cacbcd")) ∷ []) [])
    ≡ hex (codes "00000011 02 00000000 0001 0001 00000001 00000000")
    ∷ hex (codes "00000022 03 00000001 0009 0001 c3c5c7c9cbcdcfd1d3d5d7d9dbdddfe1 c4c5c6c7c8c9cacbcd")
    ∷ hex (codes "00000005 05 00000002") ∷ []
setup_row = refl

-- a list of two identifiers over cells of one and blocks of two: one block after the dictionary
block_row : map frame_bytes (setup_frames 0 (record { b = 1; big = 2 })
    (entry (hex (codes "c3c5c7c9cbcdcfd1d3d5d7d9dbdddfe1")) (hex (codes "c5c5c6c7c8c9cacbcd")) ∷ [])
    (entry (hex (codes "c8caccced0d2d4d6d8dadcdee0e2e4e6")) (hex (codes "c5c6c7c8c9cacbcdcdcecfd0d1d2d3d6")) ∷ []))
    ≡ hex (codes "00000011 02 00000000 0001 0002 00000001 00000001")
    ∷ hex (codes "00000022 03 00000001 0009 0001 c3c5c7c9cbcdcfd1d3d5d7d9dbdddfe1 c5c5c6c7c8c9cacbcd")
    ∷ hex (codes "00000019 04 00000002 0010 0001 c5c6c7c8c9cacbcdcdcecfd0d1d2d3d6")
    ∷ hex (codes "00000005 05 00000003") ∷ []
block_row = refl

-- two entries are sent by rising label
order_row : map frame_bytes (setup_frames 7 (record { b = 1; big = 1 })
    (entry (hex (codes "c7000000000000000000000000000000")) (hex (codes "010000000000000001"))
    ∷ entry (hex (codes "c3ffffffffffffffffffffffffffffff")) (hex (codes "010000000000000002")) ∷ []) [])
    ≡ hex (codes "00000011 02 00000007 0001 0001 00000002 00000000")
    ∷ hex (codes "0000003b 03 00000008 0009 0002 c3ffffffffffffffffffffffffffffff 010000000000000002 c7000000000000000000000000000000 010000000000000001")
    ∷ hex (codes "00000005 05 00000009") ∷ []
order_row = refl

-- the update frames of an addition, a deletion, and an addition of the same word again with a new one
add_row : frame_bytes (AddFrame 3 (entry (hex (codes "c5c7c9cbcdcfd1d3d5d7d9dbdddfe1e3")) (hex (codes "c6c7c8c9cacbccc8")) ∷ []) [])
    ≡ hex (codes "00000021 06 00000003 0001 0000 c5c7c9cbcdcfd1d3d5d7d9dbdddfe1e3 c6c7c8c9cacbccc8")
add_row = refl

delete_row : frame_bytes (DeleteFrame 4 (hex (codes "eff1f3f5f7f9fbfdff01030507090b0d") ∷ []))
    ≡ hex (codes "00000017 07 00000004 0001 eff1f3f5f7f9fbfdff01030507090b0d")
delete_row = refl

add_again_row : frame_bytes (AddFrame 5 (entry (hex (codes "c9cbcdcfd1d3d5d7d9dbdddfe1e3e5e7")) (hex (codes "cacbcccdcecfd0d4")) ∷ []) (hex (codes "eff1f3f5f7f9fbfdff01030507090b0d") ∷ []))
    ≡ hex (codes "00000031 06 00000005 0001 0001 c9cbcdcfd1d3d5d7d9dbdddfe1e3e5e7 cacbcccdcecfd0d4 eff1f3f5f7f9fbfdff01030507090b0d")
add_again_row = refl

-- an addition of a document that was searched for before, and updates of documents without words
add_searched_row : frame_bytes (AddFrame 3 (entry (hex (codes "c5c7c9cbcdcfd1d3d5d7d9dbdddfe1e3")) (hex (codes "c6c7c8c9cacbcccb")) ∷ []) [])
    ≡ hex (codes "00000021 06 00000003 0001 0000 c5c7c9cbcdcfd1d3d5d7d9dbdddfe1e3 c6c7c8c9cacbcccb")
add_searched_row = refl

empty_add_row : frame_bytes (AddFrame 3 [] []) ≡ hex (codes "00000009 06 00000003 0000 0000")
empty_add_row = refl

empty_delete_row : frame_bytes (DeleteFrame 4 []) ≡ hex (codes "00000007 07 00000004 0000")
empty_delete_row = refl

-- a token is five keys of 32 bytes, here each byte one more than the one before
token : List ℕ
token = rising 32 0xc3 ++ rising 32 0xc4 ++ rising 32 0xc5 ++ rising 32 0xc6 ++ rising 32 0xc7

search_row : take 5 (frame_bytes (SearchFrame token)) ≡ hex (codes "000000a1 08")
unfolding token
search_row = refl

-- the replies to Hello and to the update frames, and the page of one identifier
next_row : reply_bytes (Next 0) ≡ hex (codes "00000005 81 00000000")
next_row = refl

took_row : map (λ q. reply_bytes (Took q)) (0 ∷ 1 ∷ 2 ∷ []) ≡ hex (codes "00000005 82 00000000") ∷ hex (codes "00000005 82 00000001") ∷ hex (codes "00000005 82 00000002") ∷ []
took_row = refl

page_row : map reply_bytes (pages (1 ∷ [])) ≡ hex (codes "0000000c 85 01 0001 0000000000000001") ∷ []
page_row = refl

no_identifier_row : map reply_bytes (pages []) ≡ hex (codes "00000004 85 01 0000") ∷ []
no_identifier_row = refl

-- what reading bytes answers
whole_row : frame_outcome (hex (codes "00000001 01")) ≡ Ok true
unfolding number_at
whole_row = refl

partial_row : frame_outcome (hex (codes "000000")) ≡ Ok false
partial_row = refl

no_length_row : frame_outcome (hex (codes "00000000")) ≡ Err (BadLength 0)
unfolding number_at
no_length_row = refl

long_row : frame_outcome (hex (codes "00100001")) ≡ Err (BadLength 1048577)
unfolding number_at
long_row = refl

kind_row : frame_outcome (hex (codes "00000001 09")) ≡ Err (BadKind 9)
unfolding number_at
kind_row = refl

rest_row : frame_outcome (hex (codes "00000002 01 00")) ≡ Err (BadBody 1)
unfolding number_at
rest_row = refl

number_row : frame_outcome (hex (codes "00000005 05 ffffffff")) ≡ Err (BadBody 1)
unfolding number_at
number_row = refl

cut_row : frame_outcome (hex (codes "00000004 05 000000")) ≡ Err (BadBody 1)
unfolding number_at
cut_row = refl

equal_numbers_row : frame_outcome (hex (codes "00000027 07 00000004 0002 eff1f3f5f7f9fbfdff01030507090b0d eff1f3f5f7f9fbfdff01030507090b0d")) ≡ Err (BadBody 23)
unfolding number_at
equal_numbers_row = refl
