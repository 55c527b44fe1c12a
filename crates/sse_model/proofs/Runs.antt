-- Whole sessions under the toy function and the key of 32 zero bytes: the bytes of each frame and each reply, in order,
-- as another program wrote them.
use Rattle.std.proofs.Common.{◌≡◌, ℕ, List, [], ◌∷◌, ◌++◌, Some, refl}
use Rattle.std.specs.Prelude.{codes}
use Rattle.client_registry.specs.Setup.{setup_of}
use Rattle.client_registry.specs.Command.{Add, Delete, Search}
use Rattle.client_registry.specs.Run.{Run, at_first}
use Rattle.sse_model.proofs.CollisionTest.{IsCollisionFree-from_test}
use Rattle.sse_model.proofs.ToyBytes.{hex, document, zero_table, session_bytes}
use Rattle.sse_model.specs.Drawn.{IsCollisionFree}

abbrev a : List ℕ
a = 0x61 ∷ []

abbrev b : List ℕ
b = 0x62 ∷ []

abbrev c : List ℕ
c = 0x63 ∷ []

abbrev d : List ℕ
d = 0x64 ∷ []

abbrev y : List ℕ
y = 0x79 ∷ []

-- the search frames of these words
abbrev search_a : List ℕ
search_a =
    hex (codes "000000a108"
    ++ codes "c3c4c5c6c7c8c9cacbcccdcecfd0d1d2d3d4d5d6d7d8d9dadbdcdddedfe0e1e2"
    ++ codes "c4c5c6c7c8c9cacbcccdcecfd0d1d2d3d4d5d6d7d8d9dadbdcdddedfe0e1e2e3"
    ++ codes "c5c6c7c8c9cacbcccdcecfd0d1d2d3d4d5d6d7d8d9dadbdcdddedfe0e1e2e3e4"
    ++ codes "c6c7c8c9cacbcccdcecfd0d1d2d3d4d5d6d7d8d9dadbdcdddedfe0e1e2e3e4e5"
    ++ codes "c7c8c9cacbcccdcecfd0d1d2d3d4d5d6d7d8d9dadbdcdddedfe0e1e2e3e4e5e6")

abbrev search_b : List ℕ
search_b =
    hex (codes "000000a108"
    ++ codes "c5c6c7c8c9cacbcccdcecfd0d1d2d3d4d5d6d7d8d9dadbdcdddedfe0e1e2e3e4"
    ++ codes "c6c7c8c9cacbcccdcecfd0d1d2d3d4d5d6d7d8d9dadbdcdddedfe0e1e2e3e4e5"
    ++ codes "c7c8c9cacbcccdcecfd0d1d2d3d4d5d6d7d8d9dadbdcdddedfe0e1e2e3e4e5e6"
    ++ codes "c8c9cacbcccdcecfd0d1d2d3d4d5d6d7d8d9dadbdcdddedfe0e1e2e3e4e5e6e7"
    ++ codes "c9cacbcccdcecfd0d1d2d3d4d5d6d7d8d9dadbdcdddedfe0e1e2e3e4e5e6e7e8")

abbrev search_c : List ℕ
search_c =
    hex (codes "000000a108"
    ++ codes "c7c8c9cacbcccdcecfd0d1d2d3d4d5d6d7d8d9dadbdcdddedfe0e1e2e3e4e5e6"
    ++ codes "c8c9cacbcccdcecfd0d1d2d3d4d5d6d7d8d9dadbdcdddedfe0e1e2e3e4e5e6e7"
    ++ codes "c9cacbcccdcecfd0d1d2d3d4d5d6d7d8d9dadbdcdddedfe0e1e2e3e4e5e6e7e8"
    ++ codes "cacbcccdcecfd0d1d2d3d4d5d6d7d8d9dadbdcdddedfe0e1e2e3e4e5e6e7e8e9"
    ++ codes "cbcccdcecfd0d1d2d3d4d5d6d7d8d9dadbdcdddedfe0e1e2e3e4e5e6e7e8e9ea")

abbrev search_d : List ℕ
search_d =
    hex (codes "000000a108"
    ++ codes "c9cacbcccdcecfd0d1d2d3d4d5d6d7d8d9dadbdcdddedfe0e1e2e3e4e5e6e7e8"
    ++ codes "cacbcccdcecfd0d1d2d3d4d5d6d7d8d9dadbdcdddedfe0e1e2e3e4e5e6e7e8e9"
    ++ codes "cbcccdcecfd0d1d2d3d4d5d6d7d8d9dadbdcdddedfe0e1e2e3e4e5e6e7e8e9ea"
    ++ codes "cccdcecfd0d1d2d3d4d5d6d7d8d9dadbdcdddedfe0e1e2e3e4e5e6e7e8e9eaeb"
    ++ codes "cdcecfd0d1d2d3d4d5d6d7d8d9dadbdcdddedfe0e1e2e3e4e5e6e7e8e9eaebec")

abbrev search_y : List ℕ
search_y =
    hex (codes "000000a108"
    ++ codes "f3f4f5f6f7f8f9fafbfcfdfeff000102030405060708090a0b0c0d0e0f101112"
    ++ codes "f4f5f6f7f8f9fafbfcfdfeff000102030405060708090a0b0c0d0e0f10111213"
    ++ codes "f5f6f7f8f9fafbfcfdfeff000102030405060708090a0b0c0d0e0f1011121314"
    ++ codes "f6f7f8f9fafbfcfdfeff000102030405060708090a0b0c0d0e0f101112131415"
    ++ codes "f7f8f9fafbfcfdfeff000102030405060708090a0b0c0d0e0f10111213141516")

-- documents deleted, and their identifiers added again with some of their words and some others
abbrev words_renewed : Run
words_renewed = record {
  setup = setup_of (document 1 (a ∷ b ∷ []) ∷ document 2 (a ∷ c ∷ []) ∷ document 3 (b ∷ c ∷ d ∷ []) ∷ []) 1 2;
  later = Search a ∷ Delete 1 ∷ Search a ∷ Add (document 1 (b ∷ c ∷ [])) ∷ Search b ∷ Search c ∷ Delete 3 ∷
      Add (document 3 (d ∷ a ∷ [])) ∷ Search a ∷ Search d ∷ Delete 1 ∷ Add (document 1 (a ∷ b ∷ d ∷ [])) ∷ Search a ∷
      Search b ∷ Search c ∷ Search d ∷ Delete 2 ∷ Add (document 2 (c ∷ b ∷ [])) ∷ Search b ∷ Search c ∷ [];
}

words_renewed_session : session_bytes (Some words_renewed) ≡
    hex (codes "0000000101")
    ∷ hex (codes "000000058100000000")
    ∷ hex (codes "000000110200000000000100020000000400000003")
    ∷ hex (codes "000000058200000000")
    ∷ hex (codes "0000006d030000000100090004c3c5c7c9cbcdcfd1d3d5d7d9dbdddfe1c5c5c6c7c8c9cacbcdc5c7c9cbcdcfd1d3d5d7"
    ++ codes "d9dbdddfe1e3c7c7c8c9cacbcccdccc7c9cbcdcfd1d3d5d7d9dbdddfe1e3e5c9c9cacbcccdcecfd3c9cbcdcfd1d3d5d7"
    ++ codes "d9dbdddfe1e3e5e7cacbcccdcecfd0d1d1")
    ∷ hex (codes "000000058200000001")
    ∷ hex (codes "00000039040000000200100003c5c6c7c8c9cacbcdcdcecfd0d1d2d3d6c7c8c9cacbcccdcfcfd0d1d2d3d4d5d5c9cacb"
    ++ codes "cccdcecfd2d1d2d3d4d5d6d7db")
    ∷ hex (codes "000000058200000002")
    ∷ hex (codes "000000050500000003")
    ∷ hex (codes "000000058200000003")
    ∷ search_a
    ∷ hex (codes "000000148501000200000000000000010000000000000002")
    ∷ hex (codes "0000002707000000040002cfd1d3d5d7d9dbdddfe1e3e5e7e9ebedd1d3d5d7d9dbdddfe1e3e5e7e9ebedef")
    ∷ hex (codes "000000058200000004")
    ∷ search_a
    ∷ hex (codes "0000000c850100010000000000000002")
    ∷ hex (codes "00000031060000000500010001c9cbcdcfd1d3d5d7d9dbdddfe1e3e5e7cacbcccdcecfd0d0d1d3d5d7d9dbdddfe1e3e5"
    ++ codes "e7e9ebedef")
    ∷ hex (codes "000000058200000005")
    ∷ search_b
    ∷ hex (codes "000000148501000200000000000000010000000000000003")
    ∷ search_c
    ∷ hex (codes "0000001c85010003000000000000000200000000000000030000000000000001")
    ∷ hex (codes "0000003707000000060003e1e3e5e7e9ebedeff1f3f5f7f9fbfdffe3e5e7e9ebedeff1f3f5f7f9fbfdff01e5e7e9ebed"
    ++ codes "eff1f3f5f7f9fbfdff0103")
    ∷ hex (codes "000000058200000006")
    ∷ hex (codes "00000031060000000700010001c5c7c9cbcdcfd1d3d5d7d9dbdddfe1e3c6c7c8c9cacbcccee5e7e9ebedeff1f3f5f7f9"
    ++ codes "fbfdff0103")
    ∷ hex (codes "000000058200000007")
    ∷ search_a
    ∷ hex (codes "000000148501000200000000000000020000000000000003")
    ∷ search_d
    ∷ hex (codes "0000000c850100010000000000000003")
    ∷ hex (codes "0000002707000000080002d1d3d5d7d9dbdddfe1e3e5e7e9ebedefd3d5d7d9dbdddfe1e3e5e7e9ebedeff1")
    ∷ hex (codes "000000058200000008")
    ∷ hex (codes "00000041060000000900010002cbcdcfd1d3d5d7d9dbdddfe1e3e5e7e9cccdcecfd0d1d2d2cfd1d3d5d7d9dbdddfe1e3"
    ++ codes "e5e7e9ebedd1d3d5d7d9dbdddfe1e3e5e7e9ebedef")
    ∷ hex (codes "000000058200000009")
    ∷ search_a
    ∷ hex (codes "0000001c85010003000000000000000100000000000000020000000000000003")
    ∷ search_b
    ∷ hex (codes "0000000c850100010000000000000001")
    ∷ search_c
    ∷ hex (codes "0000000c850100010000000000000002")
    ∷ search_d
    ∷ hex (codes "000000148501000200000000000000030000000000000001")
    ∷ hex (codes "00000027070000000a0002d7d9dbdddfe1e3e5e7e9ebedeff1f3f5dbdddfe1e3e5e7e9ebedeff1f3f5f7f9")
    ∷ hex (codes "00000005820000000a")
    ∷ hex (codes "00000031060000000b00010001c7c9cbcdcfd1d3d5d7d9dbdddfe1e3e5c8c9cacbcccdcecddbdddfe1e3e5e7e9ebedef"
    ++ codes "f1f3f5f7f9")
    ∷ hex (codes "00000005820000000b")
    ∷ search_b
    ∷ hex (codes "000000148501000200000000000000010000000000000002")
    ∷ search_c
    ∷ hex (codes "0000000c850100010000000000000002")
    ∷ []
words_renewed_session = refl

-- one document added, deleted, added, deleted and added again, and another one beside it; of its two numbers the one of
-- the second word is below the other
abbrev repeated_adds : Run
repeated_adds = record {
  setup = setup_of (document 1 (a ∷ []) ∷ []) 1 1;
  later = Search b ∷ Add (document 7 (a ∷ b ∷ [])) ∷ Search a ∷ Search b ∷ Delete 7 ∷ Search a ∷ Search b ∷
      Add (document 7 (a ∷ b ∷ [])) ∷ Search a ∷ Search b ∷ Delete 7 ∷ Search b ∷ Add (document 7 (a ∷ b ∷ [])) ∷
      Add (document 6 (b ∷ a ∷ [])) ∷ Search a ∷ Search b ∷ Delete 6 ∷ Search b ∷ [];
}

repeated_adds_session : session_bytes (Some repeated_adds) ≡
    hex (codes "0000000101")
    ∷ hex (codes "000000058100000000")
    ∷ hex (codes "000000110200000000000100010000000100000000")
    ∷ hex (codes "000000058200000000")
    ∷ hex (codes "00000022030000000100090001c3c5c7c9cbcdcfd1d3d5d7d9dbdddfe1c4c5c6c7c8c9cacbcd")
    ∷ hex (codes "000000058200000001")
    ∷ hex (codes "000000050500000002")
    ∷ hex (codes "000000058200000002")
    ∷ search_b
    ∷ hex (codes "0000000485010000")
    ∷ hex (codes "00000039060000000300020000c5c7c9cbcdcfd1d3d5d7d9dbdddfe1e3c6c7c8c9cacbcccac7c9cbcdcfd1d3d5d7d9db"
    ++ codes "dddfe1e3e5c8c9cacbcccdcec8")
    ∷ hex (codes "000000058200000003")
    ∷ search_a
    ∷ hex (codes "000000148501000200000000000000010000000000000007")
    ∷ search_b
    ∷ hex (codes "0000000c850100010000000000000007")
    ∷ hex (codes "000000270700000004000201030507090b0d0f11131517191b1d1fff01030507090b0d0f11131517191b1d")
    ∷ hex (codes "000000058200000004")
    ∷ search_a
    ∷ hex (codes "0000000c850100010000000000000001")
    ∷ search_b
    ∷ hex (codes "0000000485010000")
    ∷ hex (codes "0000002906000000050000000201030507090b0d0f11131517191b1d1fff01030507090b0d0f11131517191b1d")
    ∷ hex (codes "000000058200000005")
    ∷ search_a
    ∷ hex (codes "000000148501000200000000000000010000000000000007")
    ∷ search_b
    ∷ hex (codes "0000000c850100010000000000000007")
    ∷ hex (codes "000000270700000006000201030507090b0d0f11131517191b1d1fff01030507090b0d0f11131517191b1d")
    ∷ hex (codes "000000058200000006")
    ∷ search_b
    ∷ hex (codes "0000000485010000")
    ∷ hex (codes "0000002906000000070000000201030507090b0d0f11131517191b1d1fff01030507090b0d0f11131517191b1d")
    ∷ hex (codes "000000058200000007")
    ∷ hex (codes "00000039060000000800020000cdcfd1d3d5d7d9dbdddfe1e3e5e7e9ebc7c8c9cacbcccdc8cfd1d3d5d7d9dbdddfe1e3"
    ++ codes "e5e7e9ebedc9cacbcccdcecfd6")
    ∷ hex (codes "000000058200000008")
    ∷ search_a
    ∷ hex (codes "0000001c85010003000000000000000100000000000000070000000000000006")
    ∷ search_b
    ∷ hex (codes "000000148501000200000000000000070000000000000006")
    ∷ hex (codes "0000002707000000090002f7f9fbfdff01030507090b0d0f111315f9fbfdff01030507090b0d0f11131517")
    ∷ hex (codes "000000058200000009")
    ∷ search_b
    ∷ hex (codes "0000000c850100010000000000000007")
    ∷ []
repeated_adds_session = refl

-- lists of four identifiers, of one and of two, so of each kind, over cells of one and blocks of two, and then updates
abbrev each_kind : Run
each_kind = record {
  setup = setup_of (document 4 (y ∷ c ∷ b ∷ []) ∷ document 2 (b ∷ y ∷ []) ∷ document 9 (y ∷ []) ∷ document 3 (y ∷ []) ∷ []) 1 2;
  later = Search y ∷ Search b ∷ Search c ∷ Search d ∷ Add (document 7 (y ∷ c ∷ d ∷ [])) ∷ Delete 4 ∷ Search y ∷ Search b ∷
      Search c ∷ Add (document 4 (b ∷ [])) ∷ Search b ∷ Search y ∷ Delete 2 ∷ Search b ∷ Search y ∷ Search d ∷ [];
}

each_kind_session : session_bytes (Some each_kind) ≡
    hex (codes "0000000101")
    ∷ hex (codes "000000058100000000")
    ∷ hex (codes "000000110200000000000100020000000300000004")
    ∷ hex (codes "000000058200000000")
    ∷ hex (codes "00000054030000000100090003c5c7c9cbcdcfd1d3d5d7d9dbdddfe1e3c7c7c8c9cacbcccdcdc7c9cbcdcfd1d3d5d7d9"
    ++ codes "dbdddfe1e3e5c8c9cacbcccdcecfd4f3f5f7f9fbfdff01030507090b0d0f11f6f5f6f7f8f9fafbf8")
    ∷ hex (codes "000000058200000001")
    ∷ hex (codes "00000049040000000200100004f6f7f8f9fafbfcf9feff000102030407f7f8f9fafbfcfdf7ff00010203040505c7c8c9"
    ++ codes "cacbcccdcacfd0d1d2d3d4d5d4f5f6f7f8f9fafbfdfdfeff0001020306")
    ∷ hex (codes "000000058200000002")
    ∷ hex (codes "000000050500000003")
    ∷ hex (codes "000000058200000003")
    ∷ search_y
    ∷ hex (codes "00000024850100040000000000000004000000000000000200000000000000090000000000000003")
    ∷ search_b
    ∷ hex (codes "000000148501000200000000000000040000000000000002")
    ∷ search_c
    ∷ hex (codes "0000000c850100010000000000000004")
    ∷ search_d
    ∷ hex (codes "0000000485010000")
    ∷ hex (codes "00000051060000000400030000c9cbcdcfd1d3d5d7d9dbdddfe1e3e5e7cacbcccdcecfd0d6cbcdcfd1d3d5d7d9dbdddf"
    ++ codes "e1e3e5e7e9cccdcecfd0d1d2d4f5f7f9fbfdff01030507090b0d0f1113f6f7f8f9fafbfcfa")
    ∷ hex (codes "000000058200000004")
    ∷ hex (codes "000000370700000005000317191b1d1f21232527292b2d2f313335e9ebedeff1f3f5f7f9fbfdff01030507ebedeff1f3"
    ++ codes "f5f7f9fbfdff0103050709")
    ∷ hex (codes "000000058200000005")
    ∷ search_y
    ∷ hex (codes "00000024850100040000000000000002000000000000000900000000000000030000000000000007")
    ∷ search_b
    ∷ hex (codes "0000000c850100010000000000000002")
    ∷ search_c
    ∷ hex (codes "0000000c850100010000000000000007")
    ∷ hex (codes "00000019060000000600000001e9ebedeff1f3f5f7f9fbfdff01030507")
    ∷ hex (codes "000000058200000006")
    ∷ search_b
    ∷ hex (codes "000000148501000200000000000000040000000000000002")
    ∷ search_y
    ∷ hex (codes "00000024850100040000000000000002000000000000000900000000000000030000000000000007")
    ∷ hex (codes "000000270700000007000207090b0d0f11131517191b1d1f212325d9dbdddfe1e3e5e7e9ebedeff1f3f5f7")
    ∷ hex (codes "000000058200000007")
    ∷ search_b
    ∷ hex (codes "0000000c850100010000000000000004")
    ∷ search_y
    ∷ hex (codes "0000001c85010003000000000000000900000000000000030000000000000007")
    ∷ search_d
    ∷ hex (codes "0000000c850100010000000000000007")
    ∷ []
each_kind_session = refl

-- none of these runs has a collision, so what is said of such runs is said of these

words_renewed_free : IsCollisionFree (zero_table words_renewed.setup.shape) at_first words_renewed
words_renewed_free = IsCollisionFree-from_test (zero_table words_renewed.setup.shape) at_first words_renewed refl

repeated_adds_free : IsCollisionFree (zero_table repeated_adds.setup.shape) at_first repeated_adds
repeated_adds_free = IsCollisionFree-from_test (zero_table repeated_adds.setup.shape) at_first repeated_adds refl

each_kind_free : IsCollisionFree (zero_table each_kind.setup.shape) at_first each_kind
each_kind_free = IsCollisionFree-from_test (zero_table each_kind.setup.shape) at_first each_kind refl
