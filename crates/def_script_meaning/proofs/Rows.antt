-- What short scripts print and how they end, by their meaning; each line was computed apart from these definitions.
use Rattle.std.proofs.Common.{◌≡◌, ℕ, List, [], ◌∷◌, ◌++◌, drop, flat_map, get_or, map, Some, None, refl}
use Rattle.std.specs.Prelude.{codes, replicate}
use Rattle.std.specs.Fmt.{digits}
use Rattle.std.specs.Str.{is_utf8, chars}
use Rattle.std.specs.Str.Lossy.{utf8_valid_len}
use Rattle.client_records.specs.Records.{renewal_record}
use Rattle.hex.proofs.OnLiterals.{hex_on_literals}
use Rattle.keyed_fn.specs.KeyFormulas.{mark_of}
use Rattle.keyed_fn.specs.KeyedFn.{KeyedFn, keyed_fn}
use Rattle.keyed_fn.specs.Toy.{toy_prf, toy_pad}
use Rattle.sse_frames.specs.Frames.{frame_bytes}
use Rattle.sse_script.specs.Shown.{Found}
use Rattle.sse_script.specs.Texts.{text_of}
use Rattle.def_script_meaning.specs.Carries.{with_answers}
use Rattle.def_script_meaning.specs.Lines.{lines_in}
use Rattle.def_script_meaning.specs.Meaning.{Meaning, meant}
use Rattle.def_script_meaning.specs.Outcome.{Finds, said}
use Rattle.def_script_meaning.specs.Recorded.{records_with}
use Rattle.def_script_meaning.specs.Session.{frames_of}
use Rattle.def_script_meaning.specs.Stops.{stop_text, status_of}
use lib.Utf8.{encode}

-- a key line of 64 zeros
abbrev key_zero : List ℕ
key_zero = codes "key " ++ replicate 64 48

abbrev of_lines : List (List ℕ) → Meaning
of_lines lines = meant (Some (λ key. key)) (lines_in lines)

-- all that is printed for these lines after the key line
abbrev printed : List (List ℕ) → List ℕ
printed lines = flat_map text_of (map said (of_lines (key_zero ∷ lines)).shown) ++ stop_text (of_lines (key_zero ∷ lines)).end

found_in_order :
    printed (codes "doc 9 a b" ∷ codes "doc 3 a" ∷ codes "setup 4 4" ∷ codes "find a" ∷ codes "find z" ∷ [])
    ≡ codes "set up 2 words 0 blocks\nfound 2: 3 9\nfound 0:\n"
unfolding digits hex_on_literals utf8_valid_len is_utf8 chars encode
found_in_order = refl

set_up_without_documents :
    printed (codes "setup 4 4" ∷ codes "find a" ∷ codes "add 1 a" ∷ codes "find a" ∷ [])
    ≡ codes "set up 0 words 0 blocks\nfound 0:\nadded 1\nfound 1: 1\n"
unfolding digits hex_on_literals utf8_valid_len is_utf8 chars encode
set_up_without_documents = refl

five_in_blocks :
    printed (codes "doc 1 a" ∷ codes "doc 2 a" ∷ codes "doc 3 a" ∷ codes "doc 4 a" ∷ codes "doc 5 a" ∷ codes "setup 2 2" ∷ codes "find a" ∷ [])
    ≡ codes "set up 1 words 5 blocks\nfound 5: 1 2 3 4 5\n"
unfolding digits hex_on_literals utf8_valid_len is_utf8 chars encode
five_in_blocks = refl

too_long_a_list :
    printed (codes "doc 1 a" ∷ codes "doc 2 a" ∷ codes "doc 3 a" ∷ codes "setup 1 1" ∷ [])
    ≡ codes "refused: list of word 0 has 3 identifiers\n"
unfolding digits hex_on_literals utf8_valid_len is_utf8 chars encode
too_long_a_list = refl

deleted_twice :
    printed (codes "doc 3 a b" ∷ codes "doc 9 a" ∷ codes "setup 4 4" ∷ codes "del 3" ∷ codes "find a" ∷ codes "del 3" ∷ [])
    ≡ codes "set up 2 words 0 blocks\ndeleted 3\nfound 1: 9\nrefused: unknown document 3\n"
unfolding digits hex_on_literals utf8_valid_len is_utf8 chars encode
deleted_twice = refl

added_again :
    printed (codes "doc 1 a" ∷ codes "setup 1 1" ∷ codes "add 5 a" ∷ codes "del 5" ∷ codes "add 5 a c" ∷ codes "find a" ∷ [])
    ≡ codes "set up 1 words 0 blocks\nadded 5\ndeleted 5\nadded 5\nfound 2: 1 5\n"
unfolding digits hex_on_literals utf8_valid_len is_utf8 chars encode
added_again = refl

live_already :
    printed (codes "doc 5 a" ∷ codes "setup 1 1" ∷ codes "add 5 a" ∷ codes "add 6 a" ∷ [])
    ≡ codes "set up 1 words 0 blocks\nrefused: document 5 is live\nadded 6\n"
unfolding digits hex_on_literals utf8_valid_len is_utf8 chars encode
live_already = refl

another_word :
    printed (codes "doc 5 a" ∷ codes "setup 1 1" ∷ codes "del 5" ∷ codes "add 5 c" ∷ codes "find a" ∷ codes "find c" ∷ [])
    ≡ codes "set up 1 words 0 blocks\ndeleted 5\nadded 5\nfound 0:\nfound 1: 5\n"
unfolding digits hex_on_literals utf8_valid_len is_utf8 chars encode
another_word = refl

without_words :
    printed (codes "doc 1 a" ∷ codes "setup 1 1" ∷ codes "add 2" ∷ codes "del 2" ∷ codes "add 3 a" ∷ [])
    ≡ codes "set up 1 words 0 blocks\nadded 2\ndeleted 2\nadded 3\n"
unfolding digits hex_on_literals utf8_valid_len is_utf8 chars encode
without_words = refl

limits_of_words :
    printed (codes "doc 1 a" ∷ codes "doc 18446744073709551615 a" ∷ codes "doc 0 a" ∷ (codes "doc 2 " ++ replicate 64 120) ∷ (codes "doc 4 " ++ replicate 65 120) ∷ codes "setup 4 4" ∷ codes "find a" ∷ [])
    ≡ codes "refused: identifier zero\nrefused: word 0 is too long: 65\nset up 2 words 0 blocks\nfound 2: 1 18446744073709551615\n"
unfolding digits hex_on_literals utf8_valid_len is_utf8 chars encode
limits_of_words = refl

-- a byte ff and a byte 7f, each in its line
bad_bytes :
    printed ((codes "doc 1 ok " ++ 0xff ∷ []) ∷ codes "setup 1 1" ∷ (codes "find " ++ 0x7f ∷ []) ∷ (codes "add 0 " ++ 0x7f ∷ []) ∷ codes "del 0" ∷ codes "del 7" ∷ [])
    ≡ codes "refused: word 1 has a bad byte at 0\nset up 0 words 0 blocks\nrefused: word 0 has a bad byte at 0\nrefused: identifier zero\nrefused: identifier zero\nrefused: unknown document 7\n"
unfolding digits hex_on_literals utf8_valid_len is_utf8 chars encode
bad_bytes = refl

refusals_in_order :
    printed (codes "find a" ∷ codes "doc 1 a a" ∷ codes "doc 1 a" ∷ codes "doc 1 b" ∷ codes "setup 0 4" ∷ codes "setup 1 257" ∷ codes "setup 1 1" ∷ codes "doc 2 a" ∷ [])
    ≡ codes "refused: not set up\nrefused: word 1 is repeated\nrefused: document 1 is live\nrefused: b is 0\nrefused: B is 257\nset up 1 words 0 blocks\nrefused: set up already\n"
unfolding digits hex_on_literals utf8_valid_len is_utf8 chars encode
refusals_in_order = refl

-- a third number of the setup that is no power of two, and one that is; the counts are those without dummies
with_dummies :
    printed (codes "doc 1 a b" ∷ codes "doc 2 a" ∷ codes "doc 3 a" ∷ codes "setup 0 2 3" ∷ codes "setup 2 2 3" ∷ codes "setup 2 2 4" ∷ codes "find a" ∷ codes "find z" ∷ [])
    ≡ codes "refused: b is 0\nrefused: Q is 3\nset up 2 words 2 blocks\nfound 3: 1 2 3\nfound 0:\n"
unfolding digits hex_on_literals utf8_valid_len is_utf8 chars encode
with_dummies = refl

-- an addition and a deletion before the setup, and after one
before_and_behind :
    printed (codes "add 0 a" ∷ codes "doc 1 a" ∷ codes "doc 2 a" ∷ codes "del 1" ∷ codes "setup 1 0" ∷ codes "setup 1 2" ∷ codes "del 1" ∷ codes "find a" ∷ [])
    ≡ codes "refused: not set up\nrefused: not set up\nrefused: B is 0\nset up 1 words 1 blocks\ndeleted 1\nfound 1: 2\n"
unfolding digits hex_on_literals utf8_valid_len is_utf8 chars encode
before_and_behind = refl

-- a document of the setup deleted, and added again with another word
set_up_then_added_again :
    printed (codes "doc 1 a" ∷ codes "setup 1 1" ∷ codes "add 2 a b" ∷ codes "find a" ∷ codes "del 1" ∷ codes "find a" ∷ codes "add 1 b" ∷ codes "find b" ∷ codes "find a" ∷ [])
    ≡ codes "set up 1 words 0 blocks\nadded 2\nfound 2: 1 2\ndeleted 1\nfound 1: 2\nadded 1\nfound 2: 1 2\nfound 1: 2\n"
unfolding digits hex_on_literals utf8_valid_len is_utf8 chars encode
set_up_then_added_again = refl

-- an added document deleted, and added again without one of its words; the list of the setup is in a block
added_again_with_fewer :
    printed (codes "doc 1 a" ∷ codes "doc 2 a b" ∷ codes "setup 1 2" ∷ codes "add 7 b a" ∷ codes "del 7" ∷ codes "find b" ∷ codes "add 7 a" ∷ codes "find a" ∷ codes "find b" ∷ [])
    ≡ codes "set up 2 words 1 blocks\nadded 7\ndeleted 7\nfound 1: 2\nadded 7\nfound 3: 1 2 7\nfound 1: 2\n"
unfolding digits hex_on_literals utf8_valid_len is_utf8 chars encode
added_again_with_fewer = refl

refusals_behind :
    printed (codes "doc 1 a" ∷ codes "setup 1 1" ∷ codes "add 1 a" ∷ codes "add 0" ∷ codes "add 2 a a" ∷ codes "del 3" ∷ codes "del 0" ∷ [])
    ≡ codes "set up 1 words 0 blocks\nrefused: document 1 is live\nrefused: identifier zero\nrefused: word 1 is repeated\nrefused: unknown document 3\nrefused: identifier zero\n"
unfolding digits hex_on_literals utf8_valid_len is_utf8 chars encode
refusals_behind = refl

-- a bad line ends a script, and what stands after it means nothing
bad_line :
    printed (codes "doc 1 a" ∷ codes "setup 1 1" ∷ [] ∷ codes "find" ∷ codes "find a" ∷ [])
    ≡ codes "set up 1 words 0 blocks\nstopped: line 5\n"
unfolding digits hex_on_literals utf8_valid_len is_utf8 chars encode
bad_line = refl

second_key : printed (key_zero ∷ codes "setup 1 1" ∷ []) ≡ codes "stopped: line 2\n"
unfolding digits hex_on_literals
second_key = refl

no_line : stop_text (of_lines []).end ≡ codes "stopped: line 1\n"
unfolding digits
no_line = refl

no_key : stop_text (of_lines ([] ∷ [] ∷ [])).end ≡ codes "stopped: line 3\n"
unfolding digits
no_key = refl

late_key : stop_text (of_lines ([] ∷ codes "setup 1 1" ∷ key_zero ∷ [])).end ≡ codes "stopped: line 2\n"
unfolding digits
late_key = refl

-- the statuses of all this
status_of_found : status_of (of_lines (key_zero ∷ codes "setup 1 1" ∷ codes "find a" ∷ [])).end ≡ 0
unfolding hex_on_literals utf8_valid_len is_utf8 chars encode
status_of_found = refl

status_of_refused : status_of (of_lines (key_zero ∷ codes "find a" ∷ codes "setup 1 1" ∷ [])).end ≡ 1
unfolding hex_on_literals utf8_valid_len is_utf8 chars encode
status_of_refused = refl

status_of_bad_line : status_of (of_lines (key_zero ∷ codes "find a" ∷ codes "setup 1" ∷ [])).end ≡ 2
unfolding hex_on_literals utf8_valid_len is_utf8 chars encode
status_of_bad_line = refl

-- A new key: a document of the setup deleted, another added, and then this line.
abbrev with_renewal : List ℕ → List (List ℕ)
with_renewal line = codes "doc 1 a" ∷ codes "doc 2 a" ∷ codes "setup 1 2" ∷ codes "del 1" ∷ codes "add 3 a" ∷ line ∷ codes "find a" ∷ []

-- 32 bytes 01
abbrev of_ones : List ℕ
of_ones = codes "rebuild " ++ flat_map (λ b. b) (replicate 32 (codes "01"))

abbrev of_zeros : List ℕ
of_zeros = codes "rebuild " ++ replicate 64 48

rebuilt :
    printed (with_renewal of_ones)
    ≡ codes "set up 1 words 1 blocks\ndeleted 1\nadded 3\nrebuilt 1 words 1 blocks\nfound 2: 2 3\n"
unfolding digits hex_on_literals utf8_valid_len is_utf8 chars encode
rebuilt = refl

status_of_rebuilt : status_of (of_lines (key_zero ∷ with_renewal of_ones)).end ≡ 0
unfolding hex_on_literals utf8_valid_len is_utf8 chars encode
status_of_rebuilt = refl

-- the same under the toy function; frame 7 is that of the renewed setup's dictionary
abbrev toy : KeyedFn
toy = keyed_fn toy_prf toy_pad

abbrev under_toy : Meaning
under_toy = meant (Some (mark_of toy)) (lines_in (key_zero ∷ with_renewal of_ones))

rebuilt_under_toy : flat_map text_of (map said under_toy.shown) ≡ codes "set up 1 words 1 blocks\ndeleted 1\nadded 3\nrebuilt 1 words 1 blocks\nfound 2: 2 3\n"
unfolding digits hex_on_literals utf8_valid_len is_utf8 chars encode
rebuilt_under_toy = refl

seventh_frame : get_or (map frame_bytes (frames_of toy under_toy)) 7 []
    ≡ 0x00 ∷ 0x00 ∷ 0x00 ∷ 0x22 ∷ 0x03 ∷ 0x00 ∷ 0x00 ∷ 0x00 ∷ 0x07 ∷ 0x00 ∷ 0x09 ∷ 0x00 ∷ 0x01 ∷ 0xc4 ∷ 0xc6 ∷ 0xc8 ∷ 0xca ∷ 0xcc ∷ 0xce ∷ 0xd0 ∷ 0xd2 ∷ 0xd4 ∷ 0xd6 ∷ 0xd8 ∷ 0xda ∷ 0xdc ∷ 0xde ∷ 0xe0 ∷ 0xe2 ∷ 0xc4 ∷ 0xc6 ∷ 0xc7 ∷ 0xc8 ∷ 0xc9 ∷ 0xca ∷ 0xcb ∷ 0xcc ∷ 0xcc ∷ []
unfolding hex_on_literals utf8_valid_len is_utf8 chars encode
seventh_frame = refl

-- the record of the renewal stands behind those of the setup and of two updates
fourth_record : drop 3 (records_with toy under_toy.key under_toy.history) ≡ renewal_record (mark_of toy (replicate 32 1)) ∷ []
unfolding hex_on_literals utf8_valid_len is_utf8 chars encode
fourth_record = refl

-- the first epoch's key, and that of the one after it
used_key :
    printed (with_renewal of_zeros)
    ≡ codes "set up 1 words 1 blocks\ndeleted 1\nadded 3\nrefused: key of epoch 0\nfound 2: 2 3\n"
unfolding digits hex_on_literals utf8_valid_len is_utf8 chars encode
used_key = refl

status_of_used_key : status_of (of_lines (key_zero ∷ with_renewal of_zeros)).end ≡ 1
unfolding hex_on_literals utf8_valid_len is_utf8 chars encode
status_of_used_key = refl

used_later :
    printed (of_ones ∷ codes "setup 1 1" ∷ of_ones ∷ of_ones ∷ of_zeros ∷ codes "find a" ∷ [])
    ≡ codes "refused: not set up\nset up 0 words 0 blocks\nrebuilt 0 words 0 blocks\nrefused: key of epoch 1\nrefused: key of epoch 0\nfound 0:\n"
unfolding digits hex_on_literals utf8_valid_len is_utf8 chars encode
used_later = refl

-- where keys aren't compared none is refused
uncompared : status_of (meant None (lines_in (key_zero ∷ with_renewal of_zeros))).end ≡ 0
unfolding hex_on_literals utf8_valid_len is_utf8 chars encode
uncompared = refl

-- other answers than the right ones stand in their places
other_answers : with_answers ((77 ∷ []) ∷ []) (Finds (3 ∷ 9 ∷ []) ∷ Finds (4 ∷ []) ∷ []) ≡ Found (77 ∷ []) ∷ Found [] ∷ []
other_answers = refl
