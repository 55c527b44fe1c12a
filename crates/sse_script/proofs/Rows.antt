-- Literal lines and texts, computed by the checker.
use Rattle.std.proofs.Common.{◌≡◌, ◌∷◌, [], ◌++◌, codes, Some, None, refl}
use Rattle.std.specs.Fmt.{digits}
use Rattle.hex.proofs.OnLiterals.{hex_on_literals}
use Rattle.sse_script.specs.Lines.{line_of, Empty, Key, Doc, SetupLine, AddLine, Find, Query, Rebuild}
use Rattle.sse_script.specs.Shown as shown
use Rattle.sse_script.specs.declared.refusal.Refusal.TheVariants as refusals
use Rattle.sse_script.specs.Stops.{cause_status}
use Rattle.sse_script.specs.Texts.{text_of}

-- lines of the grammar
empty_line : line_of (codes "   ") ≡ Some Empty
empty_line = refl

doc_line : line_of (codes " doc 3  a b ") ≡ Some (Doc 3 (codes "a" ∷ codes "b" ∷ []))
doc_line = refl

setup_line : line_of (codes "setup 4 18446744073709551615") ≡ Some (SetupLine 4 18446744073709551615 1)
setup_line = refl

setup_with_q : line_of (codes "setup 4 8 16") ≡ Some (SetupLine 4 8 16)
setup_with_q = refl

add_line : line_of (codes "add 0") ≡ Some (AddLine 0 [])
add_line = refl

find_line : line_of (codes "find twin") ≡ Some (Find (codes "twin"))
find_line = refl

query_line : line_of (codes "query =a not  ( =b or =c )") ≡ Some (Query (codes "=a" ∷ codes "not" ∷ codes "(" ∷ codes "=b" ∷ codes "or" ∷ codes "=c" ∷ codes ")" ∷ []))
query_line = refl

no_query : line_of (codes "query") ≡ Some (Query [])
no_query = refl

key_line : line_of (codes "key " ++ codes "000102030405060708090a0b0c0d0e0f101112131415161718191A1B1C1D1E1F")
    ≡ Some (Key (0 ∷ 1 ∷ 2 ∷ 3 ∷ 4 ∷ 5 ∷ 6 ∷ 7 ∷ 8 ∷ 9 ∷ 10 ∷ 11 ∷ 12 ∷ 13 ∷ 14 ∷ 15 ∷ 16 ∷ 17 ∷ 18 ∷ 19 ∷ 20 ∷ 21 ∷ 22 ∷ 23 ∷ 24 ∷ 25 ∷ 26 ∷ 27 ∷ 28 ∷ 29 ∷ 30 ∷ 31 ∷ []))
unfolding hex_on_literals
key_line = refl

rebuild_line : line_of (codes "rebuild " ++ codes "000102030405060708090a0b0c0d0e0f101112131415161718191A1B1C1D1E1F")
    ≡ Some (Rebuild (0 ∷ 1 ∷ 2 ∷ 3 ∷ 4 ∷ 5 ∷ 6 ∷ 7 ∷ 8 ∷ 9 ∷ 10 ∷ 11 ∷ 12 ∷ 13 ∷ 14 ∷ 15 ∷ 16 ∷ 17 ∷ 18 ∷ 19 ∷ 20 ∷ 21 ∷ 22 ∷ 23 ∷ 24 ∷ 25 ∷ 26 ∷ 27 ∷ 28 ∷ 29 ∷ 30 ∷ 31 ∷ []))
unfolding hex_on_literals
rebuild_line = refl

-- lines outside it
leading_zero : line_of (codes "del 03") ≡ None
leading_zero = refl

too_large : line_of (codes "del 18446744073709551616") ≡ None
too_large = refl

four_numbers : line_of (codes "setup 4 8 16 1") ≡ None
four_numbers = refl

two_words : line_of (codes "find a b") ≡ None
two_words = refl

twin_line : line_of (codes "twin") ≡ None
twin_line = refl

rebuild_with_63_digits : line_of (codes "rebuild 000102030405060708090a0b0c0d0e0f101112131415161718191a1b1c1d1e1") ≡ None
unfolding hex_on_literals
rebuild_with_63_digits = refl

rebuild_with_65_digits : line_of (codes "rebuild 000102030405060708090a0b0c0d0e0f101112131415161718191a1b1c1d1e1f0") ≡ None
unfolding hex_on_literals
rebuild_with_65_digits = refl

rebuild_with_two_keys : line_of (codes "rebuild 000102030405060708090a0b0c0d0e0f101112131415161718191a1b1c1d1e1f 1") ≡ None
rebuild_with_two_keys = refl

rebuild_without_key : line_of (codes "rebuild") ≡ None
rebuild_without_key = refl

-- printed lines
set_up_text : text_of (shown.SetUp 2 0) ≡ codes "set up 2 words 0 blocks" ++ 10 ∷ []
unfolding digits
set_up_text = refl

rebuilt_text : text_of (shown.Rebuilt 2 1) ≡ codes "rebuilt 2 words 1 blocks" ++ 10 ∷ []
unfolding digits
rebuilt_text = refl

found_text : text_of (shown.Found (3 ∷ 9 ∷ [])) ≡ codes "found 2: 3 9" ++ 10 ∷ []
unfolding digits
found_text = refl

found_none_text : text_of (shown.Found []) ≡ codes "found 0:" ++ 10 ∷ []
unfolding digits
found_none_text = refl

matched_text : text_of (shown.Matched (3 ∷ 9 ∷ 12 ∷ [])) ≡ codes "matched 3: 3 9 12" ++ 10 ∷ []
unfolding digits
matched_text = refl

many_fields_text : text_of (shown.Refused (refusals.TooManyFields 65)) ≡ codes "refused: query has 65 fields" ++ 10 ∷ []
unfolding digits
many_fields_text = refl

wrong_query_text : text_of (shown.Refused (refusals.BadQuery 2)) ≡ codes "refused: query is wrong at 2" ++ 10 ∷ []
unfolding digits
wrong_query_text = refl

refused_text : text_of (shown.Refused (refusals.BadParameter 2 3)) ≡ codes "refused: Q is 3" ++ 10 ∷ []
unfolding digits
refused_text = refl

used_key_text : text_of (shown.Refused (refusals.KeyUsed 3)) ≡ codes "refused: key of epoch 3" ++ 10 ∷ []
unfolding digits
used_key_text = refl

stopped_text : text_of (shown.Stopped (shown.LabelClash 0 1)) ≡ codes "stopped: labels of words 0 and 1 are equal" ++ 10 ∷ []
unfolding digits
stopped_text = refl

reply_text : text_of (shown.Stopped (shown.BadReply (0 ∷ 0 ∷ 0 ∷ 5 ∷ 131 ∷ 0 ∷ 0 ∷ 0 ∷ 171 ∷ []))) ≡ codes "stopped: reply 0000000583000000ab" ++ 10 ∷ []
unfolding hex_on_literals
reply_text = refl

-- the status of a cause
stopped_status : cause_status (shown.BadLine 3) ≡ 2
stopped_status = refl
