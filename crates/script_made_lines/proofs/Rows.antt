-- Worked cases of the definitions, computed by the checker.
use Rattle.std.proofs.Common.{◌≡◌, ◌∷◌, [], codes, length, drop, refl}
use Rattle.std.specs.Fmt.{digits}
use Rattle.hex.proofs.OnLiterals.{hex_on_literals}
use Rattle.script_made_lines.specs.Lines.{made_lines, line_text}
use Rattle.script_made_lines.specs.Summary.{made_summary}
use Rattle.script_made_lines.specs.Words.{searched_word}
use Rattle.script_made_lines.specs.declared.made_line.MadeLine.TheVariants.{Key, Doc, SetUp, Delete, Add, Find}

key_line : line_text 999999 Key ≡ codes "key 00000000000000000000000000000000000000000000000000000000000f423f"
unfolding hex_on_literals
key_line = refl

doc_line : line_text 7 (Doc 10) ≡ codes "doc 10 all m0 u10 w17 w34 w51 w68 w85 w102 w119 w136 w153 w170 w187 w204 w221 w238 w255 w272 w289 w306 w323 w340 w357 w374 w391 w408 w425 w442 w459 w476 w493 w510 w527 w544 w561 w578 w595 w612 w629 w646 w663 w680 w697 w714 w731 w748 w765 w782 w799 w816 w833 w850 w867 w884 w901 w918 w935 w952 w969"
unfolding digits
doc_line = refl

set_up_line : line_text 7 SetUp ≡ codes "setup 16 64"
set_up_line = refl

delete_line : line_text 7 (Delete 20) ≡ codes "del 20"
unfolding digits
delete_line = refl

searches : searched_word 7 0 ∷ searched_word 7 1 ∷ searched_word 7 10 ∷ searched_word 7 11 ∷ searched_word 7 199 ∷ [] ≡ codes "all" ∷ codes "m0" ∷ codes "m9" ∷ codes "w62" ∷ codes "w2" ∷ []
unfolding digits
searches = refl

-- one document: nothing is deleted or added
lines_for_one : made_lines 1 ≡ Key ∷ Doc 1 ∷ SetUp ∷ drop 3 (made_lines 1)
lines_for_one = refl

one_is_searched : length (made_lines 1) ≡ 203
one_is_searched = refl

-- twenty: two deletions, of which one comes back, and one document more
updates_for_twenty : drop 22 (made_lines 20) ≡ Delete 10 ∷ Delete 20 ∷ Add 20 ∷ Add 21 ∷ drop 26 (made_lines 20)
updates_for_twenty = refl

searches_last : drop 225 (made_lines 20) ≡ Find 199 ∷ []
searches_last = refl

-- what is told of printed lines
told : made_summary 20 (codes "set up 218 words 66 blocks\ndeleted 10\ndeleted 20\nadded 20\nadded 21\nfound 3: 1 2 20\nfound 0:\nfound 1: 21\n")
    ≡ codes "gen: 20 documents, 218 words, 66 blocks, 2 deleted, 2 added, 200 searches, 4 identifiers\n"
unfolding digits
told = refl

told_of_nothing : made_summary 1 [] ≡ codes "gen: 1 documents, 0 words, 0 blocks, 0 deleted, 0 added, 200 searches, 0 identifiers\n"
unfolding digits
told_of_nothing = refl
