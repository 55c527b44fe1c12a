-- The made script is read, by the grammar of a script's lines, as the lines that it is made of.
use Rattle.std.proofs.Common.{◌≡◌, ℕ, zero, suc, ◌+◌, ◌-◌, ◌*◌, ◌/◌, ◌%◌, ◌<◌, ◌^◌, ◌==◌, Bool, true, false, List, [], ◌∷◌, ◌++◌, length, map, nat_lt, nat_le, replicate, slice_index, refl, sym, ap, ◌∙◌, append-nil, append_assoc, arith, Option, Some, if◌then◌else◌, option_map}
use Rattle.std.specs.Prelude.{codes, decimal}
use Rattle.std.specs.Int.{w64, byte_at, bytes_high_first, to_be_bytes}
use Rattle.std.specs.List.{list_all, onto_first, range_with_len}
use Rattle.std.specs.Result.{result_ok}
use Rattle.std.proofs.lemmas.Bool.{and_parts, and_from, ltb-true, lt-ltb, ne_eqb}
use Rattle.std.proofs.lemmas.List.Folds.{list_all-append}
use Rattle.hex.specs.Hex.{IsBytes, encode_with, encode_lower, lower_digits}
use Rattle.hex.proofs.HexLemmas.{decode_sized-encode_lower, length-encode_with}
use Rattle.sse_script.specs.Lines as lines
use Rattle.sse_script.specs.Lines.{Line, line_by_kind, line_of}
use Rattle.sse_script.specs.Numbers.{number_of}
use Rattle.sse_script.specs.TextLines.{lines_of}
use Rattle.sse_script.proofs.NumberLemmas.{number_of-decimal}
use Rattle.script_made_lines.specs.Buffer.{IsWithin}
use Rattle.script_made_lines.specs.Lines.{document_text, lines_behind_setup, made_key, made_lines, line_text, words_text}
use Rattle.script_made_lines.specs.ReadLines.{said_by}
use Rattle.script_made_lines.specs.Script.{made_text, text_of_lines}
use Rattle.script_made_lines.specs.Words.{made_words, searched_word, shared_word}
use Rattle.script_made_lines.specs.declared.made_line.MadeLine.{MadeLine}
use Rattle.script_made_lines.specs.declared.made_line.MadeLine.TheVariants.{Key, Doc, SetUp, Delete, Add, Find}
use Rattle.script_made_lines.proofs.FieldsLaws.{is_ink, IsPlain, ArePlain, IsPlain-decimal, IsPlain-lettered, line_of-words}

-- ---- the words

plain : (word : List ℕ) → list_all is_ink word ≡ true → nat_lt 0 (length word) ≡ true → nat_lt (length word) 65 ≡ true → IsPlain word
plain word ink some short = record { ink = ink; some = ltb-true _ _ some; short = (let lt = ltb-true _ _ short in omega (arith, lt)) }

shared_are_plain : (seed i : ℕ) (places : List ℕ) → ArePlain (map (shared_word seed i) places)
shared_are_plain seed i [] = tt
shared_are_plain seed i (j ∷ places) = (IsPlain-lettered 119 ((i + seed + 17 * j) % 1000) refl (omega arith), shared_are_plain seed i places)

pub made_are_plain : (seed i : ℕ) → i < 2 ^ 64 → ArePlain (made_words seed i)
made_are_plain seed i small =
    (plain (codes "all") refl refl refl, (IsPlain-lettered 109 (i % 10) refl (omega arith), (IsPlain-lettered 117 i refl small, shared_are_plain seed i (range_with_len 0 57))))

searched_by : (zeroth tenth : Bool) (seed s : ℕ) → s < 2 ^ 64
    → IsPlain (if zeroth then codes "all" else if tenth then codes "m" ++ decimal (s - 1) else codes "w" ++ decimal ((seed + 5 * s) % 1000))
searched_by true tenth seed s small = plain (codes "all") refl refl refl
searched_by false true seed s small = IsPlain-lettered 109 (s - 1) refl (omega (arith, small))
searched_by false false seed s small = IsPlain-lettered 119 ((seed + 5 * s) % 1000) refl (omega arith)

-- ---- the key

byte_at-below : (k n : ℕ) → byte_at k n < 256
byte_at-below zero n = omega arith
byte_at-below (suc k) n = omega arith

bytes_of_number : (k n : ℕ) → IsBytes (bytes_high_first k n)
bytes_of_number zero n i = let none : 0 < 256 = omega arith in none
bytes_of_number (suc k) n zero = byte_at-below k n
bytes_of_number (suc k) n (suc i) = bytes_of_number k n i

zeros_before : (count : ℕ) (bytes : List ℕ) → IsBytes bytes → IsBytes (replicate count 0 ++ bytes)
zeros_before zero bytes are i = are i
zeros_before (suc count) bytes are zero = let none : 0 < 256 = omega arith in none
zeros_before (suc count) bytes are (suc i) = zeros_before count bytes are i

key_bytes : (seed : ℕ) → IsBytes (made_key seed)
key_bytes seed = zeros_before 24 (to_be_bytes w64 seed) (bytes_of_number 8 seed)

test_at : (p : ℕ → Bool) (bytes : List ℕ) (i : ℕ) → list_all p bytes ≡ true → i < length bytes → p (slice_index bytes i) ≡ true
test_at p [] i all within = absurd (omega arith)
test_at p (b ∷ bytes) zero all within = (and_parts (p b) (list_all p bytes) all).0
test_at p (b ∷ bytes) (suc i) all within = test_at p bytes i (and_parts (p b) (list_all p bytes) all).1 (omega arith)

ink-digits_of : (bytes : List ℕ) → IsBytes bytes → list_all is_ink (encode_with lower_digits bytes) ≡ true
unfolding encode_with
ink-digits_of [] are = refl
ink-digits_of (b ∷ bytes) are =
    let below = are 0 in
    let high : b / 16 < 16 = omega (arith, below) in
    let low : b % 16 < 16 = omega arith in
    and_from _ _ (test_at is_ink lower_digits (b / 16) refl high)
    (and_from _ _ (test_at is_ink lower_digits (b % 16) refl low) (ink-digits_of bytes (λ i. are (suc i))))

key_is_plain : (seed : ℕ) → IsPlain (encode_lower (made_key seed))
key_is_plain seed =
    let len : length (encode_lower (made_key seed)) ≡ 64 = length-encode_with lower_digits (made_key seed) in
    record { ink = ink-digits_of (made_key seed) (key_bytes seed); some = omega (arith, len); short = omega (arith, len) }

-- ---- each line

document_said : (kind : ℕ → List (List ℕ) → Line) (id : ℕ) (words : List (List ℕ)) → id < 2 ^ 64
    → option_map (λ n. kind n words) (number_of (decimal id)) ≡ Some (kind id words)
document_said kind id words small = ap (option_map (λ n. kind n words)) (number_of-decimal id small)

-- a line of the made script says what it is to say
pub line_of-line_text : (seed : ℕ) (line : MadeLine) → IsWithin line → line_of (line_text seed line) ≡ Some (said_by seed line)
line_of-line_text seed Key within =
    let digits = encode_lower (made_key seed) in
    ap (λ (text : List ℕ). line_of (codes "key " ++ text)) (sym (append-nil digits))
    ∙ line_of-words (codes "key") (digits ∷ []) (plain (codes "key") refl refl refl) (key_is_plain seed, tt) (omega arith)
    ∙ ap (λ (key : Option (List ℕ)). option_map lines.Key key) (ap result_ok (decode_sized-encode_lower (made_key seed) 32 refl (key_bytes seed)))
line_of-line_text seed (Doc id) within =
    let small : id < 2 ^ 64 = omega (arith, within) in
    line_of-words (codes "doc") (decimal id ∷ made_words seed id) (plain (codes "doc") refl refl refl) (IsPlain-decimal id small, made_are_plain seed id small) (omega arith)
    ∙ document_said lines.Doc id (made_words seed id) small
line_of-line_text seed SetUp within = refl
line_of-line_text seed (Delete id) within =
    let small : id < 2 ^ 64 = omega (arith, within) in
    ap (λ (text : List ℕ). line_of (codes "del " ++ text)) (sym (append-nil (decimal id)))
    ∙ line_of-words (codes "del") (decimal id ∷ []) (plain (codes "del") refl refl refl) (IsPlain-decimal id small, tt) (omega arith)
    ∙ ap (λ (n : Option ℕ). option_map lines.Del n) (number_of-decimal id small)
line_of-line_text seed (Add id) within =
    let small : id < 2 ^ 64 = omega (arith, within) in
    line_of-words (codes "add") (decimal id ∷ made_words seed id) (plain (codes "add") refl refl refl) (IsPlain-decimal id small, made_are_plain seed id small) (omega arith)
    ∙ document_said lines.AddLine id (made_words seed id) small
line_of-line_text seed (Find number) within =
    let small : number < 2 ^ 64 = omega (arith, within) in
    let word = searched_word seed number in
    ap (λ (text : List ℕ). line_of (codes "find " ++ text)) (sym (append-nil word))
    ∙ line_of-words (codes "find") (word ∷ []) (plain (codes "find") refl refl refl) (searched_by (number == 0) (nat_le number 10) seed number small, tt) (omega arith)

-- ---- the lines of the text

inner_ink : (bytes : List ℕ) → list_all is_ink bytes ≡ true → list_all (nat_lt 10) bytes ≡ true
inner_ink [] ink = refl
inner_ink (b ∷ bytes) ink =
    let parts = and_parts (is_ink b) (list_all is_ink bytes) ink in
    let above = ltb-true 32 b parts.0 in
    and_from _ _ (lt-ltb 10 b (omega (arith, above))) (inner_ink bytes parts.1)

inner_append : (xs ys : List ℕ) → list_all (nat_lt 10) xs ≡ true → list_all (nat_lt 10) ys ≡ true → list_all (nat_lt 10) (xs ++ ys) ≡ true
inner_append xs ys left right = list_all-append (nat_lt 10) xs ys ∙ and_from _ _ left right

inner_words : (words : List (List ℕ)) → ArePlain words → list_all (nat_lt 10) (words_text words) ≡ true
inner_words [] are = refl
inner_words (word ∷ words) are = inner_append (32 ∷ word) (words_text words) (inner_ink word are.0.ink) (inner_words words are.1)

inner_document : (seed id : ℕ) → id < 2 ^ 64 → list_all (nat_lt 10) (document_text seed id) ≡ true
inner_document seed id small =
    let number = IsPlain-decimal id small in
    inner_append (decimal id) (words_text (made_words seed id)) (inner_ink (decimal id) number.ink) (inner_words (made_words seed id) (made_are_plain seed id small))

inner_line : (seed : ℕ) (line : MadeLine) → IsWithin line → list_all (nat_lt 10) (line_text seed line) ≡ true
inner_line seed Key within = let key = key_is_plain seed in inner_ink (encode_lower (made_key seed)) key.ink
inner_line seed (Doc id) within = inner_document seed id (omega (arith, within))
inner_line seed SetUp within = refl
inner_line seed (Delete id) within = let number = IsPlain-decimal id (omega (arith, within)) in inner_ink (decimal id) number.ink
inner_line seed (Add id) within = inner_document seed id (omega (arith, within))
inner_line seed (Find number) within =
    let word = searched_by (number == 0) (nat_le number 10) seed number (omega (arith, within)) in
    inner_ink (searched_word seed number) word.ink

either_line : (ends : Bool) (b : ℕ) (bytes : List ℕ) → List (List ℕ)
either_line ends b bytes = if ends then [] ∷ lines_of bytes else onto_first b (lines_of bytes)

lines_of-ended : (text rest : List ℕ) → list_all (nat_lt 10) text ≡ true → lines_of (text ++ 10 ∷ rest) ≡ text ∷ lines_of rest
unfolding either_line
lines_of-ended [] rest inner = refl
lines_of-ended (b ∷ text) rest inner =
    let parts = and_parts (nat_lt 10 b) (list_all (nat_lt 10) text) inner in
    let above = ltb-true 10 b parts.0 in
    ap (λ (ends : Bool). either_line ends b (text ++ 10 ∷ rest)) (ne_eqb b 10 (λ e. omega (arith, e, above)))
    ∙ ap (onto_first b) (lines_of-ended text rest parts.1)

abbrev AreWithin : List MadeLine → Type 0
AreWithin [] = Unit {0}
AreWithin (line ∷ lines) = IsWithin line × AreWithin lines

within_append : (xs ys : List MadeLine) → AreWithin xs → AreWithin ys → AreWithin (xs ++ ys)
within_append [] ys left right = right
within_append (x ∷ xs) ys left right = (left.0, within_append xs ys left.1 right)

within_run : (f : ℕ → MadeLine) (a n : ℕ) → ((j : ℕ) → j < a + n → IsWithin (f j)) → AreWithin (map f (range_with_len a n))
within_run f a zero are = tt
within_run f a (suc n) are = (are a (omega arith), within_run f (a + 1) n (λ j below. are j (omega (arith, below))))

made_are_within : (n : ℕ) → n < 2 ^ 32 → AreWithin (made_lines n)
made_are_within n few =
    let searches = within_run Find 0 200 (λ j below. let small : j < 2 ^ 36 = omega (arith, below) in small) in
    let later = within_run Add (n + 1) (n / 20) (λ j below. let small : j < 2 ^ 36 = omega (arith, below, few) in small) in
    let back = within_run (λ t. Add (20 * t)) 1 (n / 20) (λ j below. let small : 20 * j < 2 ^ 36 = omega (arith, below, few) in small) in
    let gone = within_run (λ t. Delete (10 * t)) 1 (n / 10) (λ j below. let small : 10 * j < 2 ^ 36 = omega (arith, below, few) in small) in
    let first = within_run Doc 1 n (λ j below. let small : j < 2 ^ 36 = omega (arith, below, few) in small) in (
      tt,
      within_append (map Doc (range_with_len 1 n)) (SetUp ∷ lines_behind_setup n) first (
        tt,
        within_append (map (λ t. Delete (10 * t)) (range_with_len 1 (n / 10))) _ gone
            (within_append (map (λ t. Add (20 * t)) (range_with_len 1 (n / 20))) _ back
            (within_append (map Add (range_with_len (n + 1) (n / 20))) _ later searches)),
      ),
    )

lines_of-text_of_lines : (seed : ℕ) (lines : List MadeLine) → AreWithin lines → lines_of (text_of_lines seed lines) ≡ map (line_text seed) lines
lines_of-text_of_lines seed [] are = refl
lines_of-text_of_lines seed (line ∷ lines) are =
    ap lines_of (append_assoc (line_text seed line) (10 ∷ []) (text_of_lines seed lines))
    ∙ lines_of-ended (line_text seed line) (text_of_lines seed lines) (inner_line seed line are.0)
    ∙ ap (λ (rest : List (List ℕ)). line_text seed line ∷ rest) (lines_of-text_of_lines seed lines are.1)

-- the lines of the script are those that it is made of,
pub lines_of-made_text : (seed n : ℕ) → n < 2 ^ 32 → lines_of (made_text seed n) ≡ map (line_text seed) (made_lines n)
lines_of-made_text seed n few = lines_of-text_of_lines seed (made_lines n) (made_are_within n few)

read_lines : (seed : ℕ) (lines : List MadeLine) → AreWithin lines → map line_of (map (line_text seed) lines) ≡ map (λ line. Some (said_by seed line)) lines
read_lines seed [] are = refl
read_lines seed (line ∷ lines) are =
    ap (λ (first : Option Line). first ∷ map line_of (map (line_text seed) lines)) (line_of-line_text seed line are.0)
    ∙ ap (λ (rest : List (Option Line)). Some (said_by seed line) ∷ rest) (read_lines seed lines are.1)

-- Promise P102, also here
-- and each of them says what it is to say
pub read-made_text : (seed n : ℕ) → n < 2 ^ 32 → map line_of (lines_of (made_text seed n)) ≡ map (λ line. Some (said_by seed line)) (made_lines n)
read-made_text seed n few = ap (map line_of) (lines_of-made_text seed n few) ∙ read_lines seed (made_lines n) (made_are_within n few)
