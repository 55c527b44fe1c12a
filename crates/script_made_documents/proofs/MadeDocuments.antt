-- The words of a made script are words, and no document of it has one of them twice.
use Rattle.std.proofs.Common.{◌≡◌, ℕ, zero, suc, ◌+◌, ◌*◌, ◌%◌, ◌<◌, ◌≤◌, ◌^◌, ◌&&◌, Bool, true, false, List, [], ◌∷◌, ◌++◌, length, map, nat_lt, get_or, refl, sym, ap, ◌∙◌, arith, Option, None, Some, if◌then◌else◌}
use Rattle.std.specs.Prelude.{codes, decimal, option_map}
use Rattle.std.specs.Char.{is_ascii_digit}
use Rattle.std.specs.List.{list_all, position_or_len, range_with_len}
use Rattle.std.specs.Option.{option_and_then, option_or}
use Rattle.std.specs.Str.{IsAscii}
use Rattle.std.specs.Str.Lossy.{utf8_valid_len}
use Rattle.std.proofs.lemmas.Bool.{and_parts, and_from, ltb-true, ne_eqb}
use Rattle.std.proofs.lemmas.Bool.Decides.{nat_tests}
use Rattle.std.proofs.lemmas.Fmt.{decimal_injective, digits_decimal, length-decimal-le}
use Rattle.std.proofs.lemmas.List.FromFn.{get_or-map-range_with_len}
use Rattle.std.proofs.lemmas.Str.{IsUtf8-from_ascii, utf8_valid_len-IsUtf8}
use Rattle.std.proofs.lemmas.Str.Ascii.{IsAscii-nil, IsAscii-cons}
use Rattle.client_registry.specs.DocumentRule.{doc_refusal, first_repeat}
use Rattle.client_registry.specs.FirstClash.{first_clash}
use Rattle.client_registry.specs.WordRule.{is_forbidden, word_refusal}
use Rattle.client_registry.proofs.DistinctLaws.{first_clash-places}
use Rattle.client_registry.proofs.DocumentLaws.{doc_refusal-none}
use Rattle.script_documents.specs.Refused.{bad_word, document_refusal, doc_refused}
use Rattle.client_registry.specs.declared.faults.DocFault.{DocFault}
use Rattle.sse_script.specs.declared.refusal.Refusal.{Refusal}
use Rattle.sse_script.specs.declared.refusal.Refusal.TheVariants.{Zero}
use Rattle.sse_script.proofs.NumberLemmas.{own}
use Rattle.sse_script.specs.Fields.{fields_of}
use Rattle.script_made_lines.specs.Lines.{words_text}
use Rattle.script_made_lines.specs.Words.{made_words, shared_word}
use Rattle.script_made_lines.proofs.FieldsLaws.{fields_of-words}
use Rattle.script_made_lines.proofs.ReadingLaws.{made_are_plain}

-- ---- words

-- bytes that stand in made words: visible ASCII
abbrev AreVisible : List ℕ → Type 0
AreVisible bytes = list_all (λ byte. nat_lt 32 byte && nat_lt byte 127) bytes ≡ true

visible_digit : (b : ℕ) → is_ascii_digit b ≡ true → (nat_lt 32 b && nat_lt b 127) ≡ true
visible_digit b e = grind (arith, nat_tests)

visible_digits : (bytes : List ℕ) → list_all is_ascii_digit bytes ≡ true → AreVisible bytes
visible_digits [] e = refl
visible_digits (b ∷ bytes) e =
    let parts = and_parts (is_ascii_digit b) (list_all is_ascii_digit bytes) e in
    and_from _ _ (visible_digit b parts.0) (visible_digits bytes parts.1)

allowed : (b : ℕ) → (nat_lt 32 b && nat_lt b 127) ≡ true → is_forbidden b ≡ false
allowed b e = grind (arith, nat_tests)

none_forbidden : (bytes : List ℕ) → AreVisible bytes → position_or_len is_forbidden bytes ≡ length bytes
none_forbidden [] e = refl
none_forbidden (b ∷ bytes) e =
    let parts = and_parts (nat_lt 32 b && nat_lt b 127) (list_all (λ byte. nat_lt 32 byte && nat_lt byte 127) bytes) e in
    let no = allowed b parts.0 in
    let rest = none_forbidden bytes parts.1 in
    grind (arith, no, rest)

ascii : (bytes : List ℕ) → AreVisible bytes → IsAscii bytes
ascii [] e = IsAscii-nil
ascii (b ∷ bytes) e =
    let parts = and_parts (nat_lt 32 b && nat_lt b 127) (list_all (λ byte. nat_lt 32 byte && nat_lt byte 127) bytes) e in
    let below = ltb-true b 127 (and_parts (nat_lt 32 b) (nat_lt b 127) parts.0).1 in
    IsAscii-cons b bytes (omega (arith, below)) (ascii bytes parts.1)

-- a short visible text is a word
word_refusal-visible : (bytes : List ℕ) → AreVisible bytes → 0 < length bytes → length bytes ≤ 64 → word_refusal bytes ≡ None
word_refusal-visible bytes e some short =
    let clean : position_or_len is_forbidden bytes ≡ length bytes = none_forbidden bytes e in
    let whole : utf8_valid_len bytes ≡ length bytes = utf8_valid_len-IsUtf8 bytes (IsUtf8-from_ascii bytes (ascii bytes e)) in
    grind (arith, nat_tests, clean, whole)

word_refusal-lettered : (letter n : ℕ) → (nat_lt 32 letter && nat_lt letter 127) ≡ true → n < 2 ^ 64 → word_refusal (letter ∷ decimal n) ≡ None
word_refusal-lettered letter n e small =
    let few : length (decimal n) ≤ 20 = length-decimal-le 20 n (omega arith) (omega (arith, small)) small in
    word_refusal-visible (letter ∷ decimal n) (and_from _ _ e (visible_digits (decimal n) (digits_decimal own n small))) (omega arith) (omega (arith, few))

bad_word-cons : (k : ℕ) (word : List ℕ) (words : List (List ℕ)) → word_refusal word ≡ None → bad_word (k + 1) words ≡ None → bad_word k (word ∷ words) ≡ None
bad_word-cons k word words good later = rw (good, later) refl

bad_word-shared : (seed i k : ℕ) (places : List ℕ) → bad_word k (map (shared_word seed i) places) ≡ None
bad_word-shared seed i k [] = refl
bad_word-shared seed i k (j ∷ places) =
    bad_word-cons k (shared_word seed i j) (map (shared_word seed i) places) (word_refusal-lettered 119 ((i + seed + 17 * j) % 1000) refl (omega arith)) (bad_word-shared seed i (k + 1) places)

-- Promise P103, also here
-- each of a document's words is one
pub bad_word-made : (seed i : ℕ) → i < 2 ^ 64 → bad_word 0 (made_words seed i) ≡ None
bad_word-made seed i small =
    let shared = map (shared_word seed i) (range_with_len 0 57) in
    let third = (codes "u" ++ decimal i) ∷ shared in
    let second = (codes "m" ++ decimal (i % 10)) ∷ third in
    bad_word-cons 0 (codes "all") second (word_refusal-visible (codes "all") refl (omega arith) (omega arith))
    (bad_word-cons 1 (codes "m" ++ decimal (i % 10)) third (word_refusal-lettered 109 (i % 10) refl (omega arith))
    (bad_word-cons 2 (codes "u" ++ decimal i) shared (word_refusal-lettered 117 i refl small) (bad_word-shared seed i 3 (range_with_len 0 57))))

-- ---- no word twice

shared_at : (seed i k : ℕ) → k < 57 → get_or (map (shared_word seed i) (range_with_len 0 57)) k [] ≡ shared_word seed i k
shared_at seed i k within = get_or-map-range_with_len (shared_word seed i) 0 57 k k [] within (omega arith)

other : (word shared : List ℕ) (letter : ℕ) (rest : List ℕ) → shared ≡ letter ∷ rest → word ≡ shared → get_or word 0 0 ≡ letter
other word shared letter rest is e = ap (λ (w : List ℕ). get_or w 0 0) (e ∙ is)

same_number : (m n : ℕ) → m < 2 ^ 64 → n < 2 ^ 64 → 119 ∷ decimal m ≡ 119 ∷ decimal n → m ≡ n
same_number m n small small' e = decimal_injective m n small small' (cc)

differ : (seed id i j : ℕ) → i < j → j < 60 → get_or (made_words seed id) i [] ≡ get_or (made_words seed id) j [] → ⊥
differ seed id zero zero less within e = omega arith
differ seed id zero (suc zero) less within e = let no = ap (λ (w : List ℕ). get_or w 0 0) e in omega (arith, no)
differ seed id zero (suc (suc zero)) less within e = let no = ap (λ (w : List ℕ). get_or w 0 0) e in omega (arith, no)
differ seed id zero (suc (suc (suc k))) less within e = let no = other (codes "all") _ 119 _ (shared_at seed id k (omega (arith, within))) e in omega (arith, no)
differ seed id (suc zero) zero less within e = omega arith
differ seed id (suc zero) (suc zero) less within e = omega arith
differ seed id (suc zero) (suc (suc zero)) less within e = let no = ap (λ (w : List ℕ). get_or w 0 0) e in omega (arith, no)
differ seed id (suc zero) (suc (suc (suc k))) less within e = let no = other (codes "m" ++ decimal (id % 10)) _ 119 _ (shared_at seed id k (omega (arith, within))) e in omega (arith, no)
differ seed id (suc (suc zero)) zero less within e = omega arith
differ seed id (suc (suc zero)) (suc zero) less within e = omega arith
differ seed id (suc (suc zero)) (suc (suc zero)) less within e = omega arith
differ seed id (suc (suc zero)) (suc (suc (suc k))) less within e = let no = other (codes "u" ++ decimal id) _ 119 _ (shared_at seed id k (omega (arith, within))) e in omega (arith, no)
differ seed id (suc (suc (suc k))) zero less within e = omega arith
differ seed id (suc (suc (suc k))) (suc zero) less within e = omega arith
differ seed id (suc (suc (suc k))) (suc (suc zero)) less within e = omega arith
differ seed id (suc (suc (suc k))) (suc (suc (suc l))) less within e =
    let same = same_number ((id + seed + 17 * k) % 1000) ((id + seed + 17 * l) % 1000) (omega arith) (omega arith)
    (sym (shared_at seed id k (omega (arith, less, within))) ∙ e ∙ shared_at seed id l (omega (arith, within))) in
    omega (arith, same, less, within)

length-made_words : (seed id : ℕ) → length (made_words seed id) ≡ 60
length-made_words seed id = refl

first_repeat-made : (seed id : ℕ) → first_repeat (made_words seed id) ≡ None
first_repeat-made seed id = by (first_clash (made_words seed id)) refl
  where
    by : (o : Option (ℕ × ℕ)) → first_clash (made_words seed id) ≡ o → first_repeat (made_words seed id) ≡ None
    by None is = ap (option_map (λ (places : ℕ × ℕ). places.1)) is
    by (Some places) is =
        let equal = first_clash-places (made_words seed id) places.0 places.1 is in
        absurd (differ seed id places.0 places.1 equal.order equal.within equal.same)

refused_if : (none : Bool) (bad : Option Refusal) (doc : Option DocFault) → Option Refusal
refused_if none bad doc = if none then Some Zero else option_or bad (option_and_then doc_refused doc)

-- Promise P103, also here
-- no document of a made script is refused for what it is
pub document_refusal-made : (seed id : ℕ) → 1 ≤ id → id < 2 ^ 64 → document_refusal id (made_words seed id) ≡ None
unfolding refused_if
document_refusal-made seed id some small =
    let words = made_words seed id in
    ap (λ (none : Bool). refused_if none (bad_word 0 words) (doc_refusal words)) (ne_eqb id 0 (λ e. omega (arith, e, some)))
    ∙ ap (λ (bad : Option Refusal). refused_if false bad (doc_refusal words)) (bad_word-made seed id small)
    ∙ ap (λ (doc : Option DocFault). refused_if false None doc) (doc_refusal-none words (omega arith) (first_repeat-made seed id))

-- ---- a document's words as fields

-- the words behind spaces are the fields of what they make
pub fields_of-made : (seed id : ℕ) → id < 2 ^ 64 → fields_of (words_text (made_words seed id)) ≡ made_words seed id
fields_of-made seed id small =
    let shared = map (shared_word seed id) (range_with_len 0 57) in
    let are = made_are_plain seed id small in
    fields_of-words (codes "all") ((codes "m" ++ decimal (id % 10)) ∷ (codes "u" ++ decimal id) ∷ shared) are.0 are.1
