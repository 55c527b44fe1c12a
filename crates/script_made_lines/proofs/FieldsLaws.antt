-- Fields that are joined by spaces are the fields of what they make.
use Rattle.std.proofs.Common.{◌≡◌, ℕ, suc, ◌+◌, ◌*◌, ◌<◌, ◌≤◌, ◌^◌, Bool, true, false, List, [], ◌∷◌, ◌++◌, length, nat_lt, refl, ap, ◌∙◌, append-nil, length-append, arith, Option, None, if◌then◌else◌}
use Rattle.std.specs.Prelude.{decimal}
use Rattle.std.specs.Char.{is_ascii_digit}
use Rattle.std.specs.List.{filter, list_all, onto_first, slice_split}
use Rattle.std.proofs.lemmas.Bool.{and_parts, and_from, ltb-true, ne_eqb}
use Rattle.std.proofs.lemmas.Bool.Decides.{nat_tests}
use Rattle.std.proofs.lemmas.Fmt.{digits_decimal, decimal_nonempty, length-decimal-le}
use Rattle.std.proofs.lemmas.List.Splits.{slice_split-cons_no}
use Rattle.sse_script.specs.Fields.{is_space, is_field, fields_of}
use Rattle.sse_script.specs.Lines.{Line, line_by_kind, line_of}
use Rattle.sse_script.proofs.NumberLemmas.{own}
use Rattle.script_made_lines.specs.Lines.{words_text}

-- a byte above the space
abbrev pub is_ink : ℕ → Bool
is_ink byte = nat_lt 32 byte

-- a field of at most 64 such bytes
pub record IsPlain (word : List ℕ) : Type 0 where
  pub ink : list_all is_ink word ≡ true
  pub some : 0 < length word
  pub short : length word ≤ 64

abbrev pub ArePlain : List (List ℕ) → Type 0
ArePlain [] = Unit {0}
ArePlain (word ∷ words) = IsPlain word × ArePlain words

-- ---- numbers

ink-digit : (b : ℕ) → is_ascii_digit b ≡ true → is_ink b ≡ true
ink-digit b e = grind (arith, nat_tests)

ink-digits : (bytes : List ℕ) → list_all is_ascii_digit bytes ≡ true → list_all is_ink bytes ≡ true
ink-digits [] e = refl
ink-digits (b ∷ bytes) e =
    let parts = and_parts (is_ascii_digit b) (list_all is_ascii_digit bytes) e in
    and_from _ _ (ink-digit b parts.0) (ink-digits bytes parts.1)

pub IsPlain-decimal : (n : ℕ) → n < 2 ^ 64 → IsPlain (decimal n)
IsPlain-decimal n small =
    let few : length (decimal n) ≤ 20 = length-decimal-le 20 n (omega arith) (omega (arith, small)) small in
    record {
      ink = ink-digits (decimal n) (digits_decimal own n small);
      some = decimal_nonempty n small;
      short = omega (arith, few);
    }

-- behind a letter
pub IsPlain-lettered : (letter n : ℕ) → is_ink letter ≡ true → n < 2 ^ 64 → IsPlain (letter ∷ decimal n)
IsPlain-lettered letter n ink small =
    let few : length (decimal n) ≤ 20 = length-decimal-le 20 n (omega arith) (omega (arith, small)) small in
    record {
      ink = and_from _ _ ink (ink-digits (decimal n) (digits_decimal own n small));
      some = omega arith;
      short = omega (arith, few);
    }

-- ---- fields

no_space : (b : ℕ) → is_ink b ≡ true → is_space b ≡ false
no_space b ink = ne_eqb b 32 (λ e. omega (arith, e, ltb-true 32 b ink))

split-cut : (word rest : List ℕ) → list_all is_ink word ≡ true → slice_split is_space (word ++ 32 ∷ rest) ≡ word ∷ slice_split is_space rest
split-cut [] rest ink = refl
split-cut (b ∷ word) rest ink =
    let parts = and_parts (is_ink b) (list_all is_ink word) ink in
    slice_split-cons_no is_space b (word ++ 32 ∷ rest) (no_space b parts.0) ∙ ap (onto_first b) (split-cut word rest parts.1)

split-alone : (word : List ℕ) → list_all is_ink word ≡ true → slice_split is_space word ≡ word ∷ []
split-alone [] ink = refl
split-alone (b ∷ word) ink =
    let parts = and_parts (is_ink b) (list_all is_ink word) ink in
    slice_split-cons_no is_space b word (no_space b parts.0) ∙ ap (onto_first b) (split-alone word parts.1)

filter-field : (word : List ℕ) (rest : List (List ℕ)) → 0 < length word → filter is_field (word ∷ rest) ≡ word ∷ filter is_field rest
filter-field [] rest some = absurd (omega arith)
filter-field (b ∷ word) rest some = grind arith

-- fields behind one another
pub fields_of-words : (word : List ℕ) (words : List (List ℕ)) → IsPlain word → ArePlain words → fields_of (word ++ words_text words) ≡ word ∷ words
fields_of-words word [] plain others =
    ap fields_of (append-nil word)
    ∙ ap (filter is_field) (split-alone word plain.ink)
    ∙ filter-field word [] plain.some
fields_of-words word (next ∷ words) plain others =
    ap (filter is_field) (split-cut word (next ++ words_text words) plain.ink)
    ∙ filter-field word (slice_split is_space (next ++ words_text words)) plain.some
    ∙ ap (λ (rest : List (List ℕ)). word ∷ rest) (fields_of-words next words others.0 others.1)

length-words_text : (words : List (List ℕ)) → ArePlain words → length (words_text words) ≤ 65 * length words
length-words_text [] plain = omega arith
length-words_text (word ∷ words) plain =
    let short = plain.0.short in
    let rest = length-words_text words plain.1 in
    let all : length (words_text (word ∷ words)) ≡ suc (length word) + length (words_text words) = length-append (32 ∷ word) (words_text words) in
    omega (arith, short, rest, all)

choose : Bool → Option Line → Option Line
choose long line = if long then None else line

-- the line of a kind and its fields
pub line_of-words : (kind : List ℕ) (words : List (List ℕ)) → IsPlain kind → ArePlain words → length words ≤ 1000 → line_of (kind ++ words_text words) ≡ line_by_kind (kind ∷ words)
unfolding choose
line_of-words kind words plain others few =
    let text = kind ++ words_text words in
    let short = plain.short in
    let all = length-append kind (words_text words) in
    let within : length text ≤ 2 ^ 19 = omega (arith, short, all, length-words_text words others, few) in
    let fits : nat_lt (2 ^ 19) (length text) ≡ false = grind (arith, within, nat_tests) in
    ap (λ (long : Bool). choose long (line_by_kind (fields_of text))) fits
    ∙ ap line_by_kind (fields_of-words kind words plain others)
