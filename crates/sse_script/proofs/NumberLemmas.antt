-- What `parse` gives at a field of decimal digits.
use Rattle.std.proofs.Common.{◌≡◌, ℕ, zero, suc, ◌<◌, ◌^◌, Bool, ◌==◌, ◌||◌, ◌&&◌, slice_index, refl, true, false, List, [], ◌∷◌, length, ap, sym, ◌∙◌, arith, rules, Result, Ok, Err, Some, None, nat_lt, if◌then◌else◌, Option}
use Rattle.std.specs.Char.{is_ascii_digit}
use Rattle.std.specs.List.{list_all}
use Rattle.std.specs.Result.{result_ok, OkIff}
use Rattle.std.specs.Str.{IsUtf8}
use Rattle.std.specs.Str.Parse.{ParsesUnsigned, digits_value}
use Rattle.std.proofs.lemmas.Bool.{and_parts, and_from, and_right, or_right, lt-ltb, ltb-true, false_from_ne_true}
use Rattle.std.proofs.lemmas.Str.{IsUtf8-from_ascii}
use Rattle.std.proofs.lemmas.Str.Parse.{IsNumeralModel, numerals_by_value, parse_digits}
use Rattle.std.specs.Fmt.{decimal}
use Rattle.std.proofs.lemmas.Bool.Decides.{nat_tests}
use Rattle.std.proofs.lemmas.Fmt.{IsAscii-from_digits, decimal_digit, first_decimal, digits_value-decimal, digits_decimal, decimal-digits_value}
use Rattle.sse_script.specs.Numbers.{is_numeral, number_of}

-- the test for digits and std's value of them are a model of numerals
pub own : IsNumeralModel (λ ds. list_all is_ascii_digit ds ≡ true) (digits_value 10)
own = numerals_by_value _ (search rules)

digits_of_numeral : (field : List ℕ) → is_numeral field ≡ true → list_all is_ascii_digit field ≡ true
digits_of_numeral field e = (and_parts _ _ e).1

some_digit : (field : List ℕ) → is_numeral field ≡ true → 0 < length field
some_digit [] e = absurd (cc)
some_digit (b ∷ bytes) e = omega arith

number_if : Bool → ℕ → Option ℕ
number_if test n = if test then Some n else None

value_of_numeral : {E : Type 0} (field : List ℕ) (r : Result ℕ E) → is_numeral field ≡ true → OkIff r ((0 < length field) × (digits_value 10 field < 2 ^ 64)) (digits_value 10 field) → result_ok r ≡ number_of field
unfolding number_if
value_of_numeral field (Ok n) e h =
    ap Some h.1 ∙ ap (λ (t : Bool). number_if t (digits_value 10 field)) (sym (and_from _ _ e (lt-ltb _ _ h.0.1)))
value_of_numeral field (Err error) e h =
    let large : nat_lt (digits_value 10 field) (2 ^ 64) ≡ false = false_from_ne_true _ (λ t. h (some_digit field e, ltb-true _ _ t)) in
    ap (λ (t : Bool). number_if t (digits_value 10 field)) (sym (and_right _ _ large))

-- `parse` gives the number of a numeral
pub number_of-parse : {E : Type 0} (field text : List ℕ) (r : Result ℕ E) → is_numeral field ≡ true → text ≡ field → ParsesUnsigned 64 10 text r → result_ok r ≡ number_of field
number_of-parse field text r e same parsed = value_of_numeral field r e (parse_digits own 64 field r (rw same at parsed) (digits_of_numeral field e))

-- a numeral is text
pub numeral_is_utf8 : (field : List ℕ) → is_numeral field ≡ true → IsUtf8 field
numeral_is_utf8 field e = IsUtf8-from_ascii field (IsAscii-from_digits field (own.to field (digits_of_numeral field e)))

no_leading_zero : (n : ℕ) → n < 2 ^ 64 → (length (decimal n) == 1 || nat_lt 48 (slice_index (decimal n) 0)) ≡ true
no_leading_zero zero small = rw (decimal_digit 0 (omega arith)) refl
no_leading_zero (suc m) small = or_right _ _ (lt-ltb _ _ (first_decimal (suc m) (omega arith) small))

-- a number below 2^64, as it is printed, is read back
pub number_of-decimal : (n : ℕ) → n < 2 ^ 64 → number_of (decimal n) ≡ Some n
unfolding number_if
number_of-decimal n small =
    let value : digits_value 10 (decimal n) ≡ n = digits_value-decimal own n small in
    let numeral : is_numeral (decimal n) ≡ true = and_from _ _ (no_leading_zero n small) (digits_decimal own n small) in
    let fits : nat_lt (digits_value 10 (decimal n)) (2 ^ 64) ≡ true = lt-ltb _ _ (omega (arith, value)) in
    ap (λ (t : Bool). number_if t (digits_value 10 (decimal n))) (and_from _ _ numeral fits) ∙ ap (λ v. Some v) value

read_number : (t : Bool) (v n : ℕ) → number_if t v ≡ Some n → (t ≡ true) × (v ≡ n)
unfolding number_if
read_number true v n e = (refl, cc)
read_number false v n e = absurd (cc)

first_digit : (field : List ℕ) → (length field == 1 || nat_lt 48 (slice_index field 0)) ≡ true → slice_index field 0 ≡ 48 → length field ≡ 1
first_digit field e first = grind (arith, nat_tests)

-- each number has one spelling, which is how it is printed
pub decimal-number_of : (field : List ℕ) (n : ℕ) → number_of field ≡ Some n → decimal n ≡ field
unfolding number_if
decimal-number_of field n e =
    let read = read_number (is_numeral field && nat_lt (digits_value 10 field) (2 ^ 64)) (digits_value 10 field) n e in
    let parts = and_parts _ _ read.0 in
    ap decimal (sym read.1) ∙ decimal-digits_value own field (digits_of_numeral field parts.0) (some_digit field parts.0)
    (first_digit field (and_parts _ _ parts.0).0) (ltb-true _ _ parts.1)
