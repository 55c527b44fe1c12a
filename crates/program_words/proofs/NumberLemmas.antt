-- What `parse` gives at a word of decimal digits.
use Rattle.std.proofs.Common.{◌≡◌, ℕ, ◌<◌, ◌^◌, Bool, true, List, [], ◌∷◌, length, ap, sym, ◌∙◌, arith, rules, Result, Ok, Err, Some, None, nat_lt, if◌then◌else◌, Option, false}
use Rattle.std.specs.Char.{is_ascii_digit}
use Rattle.std.specs.List.{list_all}
use Rattle.std.specs.Result.{result_ok, OkIff}
use Rattle.std.specs.Str.Parse.{ParsesUnsigned, digits_value}
use Rattle.std.proofs.lemmas.Bool.{and_parts, and_from, and_right, lt-ltb, ltb-true, false_from_ne_true}
use Rattle.std.proofs.lemmas.Str.Parse.{IsNumeralModel, numerals_by_value, parse_digits}
use Rattle.program_words.specs.Numbers.{is_numeral, numeral_below}

-- the test for digits and std's value of them are a model of numerals
own : IsNumeralModel (λ ds. list_all is_ascii_digit ds ≡ true) (digits_value 10)
own = numerals_by_value _ (search rules)

digits_of_numeral : (word : List ℕ) → is_numeral word ≡ true → list_all is_ascii_digit word ≡ true
digits_of_numeral word e = (and_parts _ _ e).1

some_digit : (word : List ℕ) → is_numeral word ≡ true → 0 < length word
some_digit [] e = absurd (cc)
some_digit (b ∷ bytes) e = omega arith

number_if : Bool → ℕ → Option ℕ
number_if test n = if test then Some n else None

value_of_numeral : {E : Type 0} (limit : ℕ) (word : List ℕ) (r : Result ℕ E) → is_numeral word ≡ true → OkIff r ((0 < length word) × (digits_value 10 word < limit)) (digits_value 10 word) → result_ok r ≡ numeral_below limit word
unfolding number_if
value_of_numeral limit word (Ok n) e h =
    ap Some h.1 ∙ ap (λ (t : Bool). number_if t (digits_value 10 word)) (sym (and_from _ _ e (lt-ltb _ _ h.0.1)))
value_of_numeral limit word (Err error) e h =
    let large : nat_lt (digits_value 10 word) limit ≡ false = false_from_ne_true _ (λ t. h (some_digit word e, ltb-true _ _ t)) in
    ap (λ (t : Bool). number_if t (digits_value 10 word)) (sym (and_right _ _ large))

-- `parse` gives the number of a numeral
pub numeral_below-parse : {E : Type 0} (bits : ℕ) (word text : List ℕ) (r : Result ℕ E) → is_numeral text ≡ true → text ≡ word → ParsesUnsigned bits 10 word r → result_ok r ≡ numeral_below (2 ^ bits) word
numeral_below-parse bits word text r e same parsed = value_of_numeral (2 ^ bits) word r (rw same at e) (parse_digits own bits word r parsed (digits_of_numeral word (rw same at e)))
