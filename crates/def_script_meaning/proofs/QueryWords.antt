-- What holds of the words of a query that isn't refused: each of them is a word, and there are 1 to 32.
use Rattle.std.proofs.Common.{◌≡◌, ℕ, zero, suc, ◌+◌, ◌*◌, ◌≤◌, Bool, true, false, not, List, [], ◌∷◌, length, nat_lt, refl, ap, ◌∙◌, arith}
use Rattle.std.specs.Prelude.{filter, map, bytes_eq, codes, Option, None, Some, if◌then◌else◌}
use Rattle.std.specs.List.{AllByRecursion, cons_option}
use Rattle.std.specs.Option.{option_and_then, option_map, option_or}
use Rattle.std.proofs.lemmas.Bool.{ltb-false}
use Rattle.std.proofs.lemmas.List.{length-map}
use Rattle.bool_search.specs.declared.fault.QueryFault.TheVariants.{TooManyFields, BadQuery, BadWord}
use Rattle.bool_search.specs.declared.sign.Sign.{Sign}
use Rattle.bool_search.specs.declared.sign.Sign.TheVariants as signs
use Rattle.bool_search.specs.Fields.{mark_of, operand_of, operands, sign_by, sign_in, signs_of, words_of}
use Rattle.bool_search.specs.Places.{Stand, Expects, Has, bad_from, first_bad}
use Rattle.bool_search.specs.LineRefusals.{query_refused, fields_refusal}
use Rattle.bool_search.specs.Refused.{first_bad_word}
use Rattle.client_registry.proofs.WordsLaws.{length-first_seen}
use Rattle.client_registry.specs.declared.faults.WordFault.{WordFault}
use Rattle.client_registry.specs.declared.faults.WordFault.TheVariants as words
use Rattle.client_registry.specs.Documents.{first_seen}
use Rattle.client_registry.specs.WordRule.{word_refusal}
use Rattle.script_documents.proofs.Passed.{some-none}
use Rattle.script_documents.specs.Refused.{word_refused}

abbrev pub IsWord : List ℕ → Type 0
IsWord word = word_refusal word ≡ None

-- each fault of a word refuses
word_refuses : (position : ℕ) (fault : WordFault) → word_refused position fault ≡ None → ⊥
word_refuses position words.Empty e = some-none _ e
word_refuses position (words.TooLong n) e = some-none _ e
word_refuses position (words.BadByte place) e = some-none _ e

operands_are_words : (position : ℕ) (ws : List (List ℕ)) → option_and_then query_refused (first_bad_word position ws) ≡ None → AllByRecursion IsWord ws
operands_are_words position [] e = tt
operands_are_words position (word ∷ later) e = by (word_refusal word) refl e (operands_are_words (position + 1) later)
  where
    by : (r : Option WordFault) → word_refusal word ≡ r
        → option_and_then query_refused (option_or (option_map (λ fault. BadWord position fault) r) (first_bad_word (position + 1) later)) ≡ None
        → (option_and_then query_refused (first_bad_word (position + 1) later) ≡ None → AllByRecursion IsWord later)
        → IsWord word × AllByRecursion IsWord later
    by None is rest each = (is, each rest)
    by (Some fault) is rest each = absurd (word_refuses position fault rest)

module _ (P : List ℕ → Type 0) where
  kept_filter : (p : List ℕ → Bool) (ws : List (List ℕ)) → AllByRecursion P ws → AllByRecursion P (filter p ws)
  kept_filter p [] each = tt
  kept_filter p (word ∷ ws) each = by (p word) (kept_filter p ws each.1)
    where
      by : (b : Bool) → AllByRecursion P (filter p ws) → AllByRecursion P (if b then word ∷ filter p ws else filter p ws)
      by true rest = (each.0, rest)
      by false rest = rest

  kept_first_seen : (ws : List (List ℕ)) → AllByRecursion P ws → AllByRecursion P (first_seen ws)
  kept_first_seen [] each = tt
  kept_first_seen (word ∷ ws) each = (each.0, kept_filter (λ other. not (bytes_eq word other)) (first_seen ws) (kept_first_seen ws each.1))

-- how many operands there are among signs
abbrev count_operands : List Sign → ℕ
count_operands [] = 0
count_operands (signs.Operand number ∷ rest) = suc (count_operands rest)
count_operands (signs.And ∷ rest) = count_operands rest
count_operands (signs.Or ∷ rest) = count_operands rest
count_operands (signs.Not ∷ rest) = count_operands rest
count_operands (signs.Open ∷ rest) = count_operands rest
count_operands (signs.Close ∷ rest) = count_operands rest
count_operands (signs.Other ∷ rest) = count_operands rest

-- an operand is still to come
abbrev to_come : Stand → ℕ
to_come (Expects depth) = 1
to_come (Has depth) = 0

-- between two operands some sign joins them
few_operands : (stand : Stand) (place : ℕ) (rest : List Sign) → bad_from stand place rest ≡ None → 2 * count_operands rest ≤ length rest + to_come stand
few_operands (Expects depth) place [] e = absurd (some-none _ e)
few_operands (Has zero) place [] e = omega arith
few_operands (Has (suc depth)) place [] e = absurd (some-none _ e)
few_operands (Expects depth) place (signs.Operand number ∷ rest) e = let few = few_operands (Has depth) (place + 1) rest e in omega (arith, few)
few_operands (Expects depth) place (signs.Open ∷ rest) e = let few = few_operands (Expects (suc depth)) (place + 1) rest e in omega (arith, few)
few_operands (Expects depth) place (signs.And ∷ rest) e = absurd (some-none _ e)
few_operands (Expects depth) place (signs.Or ∷ rest) e = absurd (some-none _ e)
few_operands (Expects depth) place (signs.Not ∷ rest) e = absurd (some-none _ e)
few_operands (Expects depth) place (signs.Close ∷ rest) e = absurd (some-none _ e)
few_operands (Expects depth) place (signs.Other ∷ rest) e = absurd (some-none _ e)
few_operands (Has depth) place (signs.And ∷ rest) e = let few = few_operands (Expects depth) (place + 1) rest e in omega (arith, few)
few_operands (Has depth) place (signs.Or ∷ rest) e = let few = few_operands (Expects depth) (place + 1) rest e in omega (arith, few)
few_operands (Has depth) place (signs.Not ∷ rest) e = let few = few_operands (Expects depth) (place + 1) rest e in omega (arith, few)
few_operands (Has zero) place (signs.Close ∷ rest) e = absurd (some-none _ e)
few_operands (Has (suc depth)) place (signs.Close ∷ rest) e = let few = few_operands (Has depth) (place + 1) rest e in omega (arith, few)
few_operands (Has depth) place (signs.Open ∷ rest) e = absurd (some-none _ e)
few_operands (Has depth) place (signs.Operand number ∷ rest) e = absurd (some-none _ e)
few_operands (Has depth) place (signs.Other ∷ rest) e = absurd (some-none _ e)

-- there is one to come
some_operand : (depth place : ℕ) (rest : List Sign) → bad_from (Expects depth) place rest ≡ None → 1 ≤ count_operands rest
some_operand depth place [] e = absurd (some-none _ e)
some_operand depth place (signs.Operand number ∷ rest) e = omega arith
some_operand depth place (signs.Open ∷ rest) e = some_operand (suc depth) (place + 1) rest e
some_operand depth place (signs.And ∷ rest) e = absurd (some-none _ e)
some_operand depth place (signs.Or ∷ rest) e = absurd (some-none _ e)
some_operand depth place (signs.Not ∷ rest) e = absurd (some-none _ e)
some_operand depth place (signs.Close ∷ rest) e = absurd (some-none _ e)
some_operand depth place (signs.Other ∷ rest) e = absurd (some-none _ e)

count-mark : (field : List ℕ) (rest : List Sign) → count_operands (mark_of field ∷ rest) ≡ count_operands rest
count-mark field rest = by (bytes_eq field (codes "and")) (bytes_eq field (codes "or")) (bytes_eq field (codes "not")) (bytes_eq field (codes "(")) (bytes_eq field (codes ")"))
  where
    by : (a b c d e : Bool) →
        count_operands ((if a then signs.And else if b then signs.Or else if c then signs.Not else if d then signs.Open else if e then signs.Close else signs.Other) ∷ rest) ≡ count_operands rest
    by true b c d e = refl
    by false true c d e = refl
    by false false true d e = refl
    by false false false true e = refl
    by false false false false true = refl
    by false false false false false = refl

-- the operands among the signs of fields are those of the fields
count-signs : (known fields : List (List ℕ)) → count_operands (map (sign_in known) fields) ≡ length (operands fields)
count-signs known [] = refl
count-signs known (field ∷ fields) = by (operand_of field) (count-signs known fields)
  where
    by : (o : Option (List ℕ)) → count_operands (map (sign_in known) fields) ≡ length (operands fields)
        → count_operands (sign_by known field o ∷ map (sign_in known) fields) ≡ length (cons_option o (operands fields))
    by None rest = count-mark field (map (sign_in known) fields) ∙ rest
    by (Some word) rest = ap suc rest

-- a query is short, and its signs are an expression, and its operands are words
not_refused : (fields : List (List ℕ)) → fields_refusal fields ≡ None → (length fields ≤ 64) × (first_bad (signs_of fields) ≡ None) × AllByRecursion IsWord (operands fields)
not_refused fields e = by (nat_lt 64 (length fields)) refl (first_bad (signs_of fields)) refl e
  where
    by : (many : Bool) → nat_lt 64 (length fields) ≡ many → (bad : Option ℕ) → first_bad (signs_of fields) ≡ bad
        → option_and_then query_refused (if many then Some (TooManyFields (length fields)) else option_or (option_map BadQuery bad) (first_bad_word 0 (operands fields))) ≡ None
        → (length fields ≤ 64) × (first_bad (signs_of fields) ≡ None) × AllByRecursion IsWord (operands fields)
    by true many bad is e = absurd (some-none _ e)
    by false few (Some place) is e = absurd (some-none _ e)
    by false few None is e = (ltb-false _ _ few, is, operands_are_words 0 (operands fields) e)

pub words_are_words : (fields : List (List ℕ)) → fields_refusal fields ≡ None → AllByRecursion IsWord (words_of fields)
words_are_words fields e = kept_first_seen IsWord (operands fields) (not_refused fields e).2

pub words_few : (fields : List (List ℕ)) → fields_refusal fields ≡ None → length (words_of fields) ≤ 32
words_few fields e =
    let known = not_refused fields e in
    omega (arith, known.0, few_operands (Expects 0) 0 (signs_of fields) known.1, count-signs (words_of fields) fields, length-map fields (sign_in (words_of fields)), length-first_seen (operands fields))

some_first : (ws : List (List ℕ)) → 1 ≤ length ws → 1 ≤ length (first_seen ws)
some_first [] some = absurd (omega (arith, some))
some_first (word ∷ ws) some = omega arith

pub words_some : (fields : List (List ℕ)) → fields_refusal fields ≡ None → 1 ≤ length (words_of fields)
words_some fields e =
    let known = not_refused fields e in
    some_first (operands fields) (omega (arith, some_operand 0 0 (signs_of fields) known.1, count-signs (words_of fields) fields))
