-- What the reader gives, by the functions of the definitions.
use Rattle.std.proofs.Common.{◌≡◌, ◌≢◌, ℕ, ◌≤◌, List, length, Some, None, refl, sym, ap, ◌∙◌, subst}
use Rattle.std.specs.Prelude.{Option, Result, Ok, Err, IfOk, IfErr, OnOk, if◌then◌else◌}
use Rattle.std.specs.Option.{option_map, option_or}
use Rattle.std.specs.Result.{IsErrAnd}
use Rattle.std.proofs.lemmas.Bool.{le-ltb}
use Rattle.bool_search.specs.declared.fault.QueryFault.{QueryFault}
use Rattle.bool_search.specs.declared.fault.QueryFault.TheVariants.{TooManyFields, BadQuery, NoMemory}
use Rattle.bool_search.specs.declared.node.Node.{Node}
use Rattle.bool_search.specs.declared.reading.SignFault.{SignFault}
use Rattle.bool_search.specs.declared.reading.SignFault.TheVariants as faults
use Rattle.bool_search.specs.declared.sign.Sign.{Sign}
use Rattle.bool_search.specs.Fields.{operands, signs_of}
use Rattle.bool_search.specs.Grammar.{tree_of}
use Rattle.bool_search.specs.Parsing.{query_of}
use Rattle.bool_search.specs.Places.{IsBadAt, IsQuery, Reads, first_bad}
use Rattle.bool_search.specs.Refused.{first_bad_word, query_refusal}
use Rattle.bool_search.proofs.Exactly.{one_place, not_query}
use Rattle.bool_search.proofs.FirstBad.{first_bad-some, first_bad-none}
use Rattle.bool_search.proofs.OneTree.{query_of-whole}

pub reads_query : (signs : List Sign) (result : Result Node SignFault) → Reads signs result → IfOk result (λ node. query_of signs ≡ Some (tree_of node))
reads_query signs (Ok node) reads = ap query_of (sym reads.1) ∙ query_of-whole (tree_of node) reads.0
reads_query signs (Err fault) reads = tt

good_query : (signs : List Sign) → IsQuery signs → first_bad signs ≡ None
good_query signs query = by (first_bad signs) refl
  where
    by : (o : Option ℕ) → first_bad signs ≡ o → o ≡ None
    by None is = refl
    by (Some place) is = absurd (not_query signs place (first_bad-some signs place is) query)

pub reads_good : (signs : List Sign) (result : Result Node SignFault) → Reads signs result → OnOk result (first_bad signs ≡ None)
reads_good signs (Ok node) reads = good_query signs (record { tree = tree_of node; made = reads.0; signs_are = reads.1 })
reads_good signs (Err fault) reads = tt

bad_query : (signs : List Sign) (place : ℕ) → IsBadAt signs place → first_bad signs ≡ Some place
bad_query signs place bad = by (first_bad signs) refl
  where
    by : (o : Option ℕ) → first_bad signs ≡ o → o ≡ Some place
    by None is = absurd (not_query signs place bad (first_bad-none signs is))
    by (Some other) is = ap (λ p. Some p) (one_place signs other place (first_bad-some signs other is) bad)

pub reads_bad : (signs : List Sign) (result : Result Node SignFault) → Reads signs result
    → IfErr result (λ fault. fault ≢ faults.NoMemory → option_map faults.BadQuery (first_bad signs) ≡ Some fault)
reads_bad signs (Ok node) reads = tt
reads_bad signs (Err (faults.BadQuery place)) reads = λ some. ap (option_map faults.BadQuery) (bad_query signs place reads)
reads_bad signs (Err faults.NoMemory) reads = λ some. absurd (some refl)

-- The first cause that applies.

refusal_few : (fields : List (List ℕ)) → length fields ≤ 64
    → query_refusal fields ≡ option_or (option_map BadQuery (first_bad (signs_of fields))) (first_bad_word 0 (operands fields))
refusal_few fields few =
    ap (λ b. if b then Some (TooManyFields (length fields)) else option_or (option_map BadQuery (first_bad (signs_of fields))) (first_bad_word 0 (operands fields)))
    (le-ltb 64 (length fields) few)

pub refusal_place : (fields : List (List ℕ)) (place : ℕ) → length fields ≤ 64 → first_bad (signs_of fields) ≡ Some place → query_refusal fields ≡ Some (BadQuery place)
refusal_place fields place few is =
    refusal_few fields few ∙ ap (λ o. option_or (option_map BadQuery o) (first_bad_word 0 (operands fields))) is

pub refusal_word : (fields : List (List ℕ)) → length fields ≤ 64 → first_bad (signs_of fields) ≡ None → query_refusal fields ≡ first_bad_word 0 (operands fields)
refusal_word fields few is =
    refusal_few fields few ∙ ap (λ o. option_or (option_map BadQuery o) (first_bad_word 0 (operands fields))) is

-- a fault that is passed on
pub on_err_word : {T : Type 0} (r : Result T QueryFault) (fault : QueryFault) (first : Option QueryFault) → IsErrAnd r (λ other. other ≡ fault) → (fault ≢ NoMemory → first ≡ Some fault)
    → IfErr r (λ other. other ≢ NoMemory → first ≡ Some other)
on_err_word (Ok value) fault first is refused = tt
on_err_word (Err other) fault first is refused = subst (λ f. f ≢ NoMemory → first ≡ Some f) (sym is) refused
