-- A query that isn't refused is an expression.
use Rattle.std.proofs.Common.{◌≡◌, ℕ, Bool, true, false, List, length, Some, None, refl, sym, ap, ◌∙◌}
use Rattle.std.specs.Prelude.{Option, nat_lt, if◌then◌else◌}
use Rattle.std.specs.Option.{option_map, option_or}
use Rattle.bool_search.specs.declared.fault.QueryFault.{QueryFault}
use Rattle.bool_search.specs.declared.fault.QueryFault.TheVariants.{TooManyFields, BadQuery}
use Rattle.bool_search.specs.Fields.{operands, signs_of}
use Rattle.bool_search.specs.Grammar.{Tree}
use Rattle.bool_search.specs.Parsing.{query_of}
use Rattle.bool_search.specs.Places.{IsQuery, first_bad}
use Rattle.bool_search.specs.Refused.{first_bad_word, query_refusal}
use Rattle.bool_search.proofs.FirstBad.{first_bad-none}
use Rattle.bool_search.proofs.OneTree.{query_of-whole}

no_or : {X : Type 0} (a b : Option X) → option_or a b ≡ None → a ≡ None
no_or None b e = refl
no_or (Some x) b e = absurd cc

no_map : {X Y : Type 0} (f : X → Y) (a : Option X) → option_map f a ≡ None → a ≡ None
no_map f None e = refl
no_map f (Some x) e = absurd cc

accepted : (fields : List (List ℕ)) → query_refusal fields ≡ None → IsQuery (signs_of fields)
accepted fields is = by (nat_lt 64 (length fields)) refl is
  where
    rest : Option QueryFault
    rest = option_or (option_map BadQuery (first_bad (signs_of fields))) (first_bad_word 0 (operands fields))

    by : (b : Bool) → nat_lt 64 (length fields) ≡ b → (if b then Some (TooManyFields (length fields)) else rest) ≡ None → IsQuery (signs_of fields)
    by true many none = absurd cc
    by false few none = first_bad-none (signs_of fields) (no_map BadQuery (first_bad (signs_of fields)) (no_or _ (first_bad_word 0 (operands fields)) none))

-- Promise P240, also here
-- fields that aren't refused are a query
pub is_query : (fields : List (List ℕ)) → query_refusal fields ≡ None → (t : Tree) × (query_of (signs_of fields) ≡ Some t)
is_query fields is =
    let query = accepted fields is in
    (query.tree, ap query_of (sym query.signs_are) ∙ query_of-whole query.tree query.made)
