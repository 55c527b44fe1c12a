-- Why a line for a query is refused: the faults of its fields as refusals.
use Rattle.std.specs.Prelude.{ℕ, List, Option, None, Some}
use Rattle.std.specs.Option.{option_and_then}
use Rattle.sse_script.specs.declared.refusal.Refusal.{Refusal}
use Rattle.sse_script.specs.declared.refusal.Refusal.TheVariants.{TooManyFields, BadQuery}
use Rattle.script_documents.specs.Refused.{word_refused}
use Rattle.bool_search.specs.declared.fault.QueryFault.{QueryFault}
use Rattle.bool_search.specs.declared.fault.QueryFault.TheVariants as queries
use Rattle.bool_search.specs.Refused.{query_refusal}

-- the fault of a query as a refusal; being out of memory refuses nothing
abbrev pub query_refused : QueryFault → Option Refusal
query_refused (queries.TooManyFields n) = Some (TooManyFields n)
query_refused (queries.BadQuery place) = Some (BadQuery place)
query_refused (queries.BadWord position fault) = word_refused position fault
query_refused queries.NoMemory = None

-- these fields are no query
abbrev pub fields_refusal : List (List ℕ) → Option Refusal
fields_refusal fields = option_and_then query_refused (query_refusal fields)
