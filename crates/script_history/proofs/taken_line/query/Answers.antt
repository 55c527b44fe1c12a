use Rattle.std.proofs.Common.{map, length, sym, ap, ◌∙◌, arith}
use Rattle.std.specs.Option.{option_and_then}
use Rattle.bool_search.specs.LineRefusals.{query_refused}
use Rattle.client_registry.specs.WordBytes.{word_bytes}
use Rattle.def_script_meaning.proofs.QueryWords.{words_some}
use Rattle.leakage_history.specs.HashedEpochs.{epochs_in}
use Rattle.script_history.proofs.LinesTaken.{query_says}
use Rattle.script_history.specs.Stages.{read_query_refusal}
use Rattle.script_history.proofs.taken_line.query.Goals as goal

pub push_searches-requires : goal.push_searches-requires
push_searches-requires c = record {
  some = λ none.
      let some = words_some c.args.fields (ap (option_and_then query_refused) c.in-Ok.ensures.accepted) in
      absurd (omega (arith, some, ap length (sym c.in-Ok.ensures.words ∙ sym c.words.ensures ∙ ap (map word_bytes) none)));
}

pub returns-in-Err-clause-found : goal.returns-in-Err-clause-found
returns-in-Err-clause-found c =
    c.refusal_of.ensures.says (read_query_refusal (epochs_in c.args.history.now) c.args.fields) (query_says c.from.result c.in-Err.fault c.args.fields _ c.from.ensures c.in-Err.ensures.refused)
