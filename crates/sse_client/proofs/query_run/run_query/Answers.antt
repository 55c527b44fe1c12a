use Rattle.std.proofs.Common.{length, sym, ap, ◌∙◌, arith}
use Rattle.def_script_meaning.proofs.QueryWords.{words_some}
use Rattle.sse_client.proofs.QueryAnswered.{none_refused}
use Rattle.sse_client.proofs.query_run.run_query.Goals as goal

pub choose-requires-clause-some : goal.choose-requires-clause-some
choose-requires-clause-some g c = λ none.
    let some = words_some c.args.fields (none_refused c.args.fields c.in-Ok.ensures.accepted) in
    absurd (omega (arith, some, ap length (sym c.in-Ok.ensures.words ∙ none)))
