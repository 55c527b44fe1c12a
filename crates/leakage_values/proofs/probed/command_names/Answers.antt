use Rattle.std.proofs.Common.{map, sym, ap, ◌∙◌}
use Rattle.std.proofs.lemmas.Result.{IfOk-weaker}
use Rattle.client_registry.specs.WordBytes.{word_bytes}
use Rattle.leakage_history.specs.Commands.{command_of}
use Rattle.leakage_values.proofs.ProbedLaws.{probed-search}
use Rattle.leakage_values.specs.Numbered.{number_of_word, numbered}
use Rattle.leakage_values.specs.ProbedNames.{probed_by_number}
use Rattle.sse_model.specs.Drawn.{probed_by}
use Rattle.leakage_values.proofs.probed.command_names.Goals as goal

pub returns-in-Search : goal.returns-in-Search
returns-in-Search c =
    let words = c.args.words.now in
    let word = word_bytes c.in-Search.word in
    IfOk-weaker c.search_names.result _ _
    (λ names is s past listing.
    is
    ∙ (λ i. probed_by_number c.args.epoch (number_of_word words word) ((listing.registry i).counter word) (listing.table c.in-Search.word i))
    ∙ probed-search c.args.epoch words s past word
    ∙ ap (λ m. map (numbered words) (probed_by c.args.epoch s past m)) (ap command_of (sym c.in-Search.is)))
    c.search_names.ensures
