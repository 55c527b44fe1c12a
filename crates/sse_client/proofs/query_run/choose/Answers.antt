use Rattle.std.proofs.Common.{List, ℕ, Vec, Global, length, map, sym, ap, subst, ◌∙◌}
use Rattle.std.specs.Prelude.{All}
use Rattle.std.specs.List.Sorted.{IsNonDecreasing}
use Rattle.std.proofs.lemmas.List.Elements.{All-from_recursion}
use Rattle.bool_search.specs.Asked.{tree_in}
use Rattle.bool_search.specs.Chosen.{chosen}
use Rattle.client_registry.specs.WordBytes.{word_bytes}
use Rattle.keyed_fn.specs.KeyedFn.{keyed_fn}
use Rattle.sse_client.proofs.RisingLists.{rising_each}
use Rattle.sse_client.proofs.WordsSearched.{answers_counted, lists_counted}
use Rattle.sse_client.specs.Exchanges.{HasExchanged, search_frames}
use Rattle.sse_client.proofs.query_run.choose.Goals as goal

abbrev items : Vec ℕ Global → List ℕ
items list = list.items

pub answer-requires-clause-lists : goal.answer-requires-clause-lists
answer-requires-clause-lists g c =
    ap length c.deref.ensures.value
    ∙ lists_counted items (keyed_fn g.K.Keyed.prf g.K.Keyed.pad) c.args.client.now.key (map word_bytes c.words.result.now) (g.L.Link.transcript c.args.link.now) (g.L.Link.transcript c.search_all.new.link) c.in_ok-lists.lists.items c.in_ok-lists.ensures.found
    ∙ ap length c.words.ensures

pub answer-requires-clause-rise : goal.answer-requires-clause-rise
answer-requires-clause-rise g c =
    subst (All (λ list. IsNonDecreasing (items list))) (sym c.deref.ensures.value)
    (All-from_recursion (λ list. IsNonDecreasing (items list)) c.in_ok-lists.lists.items (rising_each items c.in_ok-lists.lists.items c.in_ok-lists.ensures.found.answers c.in_ok-lists.ensures.found.rising))

pub returns-clause-chosen : goal.returns-clause-chosen
returns-clause-chosen g c =
    let f = keyed_fn g.K.Keyed.prf g.K.Keyed.pad in
    let key = c.args.client.now.key in
    let old = g.L.Link.transcript c.args.link.now in
    let new = g.L.Link.transcript c.search_all.new.link in
    let had = c.in_ok-lists.ensures.found in
    record {
      answers = had.answers;
      exchanged = subst (λ ws. HasExchanged old new had.answers (search_frames f key ws)) c.words.ensures had.exchanged;
      each = answers_counted f key (map word_bytes c.words.result.now) old new had.answers had.exchanged ∙ ap length c.words.ensures;
      chosen = c.in_ok-answer.ensures ∙ ap (chosen (tree_in c.args.query.now)) (ap (map items) c.deref.ensures.value ∙ had.rising);
    }
