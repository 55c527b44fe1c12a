use Rattle.client_registry.specs.WordBytes.{word_bytes}
use Rattle.leakage_model.proofs.EntryLaws.{changes-at}
use Rattle.leakage_model.specs.WordFacts.{searched_by}
use Rattle.leakage_model.proofs.trail_table.search_word.Goals as goal

pub returns : goal.returns
returns c =
    changes-at c.args.words.now.entries c.place_in.new.words.entries (word_bytes c.args.word.now) c.in_ok-place.place c.index_mut-trail.result.now c.search.new.self (searched_by c.args.command)
    c.place_in.ensures.same c.in_ok-place.ensures.place c.index_mut-trail.ensures.value c.search.ensures
