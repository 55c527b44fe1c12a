use Rattle.client_registry.specs.WordBytes.{word_bytes}
use Rattle.leakage_model.proofs.EntryLaws.{changes-at}
use Rattle.leakage_model.specs.Pairs.{home_view}
use Rattle.leakage_model.specs.WordFacts.{placed_at}
use Rattle.leakage_model.proofs.trail_setup.place_word.Goals as goal

pub returns-clause-placed : goal.returns-clause-placed
returns-clause-placed c =
    changes-at c.args.words.now.entries c.place_in.new.words.entries (word_bytes c.args.word.now) c.in_ok-place.place c.index_mut-trail.result.now c.place.new.self (placed_at (home_view c.args.home))
    c.place_in.ensures.same c.in_ok-place.ensures.place c.index_mut-trail.ensures.value c.place.ensures
