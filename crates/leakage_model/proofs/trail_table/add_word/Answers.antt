use Rattle.std.proofs.lemmas.Result.{on_ok_weaker}
use Rattle.client_registry.specs.IdNumber.{id_number}
use Rattle.client_registry.specs.WordBytes.{word_bytes}
use Rattle.leakage_frames.specs.Views.{origin_view}
use Rattle.leakage_model.proofs.EntryLaws.{changes-at}
use Rattle.leakage_model.specs.WordFacts.{added_at}
use Rattle.leakage_model.proofs.trail_table.add_word.Goals as goal

pub returns : goal.returns
returns c =
    on_ok_weaker c.add.result
    (changes-at c.args.words.now.entries c.place_in.new.words.entries (word_bytes c.args.word.now) c.in_ok-place.place c.index_mut-trail.result.now c.add.new.self (added_at (id_number c.args.id) (origin_view c.args.there))
    c.place_in.ensures.same c.in_ok-place.ensures.place c.index_mut-trail.ensures.value)
    c.add.ensures
