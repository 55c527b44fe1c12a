use Rattle.std.proofs.Common.{refl}
use Rattle.client_registry.specs.IdNumber.{id_number}
use Rattle.client_registry.specs.WordBytes.{word_bytes}
use Rattle.leakage_frames.specs.Views.{origin_view}
use Rattle.leakage_model.proofs.EntryLaws.{changes-at, place-entry}
use Rattle.leakage_model.specs.WordFacts.{deleted_at}
use Rattle.leakage_model.proofs.trail_table.delete_word.Goals as goal

pub returns-in-Some : goal.returns-in-Some
returns-in-Some c =
    let es = c.args.words.now.entries in
    let bs = word_bytes c.args.word.now in
    changes-at es es bs c.in-Some.place c.index_mut-trail.result.now c.delete.new.self (deleted_at (id_number c.args.id) (origin_view c.args.there)) (λ w. refl)
    (place-entry es bs c.in-Some.place c.in-Some.ensures.index) c.index_mut-trail.ensures.value c.delete.ensures
