use Rattle.std.proofs.Common.{◌≡◌, [], get_or, sym, subst}
use Rattle.std.specs.Prelude.{slice_index_or}
use Rattle.std.proofs.lemmas.List.{get_or_default}
use Rattle.std.proofs.lemmas.Option.{get_or_from_slice_get}
use Rattle.client_registry.specs.IdNumber.{id_number}
use Rattle.client_registry.specs.Registered.{known_words}
use Rattle.client_registry.specs.WordBytes.{word_bytes}
use Rattle.def_leakage.specs.Firsts.{origin}
use Rattle.leakage_model.proofs.EntryLaws.{each-more}
use Rattle.leakage_model.specs.TrailFacts.{ChangesAt}
use Rattle.leakage_model.specs.WordFacts.{deleted_at}
use Rattle.leakage_model.proofs.trail_table.delete_words.Goals as goal

pub loop-place-preserved : goal.loop-place-preserved
loop-place-preserved c =
    let numbers = c.args.numbers.now in
    let place = c.loop-place.place in
    let known = known_words c.args.registry.now in
    let number = get_or numbers place 0 in
    let is : get_or known number [] ≡ word_bytes c.word.result.now = get_or_from_slice_get known number (word_bytes c.word.result.now) [] c.word.ensures in
    each-more (λ n. slice_index_or known n []) numbers place number c.loop-place-test.true (get_or_default numbers place 0 number c.loop-place-test.true) c.requires.differ
    c.args.words.now.entries c.loop-place.words.entries c.delete_word.new.words.entries (λ p. deleted_at (id_number c.args.id) (origin c.args.command p))
    c.loop-place.invariant
    (subst (λ bs. ChangesAt c.loop-place.words.entries c.delete_word.new.words.entries bs (deleted_at (id_number c.args.id) (origin c.args.command place))) (sym is) c.delete_word.ensures)
