use Rattle.client_registry.specs.IdNumber.{id_number}
use Rattle.client_registry.specs.WordBytes.{word_bytes}
use Rattle.def_leakage.specs.Firsts.{origin}
use Rattle.leakage_model.proofs.EntryLaws.{each-more}
use Rattle.leakage_model.specs.WordFacts.{added_at}
use Rattle.leakage_model.proofs.trail_table.add_words.Goals as goal

pub loop-place-preserved : goal.loop-place-preserved
loop-place-preserved c =
    each-more word_bytes c.args.of.now c.loop-place.place c.index-of-place.result c.loop-place-test.true c.index-of-place.is c.requires.differ
    c.args.words.now.entries c.loop-place.words.entries c.add_word.new.words.entries (λ place. added_at (id_number c.args.id) (origin c.args.command place))
    c.loop-place.invariant c.in_ok-add_word.ensures
