use Rattle.std.proofs.Common.{length, ap, sym, ◌∙◌, arith}
use Rattle.std.proofs.lemmas.Result.{on_ok_weaker}
use Rattle.client_registry.specs.IdNumber.{id_number}
use Rattle.client_registry.specs.WordBytes.{word_bytes}
use Rattle.leakage_model.proofs.EntryLaws.{changes-at, facts-at}
use Rattle.leakage_model.specs.WordFacts.{set_up_with}
use Rattle.leakage_model.proofs.trail_setup.set_up_word.Goals as goal

pub set_up-requires : goal.set_up-requires
set_up-requires c =
    let bs = word_bytes c.args.word.now in
    let same = sym (facts-at c.place_in.new.words.entries bs c.in_ok-place.place c.index_mut-trail.result.now c.in_ok-place.ensures.place c.index_mut-trail.ensures.value) ∙ c.place_in.ensures.same bs in
    omega (arith, c.requires, ap (λ f. length f.listed) same)

pub returns-clause-held : goal.returns-clause-held
returns-clause-held c =
    on_ok_weaker c.set_up.result
    (changes-at c.args.words.now.entries c.place_in.new.words.entries (word_bytes c.args.word.now) c.in_ok-place.place c.index_mut-trail.result.now c.set_up.new.self (set_up_with c.args.command (id_number c.args.id))
    c.place_in.ensures.same c.in_ok-place.ensures.place c.index_mut-trail.ensures.value)
    c.set_up.ensures
