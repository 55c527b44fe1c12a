use Rattle.std.proofs.Common.{[], is_some, sym, ap, ◌∙◌}
use Rattle.std.proofs.lemmas.Option.{get_or_from_slice_get}
use Rattle.client_registry.specs.IdNumber.{id_number}
use Rattle.client_registry.specs.Registered.{facts, known_words}
use Rattle.client_registry.specs.WordBytes.{word_bytes}
use Rattle.client_registry.proofs.TableLaws.{found_at}
use Rattle.client_registry.proofs.registry.Registry.is_listed.Goals as goal

pub returns-in-Some : goal.returns-in-Some
returns-in-Some c =
    let bs = word_bytes c.args.word.now in
    let known = known_words c.args.self.now in
    let n = c.in-Some.number in
    let at = found_at known bs n (sym c.in-Some.ensures.number) in
    c.is_pair.ensures ∙ ap (λ w. (facts c.args.self.now).listed w (id_number c.args.id)) (get_or_from_slice_get known n bs [] at)

pub returns-in-None : goal.returns-in-None
returns-in-None c = sym (c.number_of.ensures.unlisted (ap is_some c.in-None.is) (id_number c.args.id))
