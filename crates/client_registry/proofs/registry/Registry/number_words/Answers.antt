use Rattle.std.proofs.Common.{◌≡◌, ℕ, ◌<◌, List, length, true, map, sym, ap, subst, ◌∙◌}
use Rattle.std.specs.Prelude.{All, OnOk}
use Rattle.std.specs.List.{list_any}
use Rattle.std.specs.Str.{bytes_eq}
use Rattle.std.proofs.lemmas.List.{length-map}
use Rattle.client_registry.specs.HashNumbers.{hash_numbers}
use Rattle.client_registry.specs.Numbered.{words_by_number}
use Rattle.client_registry.specs.Registered.{facts, known_words}
use Rattle.client_registry.specs.WordBytes.{word_bytes}
use Rattle.client_registry.proofs.GrownLaws.{facts-grown, sound-grown}
use Rattle.client_registry.proofs.RegistryLaws.{known_table}
use Rattle.client_registry.proofs.registry.Registry.number_words.Goals as goal

pub invariant_of-self : goal.invariant_of-self
invariant_of-self g c =
    sound-grown c.self.inside c.self.invariant c.number_all.new.words c.number_all.ensures.more (c.number_all.ensures.differ c.self.invariant.words_differ) c.number_all.ensures.few c.number_all.ensures.hasher

pub returns-clause-facts : goal.returns-clause-facts
returns-clause-facts g c = facts-grown c.self.inside c.self.invariant c.number_all.new.words c.number_all.ensures.more ∙ ap facts c.self.view_is

pub returns-clause-numbered : goal.returns-clause-numbered
returns-clause-numbered g c =
    let after = record c.self.inside { words = c.number_all.new.words } in
    subst (λ known. OnOk c.number_all.result (All (λ word. list_any (bytes_eq word) known ≡ true) (map word_bytes c.args.words.now))) (sym (known_table after)) c.number_all.ensures.numbered

pub returns-clause-succeeds : goal.returns-clause-succeeds
returns-clause-succeeds g c =
    λ all.
    c.number_all.ensures.succeeds
    (subst (λ known. All (λ word. list_any (bytes_eq word) known ≡ true) (map word_bytes c.args.words.now)) (sym (ap known_words c.self.view_is) ∙ known_table c.self.inside) all)

pub returns-clause-keys : goal.returns-clause-keys
returns-clause-keys g c = ap hash_numbers c.number_all.ensures.hasher ∙ ap (λ v. v.keys) c.self.view_is

pub returns-clause-numbers : goal.returns-clause-numbers
returns-clause-numbers g c =
    let after = record c.self.inside { words = c.number_all.new.words } in
    subst (λ known. OnOk c.number_all.result (words_by_number known c.number_all.new.numbers.items ≡ map word_bytes c.args.words.now)) (sym (known_table after)) c.number_all.ensures.numbers

pub returns-clause-within : goal.returns-clause-within
returns-clause-within g c =
    let after = record c.self.inside { words = c.number_all.new.words } in
    let same = sym (length-map {B = List ℕ} c.number_all.new.words.entries (λ e. word_bytes e.0)) ∙ ap length (sym (known_table after)) in
    subst (λ m. OnOk c.number_all.result (All (λ n. n < m) c.number_all.new.numbers.items)) same c.number_all.ensures.within
