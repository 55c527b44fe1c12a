use Rattle.std.proofs.Common.{◌≡◌, false, position, sym, ap, ◌∙◌}
use Rattle.std.specs.Prelude.{is_some}
use Rattle.std.specs.List.{list_any}
use Rattle.std.specs.Str.{bytes_eq}
use Rattle.client_registry.specs.Registered.{facts, known_words}
use Rattle.client_registry.specs.RegistryView.{registered_of}
use Rattle.client_registry.specs.WordBytes.{word_bytes}
use Rattle.client_registry.proofs.Positions.{is_some-position}
use Rattle.client_registry.proofs.RegistryLaws.{number_place, unlisted}
use Rattle.client_registry.proofs.registry.Registry.number_of.Goals as goal

pub returns-in-Some-clause-number : goal.returns-in-Some-clause-number
returns-in-Some-clause-number c =
    let bs = word_bytes c.args.word.now in
    c.in-Some.ensures.index ∙ number_place c.self.inside bs ∙ ap (λ v. position (bytes_eq bs) (known_words v)) c.self.view_is

pub returns-in-None-clause-number : goal.returns-in-None-clause-number
returns-in-None-clause-number c =
    let bs = word_bytes c.args.word.now in
    c.in-None.ensures.index ∙ number_place c.self.inside bs ∙ ap (λ v. position (bytes_eq bs) (known_words v)) c.self.view_is

pub returns-in-None-clause-unlisted : goal.returns-in-None-clause-unlisted
returns-in-None-clause-unlisted c =
    λ none id.
    let bs = word_bytes c.args.word.now in
    let known = known_words (registered_of c.self.inside) in
    let absent : list_any (bytes_eq bs) known ≡ false = sym (is_some-position (bytes_eq bs) known) ∙ ap is_some (sym (c.in-None.ensures.index ∙ number_place c.self.inside bs)) in
    ap (λ v. (facts v).listed bs id) (sym c.self.view_is) ∙ unlisted c.self.inside c.self.invariant bs absent id
