use Rattle.std.proofs.Common.{sym, ap, ◌∙◌}
use Rattle.std.specs.Prelude.{option_map, slice_get}
use Rattle.std.specs.Map.Iter.{deref_pair}
use Rattle.std.proofs.lemmas.Option.{slice_get-map}
use Rattle.client_registry.specs.Registered.{known_words}
use Rattle.client_registry.specs.WordBytes.{word_bytes}
use Rattle.client_registry.proofs.RegistryLaws.{known_table}
use Rattle.client_registry.proofs.registry.Registry.word.Goals as goal

pub returns : goal.returns
returns c =
    let es = c.self.inside.words.entries in
    let n = c.args.number in
    let at = sym c.get_index.ensures.entry ∙ ap (option_map deref_pair) c.unwrap.ensures in
    ap (λ v. slice_get (known_words v) n) (sym c.self.view_is)
    ∙ ap (λ ws. slice_get ws n) (known_table c.self.inside)
    ∙ slice_get-map (λ e. word_bytes e.0) es n
    ∙ ap (option_map (λ e. word_bytes e.0)) at
