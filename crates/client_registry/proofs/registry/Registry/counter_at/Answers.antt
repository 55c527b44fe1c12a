use Rattle.std.proofs.Common.{◌<◌, [], length, get_or, sym, ap, ◌∙◌, arith}
use Rattle.std.specs.Prelude.{option_map}
use Rattle.std.specs.Map.{values_of}
use Rattle.std.specs.Map.Iter.{deref_pair}
use Rattle.std.proofs.lemmas.Option.{get_or_from_slice_get, slice_get-map}
use Rattle.client_registry.specs.Registered.{facts, known_words}
use Rattle.client_registry.specs.WordTable.{table_words}
use Rattle.client_registry.proofs.RegistryLaws.{counter_known, known_table}
use Rattle.client_registry.proofs.registry.Registry.counter_at.Goals as goal

pub returns : goal.returns
returns c =
    let es = c.self.inside.words.entries in
    let n = c.args.number in
    let at = sym c.get_index.ensures.entry ∙ ap (option_map deref_pair) c.unwrap.ensures in
    let value = slice_get-map (λ e. e.1) es n ∙ ap (option_map (λ e. e.1)) at in
    let same = sym (known_table c.self.inside) ∙ ap known_words c.self.view_is in
    let within : n < length (table_words es) = omega (arith, c.requires, ap length same) in
    sym (get_or_from_slice_get (values_of es) n c.unwrap.result.1.now 0 value)
    ∙ sym (counter_known c.self.inside c.self.invariant n within)
    ∙ ap (λ v. (facts v).counter (get_or (table_words es) n [])) c.self.view_is
    ∙ ap (λ ws. (facts c.args.self.now).counter (get_or ws n [])) same
