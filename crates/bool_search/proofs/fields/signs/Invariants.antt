use Rattle.std.specs.Prelude.{◌≡◌, map, take}
use Rattle.bool_search.specs.Fields.{sign_in}
use Rattle.bool_search.proofs.fields.signs.Given as goal

abbrev pub invariant-fields : goal.invariant-fields
invariant-fields l = record {
  signs : l.signs.items ≡ map (sign_in (map (λ word. word.now) l.words)) (map (λ field. field.now) (take l.field-index l.fields));
}
