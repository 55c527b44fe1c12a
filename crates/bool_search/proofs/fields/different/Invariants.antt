use Rattle.std.specs.Prelude.{◌≡◌, map, take}
use Rattle.bool_search.specs.Fields.{words_of}
use Rattle.bool_search.proofs.fields.different.Given as goal

abbrev pub invariant-fields : goal.invariant-fields
invariant-fields l = record {
  words : map (λ word. word.now) l.words.items ≡ words_of (map (λ field. field.now) (take l.field-index l.fields));
}
