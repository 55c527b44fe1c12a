use Rattle.std.specs.Prelude.{◌≡◌, ◌++◌, length, map}
use Rattle.bool_search.proofs.query.gather.Given as goal

abbrev pub invariant-fields : goal.invariant-fields
invariant-fields l = record {
  found : map (λ field. field.now) l.found.items ++ l.fields ≡ l.initial.fields;
}

abbrev pub decreases-fields : goal.decreases-fields
decreases-fields l = length l.fields
