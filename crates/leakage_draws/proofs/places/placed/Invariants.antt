use Rattle.std.proofs.Common.{◌≡◌, List, ℕ, map, take, true, is_some}
use Rattle.std.specs.Prelude.{All}
use Rattle.leakage_values.specs.Held.{Holds}
use Rattle.leakage_draws.specs.Given.{given}
use Rattle.leakage_names.specs.Sheets.{value_at}
use Rattle.leakage_names.specs.declared.name.Name.{Name}
use Rattle.def_relabelling.specs.ByTexts.{masked_by}
use Rattle.leakage_draws.proofs.places.placed.Given as goal

abbrev pub invariant-loop-i : goal.invariant-loop-i
invariant-loop-i l = record {
  valued : All (λ n. is_some (value_at l.sheet n) ≡ true) (take l.i l.from);
  held : (value : Name → List ℕ) → map value l.to ≡ masked_by (map (given l.sheet) l.from) l.ones l.others → Holds l.moved (take l.i l.to) value;
}
