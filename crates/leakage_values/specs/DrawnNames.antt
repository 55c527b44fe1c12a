-- The names that a drawing of the code takes.
use Rattle.std.specs.Prelude.{List, [], ◌∷◌}
use Rattle.leakage_values.specs.declared.drawn.Drawing.{Drawing}
use Rattle.leakage_values.specs.declared.drawn.Drawing.TheVariants.{Entry, Block, Number, Token}
use Rattle.leakage_names.specs.declared.name.Name.{Name}

abbrev pub names_in_code : Drawing → List Name
names_in_code (Entry label pad) = label ∷ pad ∷ []
names_in_code (Block tag pad) = tag ∷ pad ∷ []
names_in_code (Number name) = name ∷ []
names_in_code (Token name) = name ∷ []
