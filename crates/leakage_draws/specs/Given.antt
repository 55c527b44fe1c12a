-- The values that a sheet gives names of the code, and the values drawn from them.
use Rattle.std.specs.Prelude.{ℕ, List, [], ◌∷◌, unwrap_or}
use Rattle.chacha_stream.specs.Xored.{xored}
use Rattle.leakage_values.specs.Numbered.{numbered}
use Rattle.leakage_values.specs.declared.drawn.Drawing.{Drawing}
use Rattle.leakage_values.specs.declared.drawn.Drawing.TheVariants.{Entry, Block, Number, Token}
use Rattle.leakage_names.specs.Sheets.{Values, value_at}
use Rattle.leakage_names.specs.declared.name.Name.{Name}
use Rattle.sse_model.specs.Names.{Table}
use Rattle.sse_simulator.specs.Leaks.{Draw, EntryDraw, BlockDraw, NumberDraw, TokenDraw}

-- the value of a name, and nothing where it has none
abbrev pub given : Values → Name → List ℕ
given values name = unwrap_or (value_at values name) []

-- what is drawn for a value, of an entry or a block with this plaintext
abbrev pub draw_given : Values → Drawing → (clear : List ℕ) → Draw
draw_given values (Entry label pad) clear = EntryDraw (record { label = given values label; text = xored clear (given values pad) })
draw_given values (Block tag pad) clear = BlockDraw (record { label = given values tag; text = xored clear (given values pad) })
draw_given values (Number name) clear = NumberDraw (given values name)
draw_given values (Token name) clear = TokenDraw (given values name)

-- the tag of a block
abbrev pub tags_given : Values → Drawing → List (List ℕ)
tags_given values (Entry label pad) = []
tags_given values (Block tag pad) = given values tag ∷ []
tags_given values (Number name) = []
tags_given values (Token name) = []

-- the table of a sheet, where these are the words by their numbers
abbrev pub sheet_table : Values → (words : List (List ℕ)) → Table
sheet_table values words n = given values (numbered words n)
