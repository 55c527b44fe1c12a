-- A relabelled table from the texts of two runs' draws, with no plaintext.
use Rattle.std.specs.Prelude.{ℕ, List, [], ◌∷◌, drop, flat_map, get_or, map, zip}
use Rattle.client_registry.specs.Run.{Run, Offsets}
use Rattle.keyed_fn.specs.Xored.{xored}
use Rattle.def_leakage.specs.Relabelled.{bare, value_among}
use Rattle.sse_model.specs.Drawn.{drawn}
use Rattle.sse_model.specs.Names.{Name, Table}
use Rattle.sse_simulator.specs.Leaks.{Draw, EntryDraw, BlockDraw, NumberDraw, TokenDraw}

-- all that a run draws, command by command
abbrev pub drawn_names : Offsets → Run → List Name
drawn_names o run = flat_map (λ ns. ns) (drawn o run)

-- the table that gives each name that the other run draws the value of the name at its place of the first run, no pad shifted
abbrev pub unshifted : Offsets → (run other : Run) → Table → Table
unshifted o run other t = value_among t (zip (map bare (drawn_names o run)) (map bare (drawn_names o other)))

-- for each name that a draw takes, the text that is drawn under its value: that of a pad, and nothing under any other
abbrev pub texts_in : Draw → List (List ℕ)
texts_in (EntryDraw entry) = [] ∷ entry.text ∷ []
texts_in (BlockDraw block) = [] ∷ block.text ∷ []
texts_in (NumberDraw number) = [] ∷ []
texts_in (TokenDraw token) = [] ∷ []

abbrev pub texts_of : List (List Draw) → List (List ℕ)
texts_of draws = flat_map (flat_map texts_in) draws

-- values, each XORed with the text at its place of one list and that of another; where a list is too short with nothing
abbrev pub masked_by : (values ones others : List (List ℕ)) → List (List ℕ)
masked_by [] ones others = []
masked_by (value ∷ values) ones others = xored (xored value (get_or ones 0 [])) (get_or others 0 []) ∷ masked_by values (drop 1 ones) (drop 1 others)
