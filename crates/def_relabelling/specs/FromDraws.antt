-- The values of a table from draws: those under the table, and the plaintexts, which are drawn when each pad is zeros.
use Rattle.std.specs.Prelude.{ℕ, Bool, true, false, List, [], ◌∷◌, ◌++◌, length, replicate, if◌then◌else◌}
use Rattle.keyed_fn.specs.Xored.{xored}
use Rattle.def_leakage.specs.DrawnValues.{Drawing, ForEntry, ForBlock, ForNumber, ForToken}
use Rattle.sse_model.specs.Names.{Name, Table, Class, CellPads, BlockPads, PlusPads, class_of}
use Rattle.sse_simulator.specs.Leaks.{Draw, EntryDraw, BlockDraw, NumberDraw, TokenDraw}

-- whether the values of the class are pads
abbrev pub is_pad : Class → Bool
is_pad CellPads = true
is_pad BlockPads = true
is_pad PlusPads = true
is_pad _ = false

-- the table with as many zeros in place of each pad
abbrev pub without_pads : Table → Table
without_pads t n = if is_pad (class_of n) then replicate (length (t n)) 0 else t n

-- what a draw and the draw without pads at its place tell of the names that they take: a pad is the XOR of the two texts
abbrev pub told_of : Drawing → (under plain : Draw) → List (Name × List ℕ)
told_of (ForEntry p) (EntryDraw under) (EntryDraw plain) = (p.label, under.label) ∷ (p.pad, xored under.text plain.text) ∷ []
told_of (ForBlock p) (BlockDraw under) (BlockDraw plain) = (p.label, under.label) ∷ (p.pad, xored under.text plain.text) ∷ []
told_of (ForNumber n) (NumberDraw number) plain = (n, number) ∷ []
told_of (ForToken n) (TokenDraw token) plain = (n, token) ∷ []
told_of drawing under plain = []

abbrev pub told_of_all : List Drawing → (under plain : List Draw) → List (Name × List ℕ)
told_of_all (d ∷ ds) (x ∷ xs) (y ∷ ys) = told_of d x y ++ told_of_all ds xs ys
told_of_all ds xs ys = []
