-- Tables of values for a run.
use Rattle.std.specs.Prelude.{◌≡◌, Contains, flat_map}
use Rattle.client_registry.specs.Run.{Run, Offsets}
use Rattle.def_comparison.specs.UsedNames.{all_names}
use Rattle.sse_model.specs.Drawn.{drawn}
use Rattle.sse_model.specs.Names.{Name, Table}
use Rattle.sse_model.specs.Values.{IsValue}

-- a table gives each name that the run draws a value of its size
abbrev pub IsTableFor : Table → Offsets → Run → Type 0
IsTableFor t o run = (n : Name) → Contains (flat_map (λ ns. ns) (drawn o run)) n → IsValue run.setup.shape t n

-- two tables give each name that the run draws, or that is looked up for it, one value
abbrev pub AgreeOn : Offsets → Run → Table → Table → Type 0
AgreeOn o run t u = (n : Name) → Contains (all_names o run) n → t n ≡ u n
