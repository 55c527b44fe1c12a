-- The names whose values a run uses, each of them once.
use Rattle.std.specs.Prelude.{not, List, [], ◌∷◌, ◌++◌, filter, flat_map}
use Rattle.client_registry.specs.Run.{Run, Offsets}
use Rattle.sse_model.specs.Drawn.{drawn, probed}
use Rattle.sse_model.specs.Names.{Name, same_name}

-- names by first appearance
abbrev pub first_names : List Name → List Name
first_names [] = []
first_names (n ∷ ns) = n ∷ filter (λ other. not (same_name n other)) (first_names ns)

-- all that a run draws, then all that a server looks up for it, repeats included
abbrev pub all_names : Offsets → Run → List Name
all_names o run = flat_map (λ ns. ns) (drawn o run ++ probed o run)

-- the names of a run: each of these at its first place alone
abbrev pub names : Offsets → Run → List Name
names o run = first_names (all_names o run)
