-- The leakage and the draws of a history: those of its epochs, one after another.
use Rattle.std.specs.Prelude.{ℕ, List, [], None, Some}
use Rattle.keyed_fn.specs.KeyedFn.{KeyedFn}
use Rattle.client_registry.specs.Epochs.{joined}
use Rattle.client_registry.specs.Run.{History}
use Rattle.def_leakage.specs.DrawnValues.{draws}
use Rattle.def_leakage.specs.CommandLeaks.{leak}
use Rattle.sse_model.specs.Histories.{table_at}
use Rattle.sse_simulator.specs.Leaks.{Leak, Draw}

-- nothing before the setup
abbrev pub leak_in : History → List Leak
leak_in None = []
leak_in (Some es) = joined (λ key o run. leak o run) [] es

-- under a keyed function and the keys of the epochs, of which the first is given
abbrev pub draws_in : KeyedFn → (key : List ℕ) → History → List (List Draw)
draws_in f key None = []
draws_in f key (Some es) = joined (λ own o run. draws (table_at f own run) o run) key es
