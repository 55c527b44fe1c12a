-- Histories under tables. A name has its epoch, so one table serves all epochs of a history.
use Rattle.std.specs.Prelude.{ℕ, ◌==◌, List, [], ◌++◌, flat_map, None, Some, if◌then◌else◌}
use Rattle.client_registry.specs.Epochs.{next_begins, joined, Each}
use Rattle.client_registry.specs.Run.{History, Epochs, From, Renewed, at_first}
use Rattle.def_comparison.specs.UsedNames.{all_names}
use Rattle.keyed_fn.specs.KeyedFn.{KeyedFn}
use Rattle.sse_frames.specs.Exchange.{Passed, greeting}
use Rattle.def_leakage.specs.Relabelled.{relabelled}
use Rattle.sse_model.specs.Drawn.{IsCollisionFree}
use Rattle.sse_model.specs.Histories.{table_at}
use Rattle.sse_model.specs.Names.{Name, Table}
use Rattle.sse_model.specs.Transcript.{transcript}
use Rattle.def_relabelling.specs.Tables.{IsTableFor}

-- all that passes for epochs after the greeting: under one table, and under their keys, the first epoch's key being this
abbrev pub passed_under : Table → Epochs → List Passed
passed_under t es = joined (λ key o run. flat_map (λ exchanged. exchanged) (transcript t o run)) [] es

abbrev pub passed_by_keys : KeyedFn → (key : List ℕ) → Epochs → List Passed
passed_by_keys f key es = joined (λ own o run. flat_map (λ exchanged. exchanged) (transcript (table_at f own run) o run)) key es

-- all that passes for a history under a table, from a server that has taken nothing
abbrev pub passed : Table → History → List Passed
passed t None = greeting at_first.frame
passed t (Some es) = greeting at_first.frame ++ passed_under t es

-- the table of all epochs under their keys: a name has its value by the key of its epoch, the first epoch's key being this
abbrev pub table_in : KeyedFn → (key : List ℕ) → Epochs → Table
table_in f key (From o run) n = table_at f key run n
table_in f key (Renewed before own run) n = if n.epoch == (next_begins before).epoch then table_at f own run n else table_in f key before n

-- a table relabelled for the epochs of another history, which are as many: the names of each epoch have the values that they have in the
-- table relabelled from the run of that epoch to the other's
abbrev pub relabelled_epochs : (es other : Epochs) → Table → Table
relabelled_epochs (From o run) (From o2 other) t n = relabelled o run other t n
relabelled_epochs (Renewed before own run) (Renewed before2 own2 other) t n =
    let o = next_begins before in
    if n.epoch == o.epoch then relabelled o run other t n else relabelled_epochs before before2 t n
relabelled_epochs _ _ t n = []

-- the table for another history, relabelled from that of keys; before a setup nothing is drawn
abbrev pub relabelled_from : KeyedFn → (key : List ℕ) → (h other : History) → Table
relabelled_from f key None other = λ n. []
relabelled_from f key (Some es) None = λ n. []
relabelled_from f key (Some es) (Some other) = relabelled_epochs es other (table_in f key es)

-- all names that the epochs draw, or that are looked up for them, repeats included
abbrev pub all_names_in : Epochs → List Name
all_names_in es = joined (λ key o run. all_names o run) [] es

-- a table gives each name that they draw a value of its size
abbrev pub IsTableIn : Table → Epochs → Type 0
IsTableIn t es = Each (λ key o run. IsTableFor t o run) [] es

-- and different values to those names of one epoch whose values are compared
abbrev pub IsFreeIn : Table → Epochs → Type 0
IsFreeIn t es = Each (λ key o run. IsCollisionFree t o run) [] es
