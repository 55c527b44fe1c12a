-- What all that passes for a history tells of it: nothing but its leakage.
use Rattle.std.specs.Prelude.{◌≡◌, ℕ, List, [], Contains, None, Some}
use Rattle.client_registry.specs.Run.{History}
use Rattle.def_leakage.specs.Histories.{leak_in, draws_in}
use Rattle.def_relabelling.specs.Histories.{all_names_in, passed, relabelled_from}
use Rattle.keyed_fn.specs.KeyedFn.{KeyedFn}
use Rattle.sse_frames.specs.Exchange.{Passed}
use Rattle.sse_model.specs.Names.{Name, Table}
use Rattle.sse_model.specs.Transcript.{session}
use Rattle.sse_simulator.specs.Simulator.{simulated}

-- it is the session of the left history, the simulator makes it of leakage and draws alone, and it is what passes for the right history
-- under the relabelled table
pub record TellsNothingElse (f : KeyedFn) (key : List ℕ) (left right : History) (seen : List Passed) : Type 0 where
  pub is : seen ≡ session f key left
  pub made : simulated (leak_in left) (draws_in f key left) ≡ Some seen
  pub moved : passed (relabelled_from f key left right) right ≡ seen

-- the names that a history draws, or that are looked up for it; none before its setup
abbrev pub names_used : History → List Name
names_used None = []
names_used (Some es) = all_names_in es

-- two tables give each of these names one value
abbrev pub AgreeAtNames : History → Table → Table → Type 0
AgreeAtNames h t u = (n : Name) → Contains (names_used h) n → t n ≡ u n
