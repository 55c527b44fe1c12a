-- A first run of a whole script: its key line, and its lines under that key.
use Rattle.std.specs.Prelude.{◌≡◌, ℕ, Bool, List, Option, Result, Ok, Err}
use Rattle.keyed_fn.specs.KeyedFn.{KeyedFn}
use Rattle.script_run_texts.specs.declared.input_stop.InputStop.{InputStop}
use Rattle.script_run_texts.specs.declared.input_stop.InputStop.TheVariants as inputs
use Rattle.script_run_texts.specs.declared.stop_cause.StopCause.TheVariants as runs
use Rattle.vault_script.specs.declared.vault_stop.VaultStop.{VaultStop}
use Rattle.vault_script.specs.declared.vault_stop.VaultStop.TheVariants as stops
use Rattle.doc_vault.specs.Beginnings.{FinishesUnder, StopsUnder}
use Rattle.doc_vault.specs.Openings.{FindsKey, MissesKey}
use Rattle.doc_vault.specs.Outcomes.{own_memory_stop}
use Rattle.doc_vault.specs.Sights.{Sight}

module _ (f : KeyedFn) where
  -- the run is through, under the key of the script's key line
  pub record FinishesScript (left : Option (List (List ℕ))) (old new : Sight) (refused : Bool) : Type 0 where
    pub key : List ℕ
    pub number : ℕ
    pub left_over : Option (List (List ℕ))
    pub finds : FindsKey 1 left key number left_over
    pub runs : FinishesUnder f key number left_over old new refused

  -- it stops: out of memory or at the key line, with nothing done, or under the key
  pub data StopsScript (left : Option (List (List ℕ))) (old new : Sight) (stop : VaultStop) : Type 0 where
    AtStart : stop ≡ own_memory_stop → new ≡ old → StopsScript left old new stop
    AtKeyLine : (why : InputStop) → stop ≡ stops.Run (runs.Input why) → ((number : ℕ) → why ≡ inputs.Line number → MissesKey 1 left number) → new ≡ old → StopsScript left old new stop
    UnderKey : (key : List ℕ) (number : ℕ) (left_over : Option (List (List ℕ))) → FindsKey 1 left key number left_over → StopsUnder f key number left_over old new stop → StopsScript left old new stop

  -- one of the two
  abbrev pub RunsScript : (left : Option (List (List ℕ))) (old new : Sight) → Result Bool VaultStop → Type 0
  RunsScript left old new (Ok refused) = FinishesScript left old new refused
  RunsScript left old new (Err stop) = StopsScript left old new stop
