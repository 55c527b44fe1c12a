-- A first run of a whole script, by what its parts came to.
use Rattle.std.proofs.Common.{◌≡◌, ℕ, ◌+◌, Bool, List, [], Ok, Err, refl, subst}
use Rattle.std.specs.Prelude.{Option, Result}
use Rattle.std.specs.Result.{IsErrAnd}
use Rattle.keyed_fn.specs.KeyedFn.{KeyedFn}
use Rattle.script_run_texts.specs.declared.input_stop.InputStop.{InputStop}
use Rattle.script_run_texts.specs.declared.input_stop.InputStop.TheVariants as inputs
use Rattle.script_run_texts.specs.declared.stop_cause.StopCause.TheVariants as runs
use Rattle.vault_script.specs.declared.vault_stop.VaultStop.{VaultStop}
use Rattle.vault_script.specs.declared.vault_stop.VaultStop.TheVariants as stops
use Rattle.sse_script.specs.TextLines.{lines_left}
use Rattle.doc_vault.specs.Beginnings.{RunsUnder}
use Rattle.doc_vault.specs.Openings.{FindsKey, MissesKey}
use Rattle.doc_vault.specs.Scripts.{AtKeyLine, RunsScript, UnderKey}
use Rattle.doc_vault.specs.Sights.{Sight}

module _ (f : KeyedFn) (left : Option (List (List ℕ))) where
  -- the key line isn't there
  pub script-unopened : (sight : Sight) (result : Result Bool VaultStop) (why : InputStop) → IsErrAnd result (λ stop. stop ≡ stops.Run (runs.Input why)) → ((number : ℕ) → why ≡ inputs.Line number → MissesKey 1 left number) → RunsScript f left sight sight result
  script-unopened sight (Ok done) why is misses = absurd is
  script-unopened sight (Err stop) why is misses = AtKeyLine why is misses refl

  -- it is
  pub script-opened : (old new : Sight) (key : List ℕ) (number : ℕ) (left_over : Option (List (List ℕ))) (result : Result Bool VaultStop) → FindsKey 1 left key number left_over → RunsUnder f key number left_over old new result → RunsScript f left old new result
  script-opened old new key number left_over (Ok refused) finds under = record { key = key; number = number; left_over = left_over; finds = finds; runs = under }
  script-opened old new key number left_over (Err stop) finds under = UnderKey key number left_over finds under

-- no line was read before

pub misses-first : (n : ℕ) (pending : List ℕ) (remaining : Option (List ℕ)) (number : ℕ) → n ≡ 0 → pending ≡ [] → MissesKey (n + 1) (lines_left pending remaining) number → MissesKey 1 (lines_left [] remaining) number
misses-first n pending remaining number zero none misses =
    subst (λ (m : ℕ). MissesKey (m + 1) (lines_left [] remaining) number) zero (subst (λ (p : List ℕ). MissesKey (n + 1) (lines_left p remaining) number) none misses)

pub finds-first : (n : ℕ) (pending : List ℕ) (remaining : Option (List ℕ)) (key : List ℕ) (number : ℕ) (left_over : Option (List (List ℕ))) → n ≡ 0 → pending ≡ [] → FindsKey (n + 1) (lines_left pending remaining) key number left_over
    → FindsKey 1 (lines_left [] remaining) key number left_over
finds-first n pending remaining key number left_over zero none finds =
    subst (λ (m : ℕ). FindsKey (m + 1) (lines_left [] remaining) key number left_over) zero (subst (λ (p : List ℕ). FindsKey (n + 1) (lines_left p remaining) key number left_over) none finds)
