-- A loopback of which chosen calls fail.
use Rattle.std.specs.Prelude.{◌≡◌, ℕ, Bool, true, false, List, [], ◌∷◌, Option, None, Some, ◌==◌, if◌then◌else◌, refl}
use Rattle.std.specs.Coded.{Coded, code_by, coded×, coded_list, coded_ℕ, coded_bool}
use Rattle.keyed_fn.specs.KeyedFn.{KeyedFn}
use Rattle.sse_link.specs.declared.fail.Fail.{Fail}
use Rattle.sse_link.specs.Counts.{one_more}
use Rattle.sse_link.specs.LinkStates.{LinkState, link_state_code, dropped, IsLost}

-- what such a loopback tells, its list of failing calls, the number of the next call, and its count of faults
pub record FailingState : Type 0 where
  pub told : LinkState
  pub fails : List Fail
  pub calls : ℕ
  pub faults : ℕ

-- whether a call of this number fails after its work, by the first of the list that names it; None where none does
abbrev pub failure_at : List Fail → ℕ → Option Bool
failure_at [] call = None
failure_at (fail ∷ fails) call = if fail.call == call then Some fail.delivered else failure_at fails call

-- the call after one that worked, or that failed
abbrev pub worked : FailingState → LinkState → FailingState
worked old told = record old { told = told; calls = one_more old.calls }

abbrev pub failed : FailingState → LinkState → FailingState
failed old told = record old { told = told; calls = one_more old.calls; faults = one_more old.faults }

-- a send that fails, after its work or before
abbrev pub FailsSend : KeyedFn → (delivered : Bool) → LinkState → LinkState → List ℕ → Type 0
FailsSend f true old new bytes = IsLost f old new bytes
FailsSend f false old new bytes = new ≡ dropped old

-- the code by which a proof tells these values apart

abbrev fail_code : Coded Fail
fail_code = code_by (ℕ × Bool) (coded× coded_ℕ coded_bool) (λ fail. (fail.call, fail.delivered)) (λ p. record { call = p.0; delivered = p.1 }) (λ _. refl)

abbrev pub failing_code : Coded FailingState
failing_code =
    code_by (LinkState × (List Fail × (ℕ × ℕ))) (coded× link_state_code (coded× (coded_list fail_code) (coded× coded_ℕ coded_ℕ))) (λ t. (t.told, (t.fails, (t.calls, t.faults)))) (λ p. record { told = p.0; fails = p.1.0; calls = p.1.1.0; faults = p.1.1.1 }) (λ _. refl)
