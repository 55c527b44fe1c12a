-- The records of a history's plans are those of the history, from which its client is made again.
use Rattle.std.proofs.Common.{◌≡◌, ℕ, List, [], ◌∷◌, ◌++◌, length, map, filter, Some, refl, ap, subst, ◌∙◌}
use Rattle.client_registry.specs.Command.{is_update}
use Rattle.client_registry.specs.Histories.{IsKept, IsWhole}
use Rattle.client_registry.specs.Run.{Epochs, Renewed, Run}
use Rattle.client_records.proofs.OpeningLaws.{opens_once}
use Rattle.client_records.proofs.RecordedLaws.{opens-records}
use Rattle.client_records.specs.Openings.{MarksDiffer}
use Rattle.client_records.specs.Recorded.{as_recorded, records_of_epochs}
use Rattle.client_records.specs.Records.{records_of, renewal_record, setup_record, update_record}
use Rattle.client_core.specs.Payloads.{renewal_payload, setup_payload, update_payload}
use Rattle.client_core.specs.Plans.{RenewalPlan, SetupPlan, UpdatePlan}
use Rattle.client_core.specs.Restores.{IsRecordedIn, IsRestored}
use Rattle.client_core.specs.States.{ClientOf, RecordedState}
use Rattle.client_core.specs.Updates.{command_of_update}
use Rattle.client_core.specs.declared.restored.Restored.TheVariants as restored

each : (some : List UpdatePlan) → map update_payload some ≡ map update_record (map (λ plan. command_of_update plan.update) some)
each [] = refl
each (plan ∷ some) = ap (λ (rest : List (List ℕ)). update_payload plan ∷ rest) (each some)

-- Promise P68, also here
-- the record of its setup's plan, then those of the plans of its updates, in order, are the records of a run
pub payloads-records : (mark : List ℕ) (run : Run) (first : SetupPlan) (plans : List UpdatePlan) → setup_payload first ≡ setup_record mark run.setup
    → map (λ plan. command_of_update plan.update) plans ≡ filter is_update run.later → setup_payload first ∷ map update_payload plans ≡ records_of mark run
payloads-records mark run first plans setup updates = λ i. setup i ∷ (each plans ∙ ap (map update_record) updates) i

-- Promise P68, also here
-- behind the records of epochs that of a renewal's plan, then those of the plans of its updates, are the records with the epoch that it
-- begins
pub payloads-renewed : (mark : List ℕ → List ℕ) (key : List ℕ) (before : Epochs) (own : List ℕ) (run : Run) (payloads : List (List ℕ)) (renewal : RenewalPlan) (plans : List UpdatePlan)
    → payloads ≡ records_of_epochs mark key before → renewal_payload renewal ≡ renewal_record (mark own) → map (λ plan. command_of_update plan.update) plans ≡ filter is_update run.later
    → payloads ++ renewal_payload renewal ∷ map update_payload plans ≡ records_of_epochs mark key (Renewed before own run)
payloads-renewed mark key before own run payloads renewal plans first new updates = λ i. first i ++ new i ∷ (each plans ∙ ap (map update_record) updates) i

-- Promise P68, also here
-- the client of the records of epochs remembers the last of them, without its searches
pub restored-records : (mark : List ℕ → List ℕ) (size : (key : List ℕ) → length (mark key) ≡ 16) (key n : List ℕ) (es : Epochs) (client : ClientOf RecordedState) → IsWhole (Some es) → IsKept (Some es) → MarksDiffer mark key (Some es)
    → IsRestored n (records_of_epochs mark key es) (restored.Recorded client) → IsRecordedIn n (records_of_epochs mark key es) (mark key) (as_recorded mark es) client.state
restored-records mark size key n es client whole kept differ is =
    let same = opens_once is.0 (mark key) (records_of_epochs mark key es) is.1 (as_recorded mark es) is.2.opened (opens-records mark size key (Some es) whole kept differ) in
    subst (λ (p : List ℕ × Epochs). IsRecordedIn n (records_of_epochs mark key es) p.0 p.1 client.state) (λ i. (same.0 i, same.1 i)) is.2
