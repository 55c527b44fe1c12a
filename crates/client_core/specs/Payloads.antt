-- The journal records of plans, by the contract's view of a plan.
use Rattle.std.specs.Prelude.{ℕ, List}
use Rattle.client_records.specs.Records.{renewal_record, setup_record, update_record}
use Rattle.client_registry.specs.Setup.{setup_with}
use Rattle.client_core.specs.Plans.{RenewalPlan, SetupPlan, UpdatePlan}
use Rattle.client_core.specs.Updates.{command_of_update}

-- of a setup: of the plan's documents and numbers, under the key of the plan's mark
abbrev pub setup_payload : SetupPlan → List ℕ
setup_payload p = setup_record p.mark (setup_with p.docs.documents p.b p.big p.pad)

-- of an update: of its command
abbrev pub update_payload : UpdatePlan → List ℕ
update_payload p = update_record (command_of_update p.update)

-- of a renewal: of the mark of its key
abbrev pub renewal_payload : RenewalPlan → List ℕ
renewal_payload p = renewal_record p.mark
