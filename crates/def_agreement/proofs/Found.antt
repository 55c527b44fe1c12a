-- What is shown, in order, is what is found.
use Rattle.client_registry.proofs.ShownLaws.{in_order-shown}
use Rattle.def_agreement.specs.Agreement.{ShownAreFound}

-- Promise P149, also here
pub shown_are_found : ShownAreFound
shown_are_found run word history = in_order-shown run.setup run.later word history.collected history.accepted
