use Rattle.server_core.proofs.CellLemmas.{IsHeld-no_contents}
use Rattle.server_core.proofs.server.Server.new.Goals as goal

pub invariant_of-result : goal.invariant_of-result
invariant_of-result g c = IsHeld-no_contents _ c.requires
