use Rattle.world_run.proofs.Beginning.{first_client}
use Rattle.world_run.proofs.client_side.ClientSide.new.Goals as goal

pub returns : goal.returns
returns c = record { stands = λ f. first_client f c.args.key c.new-2.result c.new-2.ensures.began c.new-2.ensures.none }
