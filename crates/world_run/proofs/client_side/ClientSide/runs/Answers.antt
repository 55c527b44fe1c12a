use Rattle.std.proofs.Common.{false, refl}
use Rattle.world_client.specs.declared.state.State.TheVariants.{Greeting}
use Rattle.world_model.specs.Events.{left}
use Rattle.world_rules.specs.Changes.{history_of}
use Rattle.world_run.proofs.Starting.{made_client}
use Rattle.world_run.proofs.client_side.ClientSide.runs.Goals as goal

pub returns : goal.returns
returns c = record {
  runs = λ f first part there stop_is greets holds told.
      let made = c.args.made in
      made_client f first part there (record { state = Greeting made.client; journal = made.journal; waits = false }) c.args.self.now.disk c.args.self.now.stop c.later-self.result c.last_key-self.result c.args.calls stop_is c.later-self.ensures
      holds greets refl (c.last_key-self.ensures first (history_of (left there part.disk).records) told);
}
