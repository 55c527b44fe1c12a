use Rattle.std.proofs.Common.{sym, ◌∙◌}
use Rattle.world_run.proofs.Stopping.{none_lost, some_lost}
use Rattle.world_run.proofs.client_side.ClientSide.lose.Goals as goal

pub returns-in_default : goal.returns-in_default
returns-in_default c = record {
  leads = λ f first w is waits.
      let side = c.args.self.now in
      none_lost f first w side.running side.disk side.stop side.key side.other c.args.waiting.now is waits c.take.new.self (sym c.take.ensures.value ∙ c.in_default.is) c.take.ensures.after;
}

pub returns : goal.returns
returns c = record {
  leads = λ f first w is waits.
      let side = c.args.self.now in
      some_lost f first w side.running side.disk side.stop side.key side.other c.args.waiting.now is waits c.in-Some.replies c.take-2.new.self c.take.new.self
      (sym c.take.ensures.value ∙ c.in-Some.is) c.take-2.ensures.after c.take.ensures.after;
}
