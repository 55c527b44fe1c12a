use Rattle.std.proofs.Common.{sym, ◌∙◌, subst}
use Rattle.world_rules.specs.Changes.{history_of}
use Rattle.world_run.proofs.Asking.{none_finds, one_finds, is_in, r}
use Rattle.world_run.specs.Sides.{IsClient, client_part}
use Rattle.world_run.proofs.client_side.ClientSide.find.Goals as goal

pub returns-in_default : goal.returns-in_default
returns-in_default c = record {
  leads = λ f first w is are.
      let side = c.args.self.now in
      none_finds f first w side.disk side.stop side.key side.other c.args.asked.now are c.args.word side.running c.take.new.self (sym c.take.ensures.value ∙ c.in_default.is) c.take.ensures.after is;
}

pub returns : goal.returns
returns c = record {
  leads = λ f first w is are.
      let side = c.args.self.now in
      let here = subst (λ r. IsClient f first (client_part w) r side.disk side.stop side.key side.other) (sym c.take.ensures.value ∙ c.in-Some.is) is in
      let client = r f first w side.disk side.stop side.key side.other c.args.asked.now are c.args.word c.in-Some.it here in
      one_finds f first w side.disk side.stop side.key side.other c.args.asked.now are c.args.word c.in-Some.it here c.asks-after.result.1 c.asks-after.result.0 c.asks-after.new.asked
      (c.asks-after.ensures.asking f first (history_of client.commands) client.phase (is_in f first w side.disk side.stop side.key side.other c.args.asked.now are c.args.word c.in-Some.it here));
}
