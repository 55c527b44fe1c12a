use Rattle.std.proofs.Common.{None, sym, subst}
use Rattle.world_model.specs.Events.{Command as Commands}
use Rattle.world_rules.specs.Changes.{history_of}
use Rattle.sse_world.specs.declared.event.Outcome.TheVariants as outcome
use Rattle.world_run.proofs.Commanding.{broken_leads, lacking_leads, refused_leads, stopped_leads}
use Rattle.world_run.specs.Commands.{IsCame}
use Rattle.world_run.specs.Sides.{LeadsClient}
use Rattle.world_run.proofs.client_side.ClientSide.ended.Goals as goal

pub returns-in-Refused : goal.returns-in-Refused
returns-in-Refused c = record {
  leads = λ f first w change t came waits.
      let side = c.args.self.now in
      let new = c.stays.new.self in
      let here = subst (λ x. IsCame f first (history_of t.r.commands) t.r.phase change side.stop x c.args.calls c.args.journal side.disk) c.in-Refused.is came in
      refused_leads f first w change side.stop side.key c.args.own t new.running new.disk new.stop new.key new.other c.args.waiting.now (c.stays.ensures.runs f first w change c.args.own t here.1 here.2) waits here.0;
}

pub returns-in-NoMemory : goal.returns-in-NoMemory
returns-in-NoMemory c = record {
  leads = λ f first w change t came waits.
      let side = c.args.self.now in
      let new = c.stays-in-NoMemory.new.self in
      let here = subst (λ x. IsCame f first (history_of t.r.commands) t.r.phase change side.stop x c.args.calls c.args.journal side.disk) c.in-NoMemory.is came in
      lacking_leads f first w change side.stop side.key c.args.own t new.running new.disk new.stop new.key new.other c.args.waiting.now (c.stays-in-NoMemory.ensures.runs f first w change c.args.own t here.0 here.1) waits;
}

pub returns-in-Stopped : goal.returns-in-Stopped
returns-in-Stopped c = record {
  leads = λ f first w change t came waits.
      let side = c.args.self.now in
      let own = c.args.own in
      let here = subst (λ x. IsCame f first (history_of t.r.commands) t.r.phase change side.stop x c.args.calls c.args.journal side.disk) c.in-Stopped.is came in
      let leads = stopped_leads f first w change side.stop side.key own t c.args.calls c.args.journal side.disk here in
      subst (λ x. LeadsClient f first w (Commands change) outcome.Done c.gone.new.self.running c.gone.new.self.disk c.gone.new.self.stop c.gone.new.self.key c.gone.new.self.other x) (sym c.gone.ensures.waits)
      (subst (λ s. LeadsClient f first w (Commands change) outcome.Done s.running s.disk s.stop s.key s.other None) (sym c.gone.ensures.gone) leads);
}

pub returns-in-Broken : goal.returns-in-Broken
returns-in-Broken c = record {
  leads = λ f first w change t came waits.
      let side = c.args.self.now in
      let own = c.args.own in
      let after = c.gone-in-Broken in
      let here = subst (λ x. IsCame f first (history_of t.r.commands) t.r.phase change side.stop x c.args.calls c.args.journal side.disk) c.in-Broken.is came in
      let leads = broken_leads f first w change side.stop side.key own t c.args.calls c.args.journal side.disk c.later-stop.result here c.later-stop.ensures in
      subst (λ x. LeadsClient f first w (Commands change) outcome.NoMemory after.new.self.running after.new.self.disk after.new.self.stop after.new.self.key after.new.self.other x) (sym after.ensures.waits)
      (subst (λ s. LeadsClient f first w (Commands change) outcome.NoMemory s.running s.disk s.stop s.key s.other None) (sym after.ensures.gone) leads);
}
