use Rattle.std.proofs.Common.{Bool, List, ℕ, sym, ◌∙◌}
use Rattle.world_disks.specs.Disks.{IsDiskOf}
use Rattle.world_model.specs.World.{Disk}
use Rattle.world_model.specs.Events.{left}
use Rattle.world_run.proofs.Stopping.{of_ok, stopped_now, stops_later}
use Rattle.world_run.proofs.client_side.ClientSide.stop.Goals as goal

pub returns-then-call-eq0-clause-leads : goal.returns-then-call-eq0-clause-leads
returns-then-call-eq0-clause-leads c = λ f first w is waits.
    let side = c.args.self.now in
    stopped_now f first w side.running side.disk side.stop side.key side.other c.args.waiting.now is waits c.args.call c.args.pick c.crash.new.disk c.take.new.self c.take-then-call-eq0.new.self
    c.if-call-eq0.true (of_ok c.crash.result ((model : Disk (List ℕ)) → IsDiskOf model side.disk → (there : Bool) × IsDiskOf (left there model) c.crash.new.disk) (sym c.is_err.ensures.value ∙ c.if-is_err.false) c.crash.ensures.settles) c.take.ensures.after c.take-then-call-eq0.ensures.after

pub returns-clause-leads : goal.returns-clause-leads
returns-clause-leads c = λ f first w is waits.
    let side = c.args.self.now in
    stops_later f first w side.running side.disk side.stop side.key side.other c.args.waiting.now is waits c.args.call c.args.pick c.plan_stop.new.disk c.if-call-eq0.false c.plan_stop.ensures.disk c.plan_stop.ensures.holds
