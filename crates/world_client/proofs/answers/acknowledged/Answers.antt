use Rattle.world_client.proofs.GoingOn.{taken_behind, taken_ready, taken_stopped}
use Rattle.client_core.specs.Resumes.{first_of_last}
use Rattle.client_registry.specs.Epochs.{begins, key_now}
use Rattle.client_registry.specs.Run.{last_run}
use Rattle.std.proofs.Common.{◌-◌, subst}
use Rattle.client_core.specs.Owes.{OwesBehind}
use Rattle.client_core.specs.TakenViews.{AfterReply}
use Rattle.world_client.proofs.answers.acknowledged.Goals as goal

pub returns-in-Behind : goal.returns-in-Behind
returns-in-Behind c = record {
  goes_on = λ f first es next is.
      let k = next - first_of_last f (key_now first es) (begins es) (last_run es) in
      taken_behind f first es next c.args.client is c.args.reply.now c.in-Behind.client
      (subst (AfterReply c.args.client c.args.reply.now) c.in-Behind.is c.take_reply.ensures.after)
      (subst (OwesBehind f (λ epoch. key_now first es) (begins es) (last_run es) k) c.in-Behind.is (c.take_reply.ensures.owes f (λ epoch. key_now first es) (begins es) (last_run es) k is.owes));
}

pub returns-in-Ready : goal.returns-in-Ready
returns-in-Ready c = record {
  goes_on = λ f first es next is.
      let k = next - first_of_last f (key_now first es) (begins es) (last_run es) in
      taken_ready f first es next c.args.client is c.args.reply.now c.in-Ready.client
      (subst (AfterReply c.args.client c.args.reply.now) c.in-Ready.is c.take_reply.ensures.after)
      (subst (OwesBehind f (λ epoch. key_now first es) (begins es) (last_run es) k) c.in-Ready.is (c.take_reply.ensures.owes f (λ epoch. key_now first es) (begins es) (last_run es) k is.owes));
}

pub returns-in-Stopped : goal.returns-in-Stopped
returns-in-Stopped c = record {
  goes_on = λ f first es next is.
      taken_stopped f first es next c.args.client is c.args.reply.now (subst (AfterReply c.args.client c.args.reply.now) c.in-Stopped.is c.take_reply.ensures.after).0;
}
