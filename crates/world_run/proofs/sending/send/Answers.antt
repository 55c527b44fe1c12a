use Rattle.std.proofs.Common.{Some, length, sym, ap, ◌∙◌, subst}
use Rattle.keyed_fn.specs.KeyedFn.{keyed_fn}
use Rattle.sse_world.specs.declared.event.Outcome.TheVariants as outcome
use Rattle.world_run.proofs.Sends.{none_stays, sender_of}
use Rattle.world_run.specs.Sending.{LeadsSending}
use Rattle.world_run.specs.Sides.{IsClient, client_part}
use Rattle.world_run.proofs.sending.send.Goals as goal

pub returns-in_default-clause-leads : goal.returns-in_default-clause-leads
returns-in_default-clause-leads g c = λ first w disk stop other reached is link words told.
    let f = keyed_fn g.K.Keyed.prf g.K.Keyed.pad in
    let key = c.args.key.now in
    let l = c.args.link.now in
    let dones = c.args.done.now.items in
    let here = subst (λ r. IsClient f first (client_part w) r disk stop key other) (sym c.take.ensures.value ∙ c.in_default.is) is in
    subst (λ r. LeadsSending f first w outcome.Nothing r disk stop key other l.sent.frames l.waiting dones) (sym c.take.ensures.after) (none_stays f first w disk stop key other l.sent.frames l.waiting dones here link told)

pub sent_on-after-requires-clause-world : goal.sent_on-after-requires-clause-world
sent_on-after-requires-clause-world g c =
    let f = keyed_fn g.K.Keyed.prf g.K.Keyed.pad in
    let q = c.requires.world in
    let l = c.args.link.now in (
      q.0,
      q.1,
      q.2,
      q.3,
      q.4,
      sender_of f q.0 q.1 c.args.running.now (Some c.in-Some.it) q.2 q.3 c.args.key.now q.4 l.sent.frames l.waiting c.args.done.now.items c.args.asked.now (length c.as_slice.result.now) c.in-Some.ensures.value (ap length c.as_slice.ensures) q.5 q.6 q.7
          q.8 q.9,
    )
