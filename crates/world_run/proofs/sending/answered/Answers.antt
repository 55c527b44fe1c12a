use Rattle.std.proofs.Common.{◌≡◌, Some, None, refl, sym, ◌∙◌}
use Rattle.keyed_fn.specs.KeyedFn.{keyed_fn, IsKeyedFn}
use Rattle.sse_world.specs.declared.event.Outcome.TheVariants as outcome
use Rattle.world_run.proofs.Sends.{sender_same, stays_so, unanswered_leads}
use Rattle.world_run.proofs.sending.answered.Goals as goal

pub returns-in_default-clause-leads : goal.returns-in_default-clause-leads
returns-in_default-clause-leads g c = λ first w disk stop other s.
    let f = keyed_fn g.K.Keyed.prf g.K.Keyed.pad in
    let laws : IsKeyedFn f = record {
      prf_length = g.met.K.Keyed.prf_length;
      prf_bytes = g.met.K.Keyed.prf_bytes;
      pad_length = g.met.K.Keyed.pad_length;
      pad_bytes = g.met.K.Keyed.pad_bytes;
      pad_prefix = g.met.K.Keyed.pad_prefix;
    } in
    let link = c.args.link.now in
    let dones = c.args.done.now.items in
    let none : link.waiting ≡ None = sym c.take.ensures.value ∙ c.in_default.is in
    stays_so f first laws w c.args.it disk stop c.args.key.now other link.sent.frames link.waiting dones c.args.searches s outcome.Nothing link.sent.frames c.take.new.self dones
    (unanswered_leads f first laws w c.args.it disk stop c.args.key.now other link.sent.frames link.waiting dones c.args.searches s c.requires.waits none) refl (c.take.ensures.after ∙ sym none) refl

pub goes_on-requires-clause-world : goal.goes_on-requires-clause-world
goes_on-requires-clause-world g c =
    let f = keyed_fn g.K.Keyed.prf g.K.Keyed.pad in
    let q = c.requires.world in
    let link = c.args.link.now in (
      q.0,
      q.1,
      q.2,
      q.3,
      q.4,
      sender_same f q.0 q.1 (Some c.args.it) q.2 q.3 c.args.key.now q.4 link.sent.frames c.memory.new.link.sent.frames link.waiting (Some c.in-Some.replies) c.args.done.now.items c.memory.new.done.items c.args.searches c.memory.ensures.same.0
          c.in-Some.ensures.value c.memory.ensures.same.2 q.5,
    )
