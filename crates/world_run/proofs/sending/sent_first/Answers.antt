use Rattle.std.proofs.Common.{◌++◌, ℕ, List, refl, sym, ap, ◌∙◌}
use Rattle.keyed_fn.specs.KeyedFn.{keyed_fn, IsKeyedFn}
use Rattle.sse_world.specs.declared.event.Outcome.TheVariants as outcome
use Rattle.world_client.specs.Answering.{frame_in}
use Rattle.world_model.specs.Events.{as_list}
use Rattle.world_run.proofs.Sends.{can_first, first_sent, idle_leads, stays_so}
use Rattle.world_run.proofs.sending.sent_first.Goals as goal

pub returns-then-is_idle : goal.returns-then-is_idle
returns-then-is_idle g c = record {
  leads = λ first w disk stop other dones searches s.
      let f = keyed_fn g.K.Keyed.prf g.K.Keyed.pad in
      let laws : IsKeyedFn f = record {
        prf_length = g.met.K.Keyed.prf_length;
        prf_bytes = g.met.K.Keyed.prf_bytes;
        pad_length = g.met.K.Keyed.pad_length;
        pad_bytes = g.met.K.Keyed.pad_bytes;
        pad_prefix = g.met.K.Keyed.pad_prefix;
      } in
      let link = c.args.link.now in
      stays_so f first laws w c.args.it disk stop c.args.key.now other link.sent.frames link.waiting dones searches s outcome.Nothing link.sent.frames link.waiting dones
      (idle_leads f first laws w c.args.it disk stop c.args.key.now other link.sent.frames link.waiting dones searches s c.requires.quiet (sym c.is_idle.ensures ∙ c.if-is_idle.true)) refl refl refl;
}

pub sent_next-requires-clause-client : goal.sent_next-requires-clause-client
sent_next-requires-clause-client g c =
    let f = keyed_fn g.K.Keyed.prf g.K.Keyed.pad in
    let laws : IsKeyedFn f = record {
      prf_length = g.met.K.Keyed.prf_length;
      prf_bytes = g.met.K.Keyed.prf_bytes;
      pad_length = g.met.K.Keyed.pad_length;
      pad_bytes = g.met.K.Keyed.pad_bytes;
      pad_prefix = g.met.K.Keyed.pad_prefix;
    } in
    let q = c.requires.world in
    let first = can_first f q.0 laws q.1 c.args.it q.2 q.3 c.args.key.now q.4 c.args.link.now.sent.frames c.args.link.now.waiting q.5 q.6 q.7 in
    (q.0, first.0, first.1, first.2)

pub returns : goal.returns
returns g c = record {
  leads = λ first w disk stop other dones searches s.
      let f = keyed_fn g.K.Keyed.prf g.K.Keyed.pad in
      let laws : IsKeyedFn f = record {
        prf_length = g.met.K.Keyed.prf_length;
        prf_bytes = g.met.K.Keyed.prf_bytes;
        pad_length = g.met.K.Keyed.pad_length;
        pad_bytes = g.met.K.Keyed.pad_bytes;
        pad_prefix = g.met.K.Keyed.pad_prefix;
      } in
      let link = c.args.link.now in
      let same = c.sent_next.ensures.same in
      first_sent f first laws w c.args.it disk stop c.args.key.now other link.sent.frames link.waiting dones searches s c.sent_next.result c.sent_next.new.link.sent.frames c.sent_next.new.link.waiting c.requires.quiet
      (sym c.is_idle.ensures ∙ c.if-is_idle.false) same.0 same.1
      (λ h phase can. let sends = c.sent_next.ensures.sent first h phase can in (sends.0 ∙ ap (λ (x : List (List ℕ)). x ++ as_list (frame_in f first h phase)) c.frame_room.ensures.same.0, sends.1)) same.2;
}
