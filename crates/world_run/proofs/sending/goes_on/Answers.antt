use Rattle.std.proofs.Common.{◌++◌, Some, refl, ap, ◌∙◌}
use Rattle.keyed_fn.specs.KeyedFn.{keyed_fn, IsKeyedFn}
use Rattle.world_run.proofs.Sends.{can_go_on, lacking_gone, unwanted_gone, went_on}
use Rattle.world_run.specs.Sending.{done_of}
use Rattle.world_run.proofs.sending.goes_on.Goals as goal

pub sent_next-requires-clause-client : goal.sent_next-requires-clause-client
sent_next-requires-clause-client g c =
    let f = keyed_fn g.K.Keyed.prf g.K.Keyed.pad in
    let laws : IsKeyedFn f = record {
      prf_length = g.met.K.Keyed.prf_length;
      prf_bytes = g.met.K.Keyed.prf_bytes;
      pad_length = g.met.K.Keyed.pad_length;
      pad_bytes = g.met.K.Keyed.pad_bytes;
      pad_prefix = g.met.K.Keyed.pad_prefix;
    } in
    let q = c.requires.world in
    let on =
    can_go_on f q.0 laws q.1 c.args.it q.2 q.3 c.args.key.now q.4 c.args.link.now.sent.frames (Some c.args.replies) c.args.done.now.items c.args.searches q.5 c.args.replies refl c.requires.waits (c.in-Ok.state, c.in-Ok.report) (c.in-Ok.ensures.hears q.0)
    in
    (q.0, on.0, on.1, on.2)

pub returns-in-Ok-clause-leads : goal.returns-in-Ok-clause-leads
returns-in-Ok-clause-leads g c = λ first w disk stop other s.
    let f = keyed_fn g.K.Keyed.prf g.K.Keyed.pad in
    let laws : IsKeyedFn f = record {
      prf_length = g.met.K.Keyed.prf_length;
      prf_bytes = g.met.K.Keyed.prf_bytes;
      pad_length = g.met.K.Keyed.pad_length;
      pad_bytes = g.met.K.Keyed.pad_bytes;
      pad_prefix = g.met.K.Keyed.pad_prefix;
    } in
    let same = c.sent_next.ensures.same in
    went_on f first laws w c.args.it disk stop c.args.key.now other c.args.link.now.sent.frames (Some c.args.replies) c.args.done.now.items c.args.searches s c.args.replies refl c.requires.waits (c.in-Ok.state, c.in-Ok.report) c.sent_next.result
    c.sent_next.new.link.sent.frames c.sent_next.new.link.waiting c.note.new.done.items (c.in-Ok.ensures.hears first) same.0 same.1 (c.sent_next.ensures.sent first) (same.2 ∙ c.requires.taken.0)
    (c.note.ensures ∙ ap (λ n. c.args.done.now.items ++ done_of c.in-Ok.report n c.args.searches) c.records.ensures)

pub returns-in-Err-Unwanted-clause-leads : goal.returns-in-Err-Unwanted-clause-leads
returns-in-Err-Unwanted-clause-leads g c = λ first w disk stop other s.
    let f = keyed_fn g.K.Keyed.prf g.K.Keyed.pad in
    let laws : IsKeyedFn f = record {
      prf_length = g.met.K.Keyed.prf_length;
      prf_bytes = g.met.K.Keyed.prf_bytes;
      pad_length = g.met.K.Keyed.pad_length;
      pad_bytes = g.met.K.Keyed.pad_bytes;
      pad_prefix = g.met.K.Keyed.pad_prefix;
    } in
    unwanted_gone f first laws w c.args.it disk stop c.args.key.now other c.args.link.now.sent.frames (Some c.args.replies) c.args.done.now.items c.args.searches s c.args.replies refl c.requires.waits c.in-Err-Unwanted.field-0 c.args.link.now.waiting c.in-Err-Unwanted.field-0-is
    (c.in-Err-Unwanted.ensures.hears first) c.requires.taken.0

pub returns-clause-leads : goal.returns-clause-leads
returns-clause-leads g c = λ first w disk stop other s.
    let f = keyed_fn g.K.Keyed.prf g.K.Keyed.pad in
    let laws : IsKeyedFn f = record {
      prf_length = g.met.K.Keyed.prf_length;
      prf_bytes = g.met.K.Keyed.prf_bytes;
      pad_length = g.met.K.Keyed.pad_length;
      pad_bytes = g.met.K.Keyed.pad_bytes;
      pad_prefix = g.met.K.Keyed.pad_prefix;
    } in
    lacking_gone f first laws w c.args.it disk stop c.args.key.now other c.args.link.now.sent.frames (Some c.args.replies) c.args.done.now.items c.args.searches s c.args.replies refl c.requires.waits c.in-Err-NoMemory.field-0 c.args.link.now.waiting c.in-Err-NoMemory.field-0-is
    (c.in-Err-NoMemory.ensures.hears first) c.requires.taken.0
