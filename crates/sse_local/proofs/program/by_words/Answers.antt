use Rattle.std.proofs.Common.{Some, map, sym, ap, ◌∙◌}
use Rattle.std.specs.Prelude.{option_map, string_bytes}
use Rattle.keyed_fn.specs.KeyedFn.{IsKeyedFn, keyed_fn}
use Rattle.program_words.specs.Modes as modes
use Rattle.program_words.specs.Modes.{local_mode_view}
use Rattle.client_journal.specs.Shows.{prints}
use Rattle.sse_local.specs.Asked.{right_words}
use Rattle.sse_local.proofs.Asked.{made-few}
use Rattle.sse_local.proofs.Does.{memory-does}
use Rattle.sse_local.proofs.program.by_words.Goals as goal

pub made_run-requires : goal.made_run-requires
made_run-requires g c =
    let made = c.in-Ok-Some-Made in
    record { few = made-few (map (λ word. string_bytes word) c.args.words.now) made.seed made.documents (sym made.ensures.mode ∙ ap (option_map local_mode_view) made.field-0-is ∙ ap (λ mode. Some (local_mode_view mode)) made.field-0-0-is) }

pub returns-in-Err-clause-does : goal.returns-in-Err-clause-does
returns-in-Err-clause-does g c =
    let laws : IsKeyedFn (keyed_fn g.K.Keyed.prf g.K.Keyed.pad) = record {
      prf_length = g.met.K.Keyed.prf_length;
      prf_bytes = g.met.K.Keyed.prf_bytes;
      pad_length = g.met.K.Keyed.pad_length;
      pad_bytes = g.met.K.Keyed.pad_bytes;
      pad_prefix = g.met.K.Keyed.pad_prefix;
    } in
    let sink = c.args.sink.now in
    let sink' = c.finish-in-Err.new.sink in
    memory-does (keyed_fn g.K.Keyed.prf g.K.Keyed.pad) laws c.args.source.now
    (prints (g.W.Sink.written sink) (g.W.Sink.faults sink) (g.W.Sink.shortages sink)) (prints (g.W.Sink.written sink') (g.W.Sink.faults sink') (g.W.Sink.shortages sink')) c.finish-in-Err.result c.finish-in-Err.ensures.status c.finish-in-Err.ensures.line
    (right_words (modes.local_mode_of (map (λ word. string_bytes word) c.args.words.now))) (g.S.Source.remaining c.args.source.now)
