use Rattle.std.proofs.Common.{refl}
use Rattle.keyed_fn.specs.KeyedFn.{keyed_fn}
use Rattle.script_run_texts.specs.declared.stop_cause.StopCause.TheVariants as stops
use Rattle.sse_leaks.proofs.LeaksPrinted.{none_read, told-stopped, told_so}
use Rattle.sse_leaks.proofs.leak_report.tell_script.Goals as goal

pub returns-in_err-input-clause-tells : goal.returns-in_err-input-clause-tells
returns-in_err-input-clause-tells g c =
    told-stopped (keyed_fn g.K.Keyed.prf g.K.Keyed.pad) (g.S.Source.remaining c.args.source.now) _ _ c.from_residual.result stops.Memory c.from_residual.ensures.1 (none_read (keyed_fn g.K.Keyed.prf g.K.Keyed.pad) (g.S.Source.remaining c.args.source.now) (g.W.Sink.written c.args.sink.now))

pub returns-in-Ok-clause-tells : goal.returns-in-Ok-clause-tells
returns-in-Ok-clause-tells g c =
    told_so (keyed_fn g.K.Keyed.prf g.K.Keyed.pad) (g.S.Source.remaining c.args.source.now) c.in_ok-input.input.number c.in_ok-input.input.pending _ _ _ _ _ c.in_ok-input.ensures.number c.in_ok-input.ensures.pending c.in-Ok.ensures.reads c.tell_read.ensures.goes_on

pub returns-clause-tells : goal.returns-clause-tells
returns-clause-tells g c =
    told_so (keyed_fn g.K.Keyed.prf g.K.Keyed.pad) (g.S.Source.remaining c.args.source.now) c.in_ok-input.input.number c.in_ok-input.input.pending _ _ _ _ _ c.in_ok-input.ensures.number c.in_ok-input.ensures.pending c.in-Err.ensures.reads (refl, refl)
