use Rattle.std.proofs.Common.{refl, inl, inr}
use Rattle.keyed_fn.specs.KeyedFn.{keyed_fn}
use Rattle.script_history.proofs.ReadingGoesOn.{comes-told}
use Rattle.script_history.proofs.lines.take_command.Goals as goal

pub returns-in-Ok-clause-comes : goal.returns-in-Ok-clause-comes
returns-in-Ok-clause-comes g c = λ request e place at.
    comes-told (keyed_fn g.K.Keyed.prf g.K.Keyed.pad) place request c.in-Ok.standing c.in-Ok.found c.args.progress.refused (g.W.Sink.written c.args.sink.now) (g.W.Sink.written c.tell.new.sink) c.tell.result (c.in-Ok.ensures.takes request e place at)
    c.tell.ensures.standing c.tell.ensures.refused c.tell.ensures.printed c.tell.ensures.stops

pub returns-in-Err-clause-comes : goal.returns-in-Err-clause-comes
returns-in-Err-clause-comes g c = λ request e place at. inl (record { printed = refl; stops = inr refl })
