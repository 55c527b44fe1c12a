use Rattle.keyed_fn.specs.KeyedFn.{keyed_fn}
use Rattle.sse_script.specs.Views.{line_view}
use Rattle.script_history.proofs.UsedKeysLaws.{carried-out, leaves_key, not_rebuild}
use Rattle.script_history.proofs.taken_line.take_line.Goals as goal

pub take_plain-requires : goal.take_plain-requires
take_plain-requires g c = record { words = c.requires.words; keeps = not_rebuild c.args.line c.in_default.not-Rebuild }

pub returns-in_ok-stage-in_default-clause-takes : goal.returns-in_ok-stage-in_default-clause-takes
returns-in_ok-stage-in_default-clause-takes g c = λ request e.
    carried-out (keyed_fn g.K.Keyed.prf g.K.Keyed.pad) c.args.standing request c.in_ok-stage-in_default.stage c.in_ok-stage-in_default.found (leaves_key (line_view c.args.line) (not_rebuild c.args.line c.in_default.not-Rebuild) request e) (c.in_ok-stage-in_default.ensures.takes request e)
