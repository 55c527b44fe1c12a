use Rattle.std.proofs.Common.{sym}
use Rattle.keyed_fn.specs.KeyedFn.{keyed_fn}
use Rattle.vault_shelf.specs.CommandView.{command_view}
use Rattle.doc_vault.specs.Counts.{with_link, with_recorder}
use Rattle.doc_vault.proofs.CountLaws.{counts-stopped}
use Rattle.doc_vault.proofs.TurnsTaken.{refused_printed, refused_unprinted, takes-stopped}
use Rattle.doc_vault.proofs.RecordersLeft.{leaves-same}
use Rattle.doc_vault.proofs.turn.take_command.Goals as goal

pub returns-in_err-show_refusal-in-Some-clause-turn : goal.returns-in_err-show_refusal-in-Some-clause-turn
returns-in_err-show_refusal-in-Some-clause-turn g c s line keeps =
    takes-stopped (keyed_fn g.K.Keyed.prf g.K.Keyed.pad) c.args.tools.now.keys s (command_view c.args.command.now) line c.from_residual.result c.in_err-show_refusal-in-Some.field-0.0 _ _ _ c.from_residual.ensures.1
    (refused_unprinted (keyed_fn g.K.Keyed.prf g.K.Keyed.pad) c.args.tools.now.keys s (command_view c.args.command.now) line c.in-Some.fault (sym (c.in-Some.ensures.fault s keeps)) _ _ _ _ _ c.in_err-show_refusal-in-Some.ensures.prints)

pub returns-in_ok-show_refusal-in-Some-clause-turn : goal.returns-in_ok-show_refusal-in-Some-clause-turn
returns-in_ok-show_refusal-in-Some-clause-turn g c s line keeps =
    refused_printed (keyed_fn g.K.Keyed.prf g.K.Keyed.pad) c.args.tools.now.keys s (command_view c.args.command.now) line c.in-Some.fault (sym (c.in-Some.ensures.fault s keeps)) _ _ _ _ _ keeps c.in_ok-show_refusal-in-Some.ensures.prints

pub returns-in-None-clause-turn : goal.returns-in-None-clause-turn
returns-in-None-clause-turn g c s line keeps = c.accept.ensures.turn s line keeps (sym (c.in-None.ensures.fault s keeps))

pub returns-in_err-show_refusal-in-Some-clause-counts : goal.returns-in_err-show_refusal-in-Some-clause-counts
returns-in_err-show_refusal-in-Some-clause-counts g c others =
    counts-stopped _ _ c.from_residual.result c.in_err-show_refusal-in-Some.field-0.0 c.from_residual.ensures.1
    (c.in_err-show_refusal-in-Some.ensures.counts (with_link (g.L.VaultLink.faults c.args.link.now) (with_recorder (g.R.Recorder.faults c.args.recorder.now) others)))

pub returns-in_ok-show_refusal-in-Some-clause-counts : goal.returns-in_ok-show_refusal-in-Some-clause-counts
returns-in_ok-show_refusal-in-Some-clause-counts g c others =
    c.in_ok-show_refusal-in-Some.ensures.counts (with_link (g.L.VaultLink.faults c.args.link.now) (with_recorder (g.R.Recorder.faults c.args.recorder.now) others))

pub returns-in_err-show_refusal-in-Some-clause-recorder : goal.returns-in_err-show_refusal-in-Some-clause-recorder
returns-in_err-show_refusal-in-Some-clause-recorder g c = leaves-same g.R.Recorder.kept g.R.Recorder.moment g.R.Recorder.left_since g.R.Recorder.whole c.args.recorder.now c.requires.whole (g.met.R.Recorder.at_rest c.args.recorder.now c.requires.whole)

pub returns-in_ok-show_refusal-in-Some-clause-recorder : goal.returns-in_ok-show_refusal-in-Some-clause-recorder
returns-in_ok-show_refusal-in-Some-clause-recorder g c = leaves-same g.R.Recorder.kept g.R.Recorder.moment g.R.Recorder.left_since g.R.Recorder.whole c.args.recorder.now c.requires.whole (g.met.R.Recorder.at_rest c.args.recorder.now c.requires.whole)
