use Rattle.std.proofs.Common.{refl, sym, ◌∙◌}
use Rattle.keyed_fn.specs.KeyedFn.{keyed_fn}
use Rattle.vault_shelf.specs.CommandView.{command_view}
use Rattle.doc_vault.specs.LineRuns.{InCommand}
use Rattle.doc_vault.specs.Counts.{with_link, with_recorder, with_sink}
use Rattle.doc_vault.proofs.CountLaws.{counts-stopped, counts-then}
use Rattle.doc_vault.proofs.TurnsTaken.{exchanged_printed, exchanged_unprinted, get_printed, get_unprinted, takes-stopped}
use Rattle.doc_vault.proofs.RecordersLeft.{leaves-same}
use Rattle.doc_vault.proofs.turn.accept.Goals as goal

pub returns-in_err-show-in-Some-clause-turn : goal.returns-in_err-show-in-Some-clause-turn
returns-in_err-show-in-Some-clause-turn g c s line keeps fine =
    takes-stopped (keyed_fn g.K.Keyed.prf g.K.Keyed.pad) c.args.tools.now.keys s (command_view c.args.command.now) line c.from_residual.result c.in_err-show-in-Some.field-0.0 _ _ _ c.from_residual.ensures.1
    (get_unprinted (keyed_fn g.K.Keyed.prf g.K.Keyed.pad) c.args.tools.now.keys s (command_view c.args.command.now) line c.in-Some.id c.in-Some.ensures.some.0 (sym (keeps.there c.in-Some.id) ∙ c.in-Some.ensures.some.1) fine
    _ _ _ _ _ c.in_err-show-in-Some.ensures.prints)

pub returns-in_err-carry_out-in-None-clause-turn : goal.returns-in_err-carry_out-in-None-clause-turn
returns-in_err-carry_out-in-None-clause-turn g c s line keeps fine =
    takes-stopped (keyed_fn g.K.Keyed.prf g.K.Keyed.pad) c.args.tools.now.keys s (command_view c.args.command.now) line c.from_residual-in_err-carry_out-in-None.result c.in_err-carry_out-in-None.field-0.0 _ _ _
    c.from_residual-in_err-carry_out-in-None.ensures.1 (InCommand fine (c.in-None.ensures.none refl s keeps) (c.in_err-carry_out-in-None.ensures.carried s keeps) refl)

pub returns-in_err-show_command-in-None-clause-turn : goal.returns-in_err-show_command-in-None-clause-turn
returns-in_err-show_command-in-None-clause-turn g c s line keeps fine =
    let carried = c.in_ok-carry_out-in-None.ensures.carried s keeps in
    takes-stopped (keyed_fn g.K.Keyed.prf g.K.Keyed.pad) c.args.tools.now.keys s (command_view c.args.command.now) line c.from_residual-in_err-show_command-in-None.result c.in_err-show_command-in-None.field-0.0 _ _ _
    c.from_residual-in_err-show_command-in-None.ensures.1
    (exchanged_unprinted (keyed_fn g.K.Keyed.prf g.K.Keyed.pad) c.args.tools.now.keys s (command_view c.args.command.now) line _ _ _ _ _ _ _ _ fine (c.in-None.ensures.none refl s keeps) carried.0 carried.1 c.in_err-show_command-in-None.ensures.prints)

pub returns-in_ok-show-in-Some-clause-turn : goal.returns-in_ok-show-in-Some-clause-turn
returns-in_ok-show-in-Some-clause-turn g c s line keeps fine =
    get_printed (keyed_fn g.K.Keyed.prf g.K.Keyed.pad) c.args.tools.now.keys s (command_view c.args.command.now) line c.in-Some.id c.in-Some.ensures.some.0 (sym (keeps.there c.in-Some.id) ∙ c.in-Some.ensures.some.1) fine
    _ _ _ _ _ keeps c.in_ok-show-in-Some.ensures.prints

pub returns-in_ok-show_command-in-None-clause-turn : goal.returns-in_ok-show_command-in-None-clause-turn
returns-in_ok-show_command-in-None-clause-turn g c s line keeps fine =
    let carried = c.in_ok-carry_out-in-None.ensures.carried s keeps in
    exchanged_printed (keyed_fn g.K.Keyed.prf g.K.Keyed.pad) c.args.tools.now.keys s (command_view c.args.command.now) line _ _ _ _ _ _ _ _ fine (c.in-None.ensures.none refl s keeps) carried.0 carried.1 c.in_ok-show_command-in-None.ensures.prints
    (c.in_ok-carry_out-in-None.ensures.keeps s keeps)

pub returns-in_err-show-in-Some-clause-counts : goal.returns-in_err-show-in-Some-clause-counts
returns-in_err-show-in-Some-clause-counts g c others =
    counts-stopped _ _ c.from_residual.result c.in_err-show-in-Some.field-0.0 c.from_residual.ensures.1
    (c.in_err-show-in-Some.ensures.counts (with_link (g.L.VaultLink.faults c.args.link.now) (with_recorder (g.R.Recorder.faults c.args.recorder.now) others)))

pub returns-in_ok-show-in-Some-clause-counts : goal.returns-in_ok-show-in-Some-clause-counts
returns-in_ok-show-in-Some-clause-counts g c others = c.in_ok-show-in-Some.ensures.counts (with_link (g.L.VaultLink.faults c.args.link.now) (with_recorder (g.R.Recorder.faults c.args.recorder.now) others))

pub returns-in_err-carry_out-in-None-clause-counts : goal.returns-in_err-carry_out-in-None-clause-counts
returns-in_err-carry_out-in-None-clause-counts g c others =
    counts-stopped _ _ c.from_residual-in_err-carry_out-in-None.result c.in_err-carry_out-in-None.field-0.0 c.from_residual-in_err-carry_out-in-None.ensures.1
    (c.in_err-carry_out-in-None.ensures.counts (with_sink (g.W.Sink.faults c.args.sink.now) (g.W.Sink.shortages c.args.sink.now) others))

pub returns-in_err-show_command-in-None-clause-counts : goal.returns-in_err-show_command-in-None-clause-counts
returns-in_err-show_command-in-None-clause-counts g c others =
    counts-then _ _ _ c.from_residual-in_err-show_command-in-None.result
    (c.in_ok-carry_out-in-None.ensures.counts (with_sink (g.W.Sink.faults c.args.sink.now) (g.W.Sink.shortages c.args.sink.now) others))
    (counts-stopped _ _ c.from_residual-in_err-show_command-in-None.result c.in_err-show_command-in-None.field-0.0 c.from_residual-in_err-show_command-in-None.ensures.1
    (c.in_err-show_command-in-None.ensures.counts (with_link (g.L.VaultLink.faults c.carry_out.new.link) (with_recorder (g.R.Recorder.faults c.carry_out.new.recorder) others))))

pub returns-in_ok-show_command-in-None-clause-counts : goal.returns-in_ok-show_command-in-None-clause-counts
returns-in_ok-show_command-in-None-clause-counts g c others =
    c.in_ok-show_command-in-None.ensures.counts (with_link (g.L.VaultLink.faults c.carry_out.new.link) (with_recorder (g.R.Recorder.faults c.carry_out.new.recorder) others))
    ∙ c.in_ok-carry_out-in-None.ensures.counts (with_sink (g.W.Sink.faults c.args.sink.now) (g.W.Sink.shortages c.args.sink.now) others)

pub returns-in_err-show-in-Some-clause-recorder : goal.returns-in_err-show-in-Some-clause-recorder
returns-in_err-show-in-Some-clause-recorder g c = leaves-same g.R.Recorder.kept g.R.Recorder.moment g.R.Recorder.left_since g.R.Recorder.whole c.args.recorder.now c.requires.whole (g.met.R.Recorder.at_rest c.args.recorder.now c.requires.whole)

pub returns-in_ok-show-in-Some-clause-recorder : goal.returns-in_ok-show-in-Some-clause-recorder
returns-in_ok-show-in-Some-clause-recorder g c = leaves-same g.R.Recorder.kept g.R.Recorder.moment g.R.Recorder.left_since g.R.Recorder.whole c.args.recorder.now c.requires.whole (g.met.R.Recorder.at_rest c.args.recorder.now c.requires.whole)
