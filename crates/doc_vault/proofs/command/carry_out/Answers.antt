use Rattle.std.proofs.Common.{List, ℕ, ◌++◌, flat_map, refl, sym, ap, ◌∙◌, subst}
use Rattle.keyed_fn.specs.KeyedFn.{keyed_fn}
use Rattle.vault_shelf.specs.VaultSessions.{sent_by}
use Rattle.vault_link.specs.ReplySizes.{IsVaultFrame}
use Rattle.vault_server.specs.VaultFrames.{vault_bytes}
use Rattle.vault_shelf.specs.CommandView.{command_view}
use Rattle.doc_vault.specs.CommandRuns.{Cut, Unkept}
use Rattle.doc_vault.specs.Counts.{with_link, with_recorder}
use Rattle.doc_vault.proofs.CountLaws.{counts-stopped, counts-then}
use Rattle.doc_vault.proofs.Exchanged.{carries-stopped, vault_frame}
use Rattle.doc_vault.proofs.RecordersLeft.{leaves-same}
use Rattle.doc_vault.proofs.command.carry_out.Goals as goal

pub returns-in_err-keep_record-clause-carried : goal.returns-in_err-keep_record-clause-carried
returns-in_err-keep_record-clause-carried g c s keeps =
    carries-stopped (keyed_fn g.K.Keyed.prf g.K.Keyed.pad) c.args.tools.now.keys s (command_view c.args.command.now) c.from_residual-in_err-keep_record.result c.in_err-keep_record.field-0.0 _ _ _ _ _
    c.from_residual-in_err-keep_record.ensures.1 (Unkept c.in_err-keep_record.ensures.kept refl)

pub exchange-requires-clause-frame : goal.exchange-requires-clause-frame
exchange-requires-clause-frame g c =
    let f = keyed_fn g.K.Keyed.prf g.K.Keyed.pad in
    let s = c.requires.known.0 in
    let command = command_view c.args.command.now in
    let keeps = c.prepare.ensures.keeps s c.requires.known.1 in
    subst IsVaultFrame
    (sym (c.as_slice.ensures.value ∙ c.in_ok-write_vault_command.ensures.bytes s keeps ∙ ap (λ (front : List ℕ). front ++ flat_map vault_bytes (sent_by f c.args.tools.now.keys s command)) c.clear.ensures.items))
    (vault_frame f c.args.tools.now.keys s command c.requires.known.2 (c.in_ok-write_vault_command.ensures.grammar s keeps))

pub returns-in_err-exchange-clause-carried : goal.returns-in_err-exchange-clause-carried
returns-in_err-exchange-clause-carried g c s keeps =
    let f = keyed_fn g.K.Keyed.prf g.K.Keyed.pad in
    let command = command_view c.args.command.now in
    let kept = c.prepare.ensures.keeps s keeps in
    let is = c.as_slice.ensures.value ∙ c.in_ok-write_vault_command.ensures.bytes s kept ∙ ap (λ (front : List ℕ). front ++ flat_map vault_bytes (sent_by f c.args.tools.now.keys s command)) c.clear.ensures.items in
    carries-stopped f c.args.tools.now.keys s command c.from_residual-in_err-exchange.result c.in_err-exchange.field-0.0 _ _ _ _ _
    c.from_residual-in_err-exchange.ensures.1 (Cut (c.in_err-exchange.ensures.exchanges s kept is (c.in_ok-write_vault_command.ensures.grammar s kept)) c.in_ok-keep_record.ensures.kept)

pub returns-in_err-keep_record-clause-counts : goal.returns-in_err-keep_record-clause-counts
returns-in_err-keep_record-clause-counts g c others =
    counts-stopped _ _ c.from_residual-in_err-keep_record.result c.in_err-keep_record.field-0.0 c.from_residual-in_err-keep_record.ensures.1 (c.in_err-keep_record.ensures.counts (with_link (g.L.VaultLink.faults c.args.link.now) others))

pub returns-in_err-exchange-clause-counts : goal.returns-in_err-exchange-clause-counts
returns-in_err-exchange-clause-counts g c others =
    counts-then _ _ _ c.from_residual-in_err-exchange.result (c.in_ok-keep_record.ensures.counts (with_link (g.L.VaultLink.faults c.args.link.now) others))
    (counts-stopped _ _ c.from_residual-in_err-exchange.result c.in_err-exchange.field-0.0 c.from_residual-in_err-exchange.ensures.1
    (c.in_err-exchange.ensures.counts (with_recorder (g.R.Recorder.faults c.keep_record.new.recorder) others)))

pub returns-clause-counts : goal.returns-clause-counts
returns-clause-counts g c others =
    c.in_ok-exchange.ensures.counts (with_recorder (g.R.Recorder.faults c.keep_record.new.recorder) others) ∙ c.in_ok-keep_record.ensures.counts (with_link (g.L.VaultLink.faults c.args.link.now) others)

pub returns-in_err-prepare-clause-recorder : goal.returns-in_err-prepare-clause-recorder
returns-in_err-prepare-clause-recorder g c = leaves-same g.R.Recorder.kept g.R.Recorder.moment g.R.Recorder.left_since g.R.Recorder.whole c.args.recorder.now c.requires.whole (g.met.R.Recorder.at_rest c.args.recorder.now c.requires.whole)

pub returns-in_err-write_vault_command-clause-recorder : goal.returns-in_err-write_vault_command-clause-recorder
returns-in_err-write_vault_command-clause-recorder g c = leaves-same g.R.Recorder.kept g.R.Recorder.moment g.R.Recorder.left_since g.R.Recorder.whole c.args.recorder.now c.requires.whole (g.met.R.Recorder.at_rest c.args.recorder.now c.requires.whole)
