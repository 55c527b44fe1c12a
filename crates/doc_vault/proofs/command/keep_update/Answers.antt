use Rattle.std.proofs.Common.{List, ℕ, [], ◌∷◌, ◌++◌, refl, sym, ap, ◌∙◌}
use Rattle.sse_outside.specs.Kept.{with_refused}
use Rattle.vault_shelf.specs.ClientRecords.{command_record}
use Rattle.vault_shelf.specs.CommandView.{command_view}
use Rattle.doc_vault.specs.CommandRuns.{NotTaken}
use Rattle.doc_vault.proofs.Exchanged.{update_records}
use Rattle.doc_vault.proofs.RecordersLeft.{leaves-refused, leaves-same, leaves-taken}
use Rattle.doc_vault.proofs.command.keep_update.Goals as goal

pub returns-in-Err-clause-kept : goal.returns-in-Err-clause-kept
returns-in-Err-clause-kept g c =
    let command = command_view c.args.command.now in
    let before = g.R.Recorder.kept c.args.recorder.now in
    NotTaken c.in-Err.fault refl
    (c.in-Err.ensures.refused
    ∙ ap (λ (payload : List ℕ). with_refused (payload ∷ []) before) (c.in_ok-write_vault_record.ensures.bytes ∙ ap (λ (front : List ℕ). front ++ command_record command) c.new-payload.ensures.items)
    ∙ ap (λ (records : List (List ℕ)). with_refused records before) (sym (update_records command c.requires.update)))

pub returns-in_err-write_vault_record-clause-recorder : goal.returns-in_err-write_vault_record-clause-recorder
returns-in_err-write_vault_record-clause-recorder g c = leaves-same g.R.Recorder.kept g.R.Recorder.moment g.R.Recorder.left_since g.R.Recorder.whole c.args.recorder.now c.requires.whole (g.met.R.Recorder.at_rest c.args.recorder.now c.requires.whole)

pub returns-in-Ok-clause-recorder : goal.returns-in-Ok-clause-recorder
returns-in-Ok-clause-recorder g c = leaves-taken g.R.Recorder.kept g.R.Recorder.moment g.R.Recorder.left_since g.R.Recorder.whole c.args.recorder.now c.keep.new.self c.in-Ok.ensures.keeps_on c.in-Ok.ensures.whole_after

pub returns-in-Err-clause-recorder : goal.returns-in-Err-clause-recorder
returns-in-Err-clause-recorder g c = leaves-refused g.R.Recorder.kept g.R.Recorder.moment g.R.Recorder.left_since g.R.Recorder.whole c.args.recorder.now c.keep.new.self _ c.in-Err.ensures.keeps_on c.in-Err.ensures.refused
