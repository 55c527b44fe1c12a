use Rattle.std.proofs.Common.{ℕ, List, refl, sym, ap, ◌∙◌, Some}
use Rattle.keyed_fn.specs.KeyedFn.{keyed_fn}
use Rattle.vault_shelf.specs.Shelves.{Put}
use Rattle.vault_script.specs.VaultLineViews.{vault_line_view}
use Rattle.vault_script.specs.declared.vault_line.VaultLine.{VaultLine}
use Rattle.doc_vault.proofs.LinesTaken.{turns-command, turns-empty}
use Rattle.doc_vault.proofs.RecordersLeft.{leaves-same}
use Rattle.doc_vault.proofs.line.take_line.Goals as goal

pub returns-in-Empty-clause-turn : goal.returns-in-Empty-clause-turn
returns-in-Empty-clause-turn g c s bytes keeps reads =
    turns-empty (keyed_fn g.K.Keyed.prf g.K.Keyed.pad) c.args.tools.now.keys s bytes (reads ∙ ap (λ (line : VaultLine). Some (vault_line_view line)) c.in-Empty.is) _ _ keeps

pub returns-in-Put-clause-turn : goal.returns-in-Put-clause-turn
returns-in-Put-clause-turn g c s bytes keeps reads =
    turns-command (keyed_fn g.K.Keyed.prf g.K.Keyed.pad) c.args.tools.now.keys s c.args.number bytes _ _ (reads ∙ ap (λ (line : VaultLine). Some (vault_line_view line)) c.in-Put.is) (ap (λ (text : List ℕ). Some (Put c.in-Put.id text)) (sym c.as_slice.ensures.value))
    _ _ _ c.take_command.result (c.take_command.ensures.turn s bytes keeps)

pub returns-in-Drop-clause-turn : goal.returns-in-Drop-clause-turn
returns-in-Drop-clause-turn g c s bytes keeps reads =
    turns-command (keyed_fn g.K.Keyed.prf g.K.Keyed.pad) c.args.tools.now.keys s c.args.number bytes _ _ (reads ∙ ap (λ (line : VaultLine). Some (vault_line_view line)) c.in-Drop.is) refl
    _ _ _ c.take_command-in-Drop.result (c.take_command-in-Drop.ensures.turn s bytes keeps)

pub returns-in-Get-clause-turn : goal.returns-in-Get-clause-turn
returns-in-Get-clause-turn g c s bytes keeps reads =
    turns-command (keyed_fn g.K.Keyed.prf g.K.Keyed.pad) c.args.tools.now.keys s c.args.number bytes _ _ (reads ∙ ap (λ (line : VaultLine). Some (vault_line_view line)) c.in-Get.is) refl
    _ _ _ c.take_command-in-Get.result (c.take_command-in-Get.ensures.turn s bytes keeps)

pub returns-in-Empty-clause-recorder : goal.returns-in-Empty-clause-recorder
returns-in-Empty-clause-recorder g c = leaves-same g.R.Recorder.kept g.R.Recorder.moment g.R.Recorder.left_since g.R.Recorder.whole c.args.recorder.now c.requires.whole (g.met.R.Recorder.at_rest c.args.recorder.now c.requires.whole)

pub returns-in-Key-clause-recorder : goal.returns-in-Key-clause-recorder
returns-in-Key-clause-recorder g c = leaves-same g.R.Recorder.kept g.R.Recorder.moment g.R.Recorder.left_since g.R.Recorder.whole c.args.recorder.now c.requires.whole (g.met.R.Recorder.at_rest c.args.recorder.now c.requires.whole)
