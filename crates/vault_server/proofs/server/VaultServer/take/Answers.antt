use Rattle.std.proofs.Common.{◌≡◌, ap, sym, ◌∙◌, subst}
use Rattle.std.specs.Prelude.{Ok}
use Rattle.vault_server.specs.VaultViews.{frame_view}
use Rattle.vault_server.specs.VaultState.{IsVaultTaken, VaultState, finished, undone, vault_taken}
use Rattle.vault_server.specs.VaultServerView.{VaultServerView}
use Rattle.vault_server.specs.VaultTurns.{Appends, Breaks}
use Rattle.vault_server.proofs.Prepared.{finished-prepared, undone-prepared}
use Rattle.vault_server.proofs.Pushing.{update_journaled}
use Rattle.vault_server.proofs.server.VaultServer.take.Goals as goal

-- the record was kept, and the state is the one after the update
pub returns-in-Ok-keep-clause-journal : goal.returns-in-Ok-keep-clause-journal
returns-in-Ok-keep-clause-journal g c =
    let frame = frame_view c.args.frame.now in
    let old : VaultServerView = c.args.self.now in
    let new : VaultServerView = record { state = c.finish.new.self; journal = c.keep.new.journal } in
    let state : c.finish.new.self ≡ vault_taken c.args.self.now.state frame = c.finish.ensures
    ∙ ap (λ (s : VaultState). finished s frame) c.in-Ok.ensures.ok
    ∙ finished-prepared c.self.inside.vault frame
    ∙ ap (λ (v : VaultServerView). vault_taken v.state frame) c.self.view_is in
    update_journaled g.D.Disk.content g.D.Disk.images g.D.Disk.moment g.D.Disk.left_since c.args.disk.now c.keep.new.disk c.in-Ok-keep.field-0 old new frame c.args.body.now
    (subst (λ (v : VaultServerView). Appends g.D.Disk.content g.D.Disk.images g.D.Disk.moment g.D.Disk.left_since c.args.disk.now c.keep.new.disk (Ok c.in-Ok-keep.field-0) v.journal c.keep.new.journal c.args.body.now) c.self.view_is c.in-Ok-keep.ensures.appends)
    (subst (λ (v : VaultServerView). Breaks c.args.disk.now c.keep.new.disk (Ok c.in-Ok-keep.field-0) v.journal c.keep.new.journal) c.self.view_is c.in-Ok-keep.ensures.breaks)
    c.requires.accepted c.requires.body state

-- it wasn't kept, and the state is as before
pub returns-in-Err-clause-takes : goal.returns-in-Err-clause-takes
returns-in-Err-clause-takes g c =
    let frame = frame_view c.args.frame.now in
    let kept : c.undo.new.self ≡ c.args.self.now.state = c.undo.ensures
    ∙ ap (λ (s : VaultState). undone s frame) c.in-Ok.ensures.ok
    ∙ undone-prepared c.self.inside.vault frame (subst (λ (v : VaultServerView). IsVaultTaken v.state frame) (sym c.self.view_is) c.requires.accepted)
    ∙ ap (λ (v : VaultServerView). v.state) c.self.view_is in
    record { taken = tt; state_kept = kept }
