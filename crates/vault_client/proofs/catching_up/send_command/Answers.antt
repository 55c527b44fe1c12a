use Rattle.std.proofs.Common.{List, ℕ, ◌++◌, flat_map, sym, ap, ◌∙◌, subst}
use Rattle.keyed_fn.specs.KeyedFn.{keyed_fn}
use Rattle.vault_shelf.specs.VaultSessions.{sent_by}
use Rattle.vault_link.specs.ReplySizes.{IsVaultFrame}
use Rattle.vault_server.specs.VaultFrames.{vault_bytes}
use Rattle.vault_shelf.specs.CommandView.{command_view}
use Rattle.doc_vault.proofs.Exchanged.{vault_frame}
use Rattle.vault_client.proofs.SentAgain.{frame_of_update, sends_again}
use Rattle.vault_client.proofs.catching_up.send_command.Goals as goal

pub send_again-requires-clause-frame : goal.send_again-requires-clause-frame
send_again-requires-clause-frame g c =
    let f = keyed_fn g.K.Keyed.prf g.K.Keyed.pad in
    let s = c.requires.known.0 in
    let command = command_view c.args.command.now in
    let keeps = c.requires.known.1 in
    subst IsVaultFrame
    (sym (c.as_slice.ensures.value ∙ c.in_ok-write_vault_command.ensures.bytes s keeps ∙ ap (λ (front : List ℕ). front ++ flat_map vault_bytes (sent_by f c.args.tools.now.keys s command)) c.clear.ensures.items))
    (vault_frame f c.args.tools.now.keys s command (frame_of_update f c.args.tools.now.keys s command c.requires.recorded) (c.in_ok-write_vault_command.ensures.grammar s keeps))

pub returns-clause-sent : goal.returns-clause-sent
returns-clause-sent g c s keeps =
    let f = keyed_fn g.K.Keyed.prf g.K.Keyed.pad in
    let command = command_view c.args.command.now in
    sends_again f c.args.tools.now.keys s command c.requires.recorded (c.in_ok-write_vault_command.ensures.grammar s keeps) c.as_slice.result.now c.sent.result
    (c.as_slice.ensures.value ∙ c.in_ok-write_vault_command.ensures.bytes s keeps ∙ ap (λ (front : List ℕ). front ++ flat_map vault_bytes (sent_by f c.args.tools.now.keys s command)) c.clear.ensures.items)
    (c.sent.ensures ∙ keeps.sent) _ _ c.send_again.result c.send_again.ensures.acknowledges
