use Rattle.std.proofs.Common.{subst, sym, ◌∙◌}
use Rattle.vault_server.specs.VaultViews.{frame_view}
use Rattle.vault_server.specs.VaultState.{IsVaultTaken}
use Rattle.vault_server.proofs.FrameGrammar.{one_body}
use Rattle.vault_server.proofs.Maybe.{both_ok}
use Rattle.vault_server.proofs.replay.take_record.Goals as goal

pub take_frame-requires : goal.take_frame-requires
take_frame-requires c = c.in-Ok.ensures.found.grammar

pub returns-in-Ok-clause-taken : goal.returns-in-Ok-clause-taken
returns-in-Ok-clause-taken c =
    both_ok c.take_frame.result c.take_frame.ensures.taken c.take_frame.ensures.state (λ is state. record { frame = frame_view c.in-Ok.frame; is_taken = is; body_is = c.in-Ok.ensures.found.spelled; state_is = state })

pub returns-in-Ok-clause-bad : goal.returns-in-Ok-clause-bad
returns-in-Ok-clause-bad c k e =
    let bad = c.take_frame.ensures.bad k e in (
      bad.0,
      λ frame is spelled. bad.1 (subst (IsVaultTaken c.args.vault.now) (one_body frame (frame_view c.in-Ok.frame) is.grammar c.in-Ok.ensures.found.grammar (sym spelled ∙ c.in-Ok.ensures.found.spelled)) is),
    )
