use Rattle.std.proofs.Common.{◌≡◌, [], ◌∷◌, ◌++◌, Some, sym, ◌∙◌, subst}
use Rattle.vault_link.specs.Exchanges.{Exchange}
use Rattle.vault_link.specs.Recorded.{recorded}
use Rattle.vault_link.specs.Served.{AreServed}
use Rattle.vault_link.proofs.ServedLaws.{served-push}
use Rattle.vault_link.proofs.loopback.VaultLoopbackVaultLink.ask.Goals as goal

-- the exchange is honest, as all before it were
pub invariant_of-self-2 : goal.invariant_of-self-2
invariant_of-self-2 g c =
    let inside = c.self.inside in
    let x : Exchange = record { frame = c.args.frame.now; reply = Some c.answer_into.new.reply.items } in
    let kept : recorded c.keep.new.self ≡ recorded inside.transcript ++ x ∷ [] =
    c.keep.ensures ∙ (λ i. c.make_room.ensures.same i ++ record { frame = c.in_ok-kept.ensures.frame i; reply = Some c.answer_into.new.reply.items } ∷ []) in record {
      within = c.answer_into.ensures.replies.within;
      served = subst (λ exchanges. AreServed inside.began.value.state exchanges c.answer_into.new.server.state) (sym kept)
          (served-push inside.began.value.state (recorded inside.transcript) inside.server.state c.answer_into.new.server.state x c.self.invariant.served c.answer_into.ensures.replies.answered);
    }
