-- The question over a link that tells its server: the vault says its own number, and stays as it is.
use Rattle.std.proofs.Common.{◌≡◌, inl, inr, ℕ, List, [], ◌∷◌, slice_index, None, Some, Ok, Err, sym, ap, ◌∙◌, subst, arith}
use Rattle.std.specs.Prelude.{Option, Result, IfSome}
use Rattle.vault_link.specs.ReplySizes.{IsVaultReply}
use Rattle.vault_link.specs.Served.{IsAnswered, IsHonestReply, IsStep, Serves, VaultRemote, body_of}
use Rattle.vault_link.proofs.ReplyLaws.{no_other}
use Rattle.vault_link.proofs.ServedLaws.{answered-frame, body_of-bytes}
use Rattle.vault_server.specs.VaultAnswers.{vault_answered}
use Rattle.vault_server.specs.VaultFrames.{VaultFrameText, PutFrame, DropFrame, FetchFrame, AskFrame, VaultReplyText, Next, InVaultReplies, vault_body, vault_bytes, vault_reply_bytes}
use Rattle.vault_server.specs.VaultRecords.{CanTake}
use Rattle.vault_server.specs.VaultState.{IsVaultTaken, VaultState}
use Rattle.vault_script.specs.declared.vault_stop.VaultStop.{VaultStop}
use Rattle.doc_vault.specs.Greetings.{AsksNext, IsNoNumber, NotAnswered, NotAsked, NotSaid, SaysHonestly, greeting}
use Rattle.doc_vault.specs.Outcomes.{IsRead}
use Rattle.doc_vault.specs.Sights.{HasPassed, LinkSight}

-- the question is no update
asks_nothing : (s : VaultState) → CanTake s (body_of (vault_bytes AskFrame)) → ⊥
asks_nothing s can = by can.0 can.1 (sym (body_of-bytes AskFrame) ∙ can.2)
  where
    by : (frame : VaultFrameText) → IsVaultTaken s frame → vault_body AskFrame ≡ vault_body frame → ⊥
    by (PutFrame n slot tag sealed) taken same = let e : 0x44 ≡ 0x41 = ap (λ (bytes : List ℕ). slice_index bytes 0) same in omega (arith, e)
    by (DropFrame n slot) taken same = let e : 0x44 ≡ 0x42 = ap (λ (bytes : List ℕ). slice_index bytes 0) same in omega (arith, e)
    by (FetchFrame slot) taken same = cc
    by AskFrame taken same = cc

answered_ask : (s : VaultState) → vault_answered s (body_of (vault_bytes AskFrame)) ≡ (s, Next s.next)
answered_ask s = answered-frame s AskFrame tt

ask_step : (s after : VaultState) (reply : List ℕ) → IsAnswered s (vault_bytes AskFrame) reply after → IsStep s (vault_bytes AskFrame) reply after
ask_step s after reply (inl step) = step
ask_step s after reply (inr (inl lacks)) = absurd (asks_nothing s lacks.update)
ask_step s after reply (inr (inr fails)) = absurd (asks_nothing s fails.update)

-- the reply is the vault's number
ask_reply : (s after : VaultState) (reply : List ℕ) → IsAnswered s (vault_bytes AskFrame) reply after → IsVaultReply (Next s.next) reply
ask_reply s after reply answered =
    let step = ask_step s after reply answered in record {
      grammar = subst (λ (p : VaultState × VaultReplyText). InVaultReplies p.1) (answered_ask s) step.grammar;
      spelled = step.reply_is ∙ ap (λ (p : VaultState × VaultReplyText). vault_reply_bytes p.1) (answered_ask s);
    }

-- with a reply or without, the vault is unchanged
ask_state : (s after : VaultState) (reply : Option (List ℕ)) → IsHonestReply s (vault_bytes AskFrame) reply after → after ≡ s
ask_state s after None (inl e) = e ∙ ap (λ (p : VaultState × VaultReplyText). p.0) (answered_ask s)
ask_state s after None (inr e) = e
ask_state s after (Some reply) answered = (ask_step s after reply answered).state ∙ ap (λ (p : VaultState × VaultReplyText). p.0) (answered_ask s)

serves_same : (reply : Option (List ℕ)) (before after : Option VaultRemote) → Serves (vault_bytes AskFrame) reply before after → after ≡ before
serves_same reply None after same = same
serves_same reply (Some before) None never = absurd never
serves_same reply (Some before) (Some after) served =
    λ i. Some (record { state = ask_state before.state after.state reply served.honest i; file = served.untouched (asks_nothing before.state) i })

pub asked-stays : (old new : LinkSight) (reply : Option (List ℕ)) → HasPassed (greeting reply ∷ []) old new → new.remote ≡ old.remote
asked-stays old new reply passed = passed.served.2 ∙ serves_same reply old.remote passed.served.0 passed.served.1

-- what was asked leaves the server, also if the run stops
pub asks-stays : (old new : LinkSight) (result : Result ℕ VaultStop) → AsksNext old new result → new.remote ≡ old.remote
asks-stays old new (Ok n) said = said.unmoved
asks-stays old new (Err stop) (NotAsked is same) = ap (λ (sight : LinkSight). sight.remote) same
asks-stays old new (Err stop) (NotAnswered is passed) = asked-stays old new None passed
asks-stays old new (Err stop) (NotSaid reply passed read is_read other is) = asked-stays old new (Some reply) passed

module _ (old new : LinkSight) (told : VaultRemote) (tells : old.remote ≡ Some told) where
  own_reply : (reply : List ℕ) → HasPassed (greeting (Some reply) ∷ []) old new → IsVaultReply (Next told.state.next) reply
  own_reply reply passed = by passed.served.0 (subst (λ (r : Option VaultRemote). Serves (vault_bytes AskFrame) (Some reply) r passed.served.0) tells passed.served.1)
    where
      by : (between : Option VaultRemote) → Serves (vault_bytes AskFrame) (Some reply) (Some told) between → IsVaultReply (Next told.state.next) reply
      by None never = absurd never
      by (Some after) served = ask_reply told.state after.state reply served.honest

  own_number : (reply : List ℕ) (read : Option VaultReplyText) → HasPassed (greeting (Some reply) ∷ []) old new → IsRead reply read → IsNoNumber read → ⊥
  own_number reply None passed none other = none (Next told.state.next) (own_reply reply passed)
  own_number reply (Some r) passed is other = subst (λ (said : VaultReplyText). IsNoNumber (Some said)) (no_other r (Next told.state.next) reply is (own_reply reply passed)) other

  says : (result : Result ℕ VaultStop) → AsksNext old new result → SaysHonestly told.state.next result
  says (Ok n) said = let same : Next n ≡ Next told.state.next = no_other (Next n) (Next told.state.next) said.reply said.said (own_reply said.reply said.passed) in cc
  says (Err stop) (NotAsked is same) = is
  says (Err stop) (NotAnswered is passed) = inl is
  says (Err stop) (NotSaid reply passed read is_read other is) = absurd (own_number reply read passed is_read other)

pub says-honestly : (old new : LinkSight) (remote : Option VaultRemote) → old.remote ≡ remote → (result : Result ℕ VaultStop) → AsksNext old new result → IfSome remote (λ before. SaysHonestly before.state.next result)
says-honestly old new None tells result asks = tt
says-honestly old new (Some told) tells result asks = says old new told tells result asks
