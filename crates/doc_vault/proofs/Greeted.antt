-- The question before the first command, by what its reply is.
use Rattle.std.proofs.Common.{◌≡◌, ◌≢◌, inl, inr, ℕ, List, [], ◌∷◌, None, Some, Ok, Err, refl, sym, ap, ◌∙◌, subst}
use Rattle.std.specs.Prelude.{◌⊎◌, Option, Result, IfSome}
use Rattle.std.specs.Result.{IsErrAnd}
use Rattle.vault_link.specs.ReplySizes.{IsVaultFrame, IsVaultReply}
use Rattle.vault_link.specs.Served.{VaultRemote}
use Rattle.vault_server.specs.VaultFrames.{AskFrame, VaultReplyText, vault_bytes}
use Rattle.vault_server.specs.VaultViews.{reply_view}
use Rattle.vault_server.specs.declared.vault_reply.VaultReply.{VaultReply}
use Rattle.vault_server.specs.declared.vault_reply.VaultReply.TheVariants as replies
use Rattle.vault_script.specs.declared.vault_stop.VaultStop.{VaultStop}
use Rattle.doc_vault.specs.Greetings.{AsksNext, Greets, GreetsHonestly, IsNoNumber, JudgesNext, NoNumber, NotAnswered, NotAsked, NotSaid, SaysHonestly, StopsAsking, TakesNumber, elsewhere, greeting}
use Rattle.doc_vault.specs.Outcomes.{link_stop, memory_stop}
use Rattle.doc_vault.specs.Sights.{HasPassed, LinkSight}
use Rattle.doc_vault.proofs.Asked.{asked-stays}

-- the question is a frame of the grammar
pub ask_frame : IsVaultFrame (vault_bytes AskFrame)
ask_frame = record { frame = AskFrame; grammar = tt; spelled = refl }

-- any reply but a number
pub not_next : (reply : VaultReply) → ((n : ℕ) → reply ≡ replies.Next n → ⊥) → IsNoNumber (Some (reply_view reply))
not_next (replies.Took m) never = tt
not_next (replies.Body tag sealed) never = tt
not_next replies.Absent never = tt
not_next (replies.Next n) never = absurd (never n refl)
not_next replies.Clash never = tt
not_next replies.NoMemory never = tt
not_next replies.StoreFault never = tt
not_next replies.BadFrame never = tt

-- a reply that was read
pub judged_read : (reply : VaultReplyText) (bytes : List ℕ) (result : Result ℕ VaultStop) → IsVaultReply reply bytes → TakesNumber reply bytes result → JudgesNext bytes result
judged_read reply bytes (Ok n) is number = subst (λ (r : VaultReplyText). IsVaultReply r bytes) number is
judged_read reply bytes (Err stop) is other = (Some reply, is, other.0, other.1)

-- the reply was received
pub asks-by : (old new : LinkSight) (reply : List ℕ) (result : Result ℕ VaultStop) → HasPassed (greeting (Some reply) ∷ []) old new → JudgesNext reply result → AsksNext old new result
asks-by old new reply (Ok n) passed judged = record { reply = reply; passed = passed; said = judged; unmoved = asked-stays old new (Some reply) passed }
asks-by old new reply (Err stop) passed judged = NotSaid reply passed judged.0 judged.1 judged.2 judged.3

-- it wasn't
pub asks-cut : (old new : LinkSight) (result : Result ℕ VaultStop) (at : VaultStop) → IsErrAnd result (λ stop. stop ≡ at)
    → ((at ≡ link_stop) × HasPassed (greeting None ∷ []) old new) ⊎ (((at ≡ link_stop) ⊎ (at ≡ memory_stop)) × (new ≡ old)) → AsksNext old new result
asks-cut old new (Ok n) at is cut = absurd is
asks-cut old new (Err stop) at is (inl cut) = NotAnswered (is ∙ cut.0) cut.1
asks-cut old new (Err stop) at is (inr (inl at_link, same)) = NotAsked (inl (is ∙ at_link)) same
asks-cut old new (Err stop) at is (inr (inr at_memory, same)) = NotAsked (inr (is ∙ at_memory)) same

module _ {T : Type 0} where
  -- no number was said
  pub greets-stopped : (old new : LinkSight) (result : Result T VaultStop) (at : VaultStop) → IsErrAnd result (λ stop. stop ≡ at) → StopsAsking old new at → Greets old new result
  greets-stopped old new (Ok done) at is stops = absurd is
  greets-stopped old new (Err stop) at is stops = NoNumber (subst (λ (st : VaultStop). StopsAsking old new st) (sym is) stops)

  honest_stopped : (next : ℕ) (result : Result T VaultStop) (at : VaultStop) → IsErrAnd result (λ stop. stop ≡ at) → (at ≡ link_stop) ⊎ (at ≡ memory_stop) → GreetsHonestly next result
  honest_stopped next (Ok done) at is stops = absurd is
  honest_stopped next (Err stop) at is (inl cut) = inr (inl (is ∙ cut))
  honest_stopped next (Err stop) at is (inr lacks) = inr (inr (is ∙ lacks))

  pub honest-stopped : (remote : Option VaultRemote) (result : Result T VaultStop) (at : VaultStop) → IsErrAnd result (λ stop. stop ≡ at) → IfSome remote (λ before. SaysHonestly before.state.next (Err at))
      → IfSome remote (λ before. GreetsHonestly before.state.next result)
  honest-stopped None result at is says = tt
  honest-stopped (Some before) result at is says = honest_stopped before.state.next result at is says

-- 0 was said
pub honest-first : (remote : Option VaultRemote) (n : ℕ) → n ≡ 0 → IfSome remote (λ before. SaysHonestly before.state.next (Ok n)) → IfSome remote (λ before. GreetsHonestly {T = Unit} before.state.next (Ok tt))
honest-first None n zero says = tt
honest-first (Some before) n zero says = sym says ∙ zero

-- another number was said
pub honest-other : (remote : Option VaultRemote) (n : ℕ) (stop : VaultStop) → n ≢ 0 → stop ≡ elsewhere n → IfSome remote (λ before. SaysHonestly before.state.next (Ok n))
    → IfSome remote (λ before. GreetsHonestly {T = Unit} before.state.next (Err stop))
honest-other None n stop other is says = tt
honest-other (Some before) n stop other is says = inl (λ e. other (says ∙ e), is ∙ ap elsewhere says)
