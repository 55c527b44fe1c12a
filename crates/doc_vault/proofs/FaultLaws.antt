-- Whether a judged reply reports a fault of the vault's disk, by what the run stops for.
use Rattle.std.proofs.Common.{◌≡◌, ℕ, List, None, Some, Ok, Err, refl, sym, ap, ◌∙◌, subst}
use Rattle.std.specs.Prelude.{Result}
use Rattle.std.specs.Result.{IsErrAnd}
use Rattle.vault_link.specs.ReplySizes.{IsVaultReply}
use Rattle.vault_link.proofs.ReplyLaws.{no_other}
use Rattle.vault_server.specs.VaultFrames.{VaultReplyText, Took, BodyReply, Absent, Next, Clash, NoMemory, StoreFault, BadFrame, vault_reply_bytes}
use Rattle.vault_script.specs.declared.vault_stop.VaultStop.{VaultStop}
use Rattle.doc_vault.specs.Counts.{IsExchangeStop, TellsFault}
use Rattle.doc_vault.specs.Greetings.{TakesNumber}
use Rattle.doc_vault.specs.Outcomes.{IsRead, bad_reply, link_stop, unexpected}

module _ {T : Type 0} where
  -- a stop for something else
  pub tells-stop : (reported : Type 0) (result : Result T VaultStop) (at : VaultStop) → (reported → ⊥) → IsErrAnd result (λ stop. stop ≡ at) → (at ≡ link_stop → ⊥) → IsExchangeStop at → TellsFault reported result
  tells-stop reported (Ok done) at never is other kind = absurd is
  tells-stop reported (Err stop) at never is other kind = record {
    fault = λ told. absurd (never told);
    only = λ e. absurd (other (sym is ∙ e));
    kind = subst IsExchangeStop (sym is) kind;
  }

  -- a call that goes well
  pub tells-well : (reported : Type 0) (done : T) → (reported → ⊥) → TellsFault {T = T} reported (Ok done)
  tells-well reported done never = record { fault = λ told. absurd (never told); only = tt; kind = tt }

  -- the same report in other words
  pub tells-same : (a b : Type 0) (result : Result T VaultStop) → (a → b) → (b → a) → TellsFault a result → TellsFault b result
  tells-same a b (Ok done) to from tells = record { fault = λ told. tells.fault (from told); only = tt; kind = tt }
  tells-same a b (Err stop) to from tells = record { fault = λ told. tells.fault (from told); only = λ e. to (tells.only e); kind = tells.kind }

  -- the bytes of a reply
  pub tells-bytes : (reply : VaultReplyText) (bytes : List ℕ) (result : Result T VaultStop) → IsVaultReply reply bytes → TellsFault (reply ≡ StoreFault) result → TellsFault (bytes ≡ vault_reply_bytes StoreFault) result
  tells-bytes reply bytes result is tells =
      tells-same (reply ≡ StoreFault) (bytes ≡ vault_reply_bytes StoreFault) result (λ e. is.spelled ∙ ap vault_reply_bytes e)
      (λ e. no_other reply StoreFault bytes is (record { grammar = tt; spelled = e })) tells

  -- bytes that are no reply
  pub tells-none : (bytes : List ℕ) (stop : VaultStop) → IsRead bytes None → stop ≡ bad_reply bytes → TellsFault {T = T} (bytes ≡ vault_reply_bytes StoreFault) (Err stop)
  tells-none bytes stop none is =
      tells-stop (bytes ≡ vault_reply_bytes StoreFault) (Err stop) (bad_reply bytes) (λ e. none StoreFault (record { grammar = tt; spelled = e })) is (λ e. cc) tt

  -- a reply that isn't the one expected
  unexpected_tells : (reply : VaultReplyText) (bytes : List ℕ) → TellsFault {T = T} (reply ≡ StoreFault) (Err (unexpected bytes (Some reply)))
  unexpected_tells (Took n) bytes = record { fault = λ e. cc; only = λ e. cc; kind = tt }
  unexpected_tells (BodyReply tag sealed) bytes = record { fault = λ e. cc; only = λ e. cc; kind = tt }
  unexpected_tells Absent bytes = record { fault = λ e. cc; only = λ e. cc; kind = tt }
  unexpected_tells (Next n) bytes = record { fault = λ e. cc; only = λ e. cc; kind = tt }
  unexpected_tells Clash bytes = record { fault = λ e. cc; only = λ e. cc; kind = tt }
  unexpected_tells NoMemory bytes = record { fault = λ e. cc; only = λ e. cc; kind = tt }
  unexpected_tells StoreFault bytes = record { fault = λ e. refl; only = λ e. refl; kind = tt }
  unexpected_tells BadFrame bytes = record { fault = λ e. cc; only = λ e. cc; kind = tt }

  pub tells-unexpected : (reply : VaultReplyText) (bytes : List ℕ) (stop : VaultStop) → stop ≡ unexpected bytes (Some reply) → TellsFault {T = T} (reply ≡ StoreFault) (Err stop)
  tells-unexpected reply bytes stop is = subst (λ (s : VaultStop). TellsFault {T = T} (reply ≡ StoreFault) (Err s)) (sym is) (unexpected_tells reply bytes)

-- a number, or another reply
pub tells-number : (reply : VaultReplyText) (bytes : List ℕ) (result : Result ℕ VaultStop) → TakesNumber reply bytes result → TellsFault (reply ≡ StoreFault) result
tells-number reply bytes (Ok n) is = tells-well (reply ≡ StoreFault) n (λ e. let no : Next n ≡ StoreFault = sym is ∙ e in cc)
tells-number reply bytes (Err stop) is = tells-unexpected reply bytes stop is.1
