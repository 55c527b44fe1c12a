-- A slot that was fetched, and its line printed, by what the calls answered.
use Rattle.std.proofs.Common.{◌≡◌, inl, inr, ℕ, ◌+◌, List, [], ◌∷◌, None, Some, Ok, Err, refl, sym, subst}
use Rattle.std.specs.Prelude.{◌⊎◌, Option, Result}
use Rattle.std.specs.Result.{IsErrAnd}
use Rattle.keyed_fn.specs.KeyedFn.{KeyedFn}
use Rattle.keyed_fn.specs.VaultFormulas.{VaultSecrets, vault_slot}
use Rattle.vault_server.specs.VaultFrames.{FetchFrame, InVault, vault_bytes}
use Rattle.vault_script.specs.declared.vault_stop.VaultStop.{VaultStop}
use Rattle.doc_vault.specs.Outcomes.{link_stop, memory_stop, own_memory_stop}
use Rattle.doc_vault.specs.Sights.{HasPassed, LinkSight}
use Rattle.vault_restore.specs.RestoredLines.{RestoredLine}
use Rattle.vault_restore.specs.Slots.{JudgesSlot, slot_outcome}
use Rattle.vault_restore.specs.Visits.{FetchesOrStops, HasFetched, RestoreSight, StopsFetch, StopsInLine, Unanswered, Unfetched, Unjudged, Unprinted, Unsent, VisitsOrStops}
use Rattle.vault_restore.specs.declared.slot.Slot.{Slot}

module _ (f : KeyedFn) (keys : VaultSecrets) (v : ℕ) where
  -- the reply was judged
  pub fetched-judged : (old new : LinkSight) (text frame reply : List ℕ) (result : Result Slot VaultStop) → frame ≡ vault_bytes (FetchFrame (vault_slot f keys.slots v)) → InVault (FetchFrame (vault_slot f keys.slots v))
      → HasPassed (record { frame = frame; reply = Some reply } ∷ []) old new → JudgesSlot (slot_outcome f keys v) reply (v + 1) text result → FetchesOrStops f keys v text old new result
  fetched-judged old new text frame reply (Ok slot) is grammar passed judged = record {
    reply = reply;
    grammar = grammar;
    passed = subst (λ (bytes : List ℕ). HasPassed (record { frame = bytes; reply = Some reply } ∷ []) old new) is passed;
    comes = judged;
  }
  fetched-judged old new text frame reply (Err stop) is grammar passed judged = Unjudged reply grammar (subst (λ (bytes : List ℕ). HasPassed (record { frame = bytes; reply = Some reply } ∷ []) old new) is passed) judged

  -- there is none
  pub fetched-cut : (old new : LinkSight) (text frame : List ℕ) (result : Result Slot VaultStop) (at : VaultStop) → IsErrAnd result (λ stop. stop ≡ at) → frame ≡ vault_bytes (FetchFrame (vault_slot f keys.slots v))
      → ((at ≡ link_stop) × HasPassed (record { frame = frame; reply = None } ∷ []) old new) ⊎ (((at ≡ link_stop) ⊎ (at ≡ memory_stop)) × (new ≡ old)) → FetchesOrStops f keys v text old new result
  fetched-cut old new text frame (Ok slot) at is frame_is cut = absurd is
  fetched-cut old new text frame (Err stop) at is frame_is cut = by (subst (λ (st : VaultStop). ((st ≡ link_stop) × HasPassed (record { frame = frame; reply = None } ∷ []) old new) ⊎ (((st ≡ link_stop) ⊎ (st ≡ memory_stop)) × (new ≡ old))) (sym is) cut)
    where
      by : ((stop ≡ link_stop) × HasPassed (record { frame = frame; reply = None } ∷ []) old new) ⊎ (((stop ≡ link_stop) ⊎ (stop ≡ memory_stop)) × (new ≡ old)) → StopsFetch f keys v old new stop
      by (inl sent) = Unanswered sent.0 (subst (λ (bytes : List ℕ). HasPassed (record { frame = bytes; reply = None } ∷ []) old new) frame_is sent.1)
      by (inr kept) = Unsent (inr kept.0) kept.1

  -- there is no memory for the frame
  pub fetched-none : (link : LinkSight) (text : List ℕ) (result : Result Slot VaultStop) → IsErrAnd result (λ stop. stop ≡ own_memory_stop) → FetchesOrStops f keys v text link link result
  fetched-none link text (Ok slot) is = absurd is
  fetched-none link text (Err stop) is = Unsent (inl is) refl

  -- The line of it.

  pub visited-fetch : (old new : RestoreSight) (text : List ℕ) (result : Result Slot VaultStop) (at : VaultStop) → IsErrAnd result (λ stop. stop ≡ at) → StopsFetch f keys v old.link new.link at → new.written ≡ old.written
      → VisitsOrStops f keys v text old new result
  visited-fetch old new text (Ok slot) at is stops same = absurd is
  visited-fetch old new text (Err stop) at is stops same = Unfetched (subst (λ (st : VaultStop). StopsFetch f keys v old.link new.link st) (sym is) stops) same

  pub visited-unprinted : (old new : RestoreSight) (text : List ℕ) (line : Option RestoredLine) (result : Result Slot VaultStop) (at : VaultStop) → IsErrAnd result (λ stop. stop ≡ at) → HasFetched f keys v line old.link new.link
      → StopsInLine line old.written new.written at → VisitsOrStops f keys v text old new result
  visited-unprinted old new text line (Ok slot) at is fetched stops = absurd is
  visited-unprinted old new text line (Err stop) at is fetched stops =
      Unprinted (record { reply = fetched.reply; line = line }) (record { grammar = fetched.grammar; comes = fetched.comes }) fetched.passed (subst (λ (st : VaultStop). StopsInLine line old.written new.written st) (sym is) stops)
