-- A command's frame that is sent again, by the reply to it.
use Rattle.std.proofs.Common.{◌≡◌, ◌≢◌, ℕ, ◌==◌, Bool, true, false, List, [], ◌∷◌, None, Some, Ok, Err, flat_map, refl, ap, ◌∙◌, subst}
use Rattle.std.specs.Prelude.{Option, Result, if◌then◌else◌}
use Rattle.std.specs.List.{AllByRecursion}
use Rattle.std.proofs.lemmas.Bool.Decides.{Decides-eqb}
use Rattle.keyed_fn.specs.KeyedFn.{KeyedFn}
use Rattle.keyed_fn.specs.VaultFormulas.{VaultSecrets}
use Rattle.vault_server.specs.VaultFrames.{InVault, VaultReplyText, Took, BodyReply, Absent, Next, Clash, NoMemory, StoreFault, BadFrame, vault_bytes}
use Rattle.vault_shelf.specs.ClientRecords.{IsRecorded}
use Rattle.vault_shelf.specs.Shelves.{Shelf, VaultCommand, Put, Drop, Get}
use Rattle.vault_shelf.specs.VaultSessions.{sent_by}
use Rattle.vault_script.specs.VaultShown.{VaultShownText}
use Rattle.vault_script.specs.declared.vault_stop.VaultStop.{VaultStop}
use Rattle.doc_vault.specs.Acknowledged.{Acknowledges, StopsSending, sending}
use Rattle.doc_vault.specs.CommandRuns.{HasFrame}
use Rattle.doc_vault.specs.CommandViews.{shown_of}
use Rattle.doc_vault.specs.Outcomes.{Shows, Stops, bad_reply, command_outcome, unexpected, update_outcome}
use Rattle.doc_vault.specs.Sights.{HasPassed, LinkSight}
use Rattle.vault_client.specs.CatchingUp.{SendsAgain, Unacknowledged}

-- the reply that acknowledges an update shows its line
own_shows : (n : ℕ) (shown : VaultShownText) (reply : List ℕ) → update_outcome n shown reply (Some (Took n)) ≡ Shows shown
own_shows n shown reply = ap (λ (b : Bool). if b then Shows shown else Stops (bad_reply reply)) ((Decides-eqb n n).1 refl)

-- and any other reply stops it
other_stops : (n : ℕ) (shown : VaultShownText) (reply : List ℕ) (read : Option VaultReplyText) → read ≢ Some (Took n) → update_outcome n shown reply read ≡ Stops (unexpected reply read)
other_stops n shown reply None other = refl
other_stops n shown reply (Some (Took m)) other = by (m == n) refl
  where
    by : (b : Bool) → (m == n) ≡ b → (if b then Shows shown else Stops (bad_reply reply)) ≡ Stops (bad_reply reply)
    by true e = absurd (other (ap (λ (k : ℕ). Some (Took k)) ((Decides-eqb m n).0 e)))
    by false e = refl
other_stops n shown reply (Some (BodyReply tag sealed)) other = refl
other_stops n shown reply (Some Absent) other = refl
other_stops n shown reply (Some (Next m)) other = refl
other_stops n shown reply (Some Clash) other = refl
other_stops n shown reply (Some NoMemory) other = refl
other_stops n shown reply (Some StoreFault) other = refl
other_stops n shown reply (Some BadFrame) other = refl

module _ (f : KeyedFn) (keys : VaultSecrets) (s : Shelf) where
  own_outcome : (c : VaultCommand) → IsRecorded c → (reply : List ℕ) → command_outcome f keys s c reply (Some (Took s.sent)) ≡ Shows (shown_of c [])
  own_outcome (Put id body) recorded reply = own_shows s.sent (shown_of (Put id body) []) reply
  own_outcome (Drop id) recorded reply = own_shows s.sent (shown_of (Drop id) []) reply
  own_outcome (Get id) recorded reply = absurd recorded

  pub other_outcome : (c : VaultCommand) → IsRecorded c → (reply : List ℕ) (read : Option VaultReplyText) → read ≢ Some (Took s.sent) → command_outcome f keys s c reply read ≡ Stops (unexpected reply read)
  other_outcome (Put id body) recorded reply read other = other_stops s.sent (shown_of (Put id body) []) reply read other
  other_outcome (Drop id) recorded reply read other = other_stops s.sent (shown_of (Drop id) []) reply read other
  other_outcome (Get id) recorded reply read other = absurd recorded

  pub frame_of_update : (c : VaultCommand) → IsRecorded c → HasFrame s c
  frame_of_update (Put id body) recorded = tt
  frame_of_update (Drop id) recorded = tt
  frame_of_update (Get id) recorded = absurd recorded

  -- what a call that sends the frame came to
  pub sends_again : (c : VaultCommand) → IsRecorded c → AllByRecursion InVault (sent_by f keys s c) → (frame : List ℕ) (n : ℕ) → frame ≡ flat_map vault_bytes (sent_by f keys s c) → n ≡ s.sent
      → (old new : LinkSight) (result : Result Unit VaultStop) → Acknowledges frame n old new result → SendsAgain f keys s c old new result
  sends_again c recorded grammar frame n frame_is n_is old new (Ok done) acks =
      let passed : HasPassed (sending (flat_map vault_bytes (sent_by f keys s c)) (Some acks.reply) ∷ []) old new =
      subst (λ (bytes : List ℕ). HasPassed (sending bytes (Some acks.reply) ∷ []) old new) frame_is acks.passed in (
        sending (flat_map vault_bytes (sent_by f keys s c)) (Some acks.reply) ∷ [],
        record {
          reply = acks.reply;
          are = refl;
          grammar = grammar;
          comes = record { read = Some (Took n); is_read = acks.own; comes = ap (λ (k : ℕ). command_outcome f keys s c acks.reply (Some (Took k))) n_is ∙ own_outcome c recorded acks.reply };
        },
        passed,
      )
  sends_again c recorded grammar frame n frame_is n_is old new (Err stop) acks =
      Unacknowledged grammar (subst (λ (k : ℕ). StopsSending (flat_map vault_bytes (sent_by f keys s c)) k old new stop) n_is (subst (λ (bytes : List ℕ). StopsSending bytes n old new stop) frame_is acks))
