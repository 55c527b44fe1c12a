-- What passed over a link to a vault, as bytes.
use Rattle.std.specs.Prelude.{ℕ, List, [], ◌∷◌, Option, None, Some, map, refl}
use Rattle.std.specs.List.{flat_map}
use Rattle.std.specs.Coded.{Coded, code_by, coded×, coded_list, coded_option, coded_ℕ}
use Rattle.vault_server.specs.VaultFrames.{vault_bytes, vault_reply_bytes}
use Rattle.vault_server.specs.VaultLeaks.{VaultPassed, Sent, Received}

-- a frame that was sent, and the reply that was received to it; none if the link was cut first
pub record Exchange : Type 0 where
  pub frame : List ℕ
  pub reply : Option (List ℕ)

-- the bytes of a frame that was sent, or of a reply that was received
pub data VaultEvent : Type 0 where
  SentBytes : (bytes : List ℕ) → VaultEvent
  ReceivedBytes : (bytes : List ℕ) → VaultEvent

abbrev reply_events : Option (List ℕ) → List VaultEvent
reply_events None = []
reply_events (Some bytes) = ReceivedBytes bytes ∷ []

abbrev pub exchange_events : Exchange → List VaultEvent
exchange_events x = SentBytes x.frame ∷ reply_events x.reply

-- all that passed in these exchanges, in order
abbrev pub events_of : List Exchange → List VaultEvent
events_of exchanges = flat_map exchange_events exchanges

-- the bytes of what passes in a session, which a transcript is compared with

abbrev pub event_of_passed : VaultPassed → VaultEvent
event_of_passed (Sent frame) = SentBytes (vault_bytes frame)
event_of_passed (Received reply) = ReceivedBytes (vault_reply_bytes reply)

abbrev pub events_of_passed : List VaultPassed → List VaultEvent
events_of_passed passed = map event_of_passed passed

-- the code by which a proof tells these values apart

abbrev exchange_code : Coded Exchange
exchange_code = code_by (List ℕ × Option (List ℕ)) (coded× (coded_list coded_ℕ) (coded_option (coded_list coded_ℕ))) (λ x. (x.frame, x.reply)) (λ p. record { frame = p.0; reply = p.1 }) (λ _. refl)

abbrev pub exchanges_code : Coded (List Exchange)
exchanges_code = coded_list exchange_code
