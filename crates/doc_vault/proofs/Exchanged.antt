-- A frame that was sent, and its reply, by what the reply comes to.
use Rattle.std.proofs.Common.{◌≡◌, ℕ, List, [], ◌∷◌, None, Some, Ok, Err, flat_map, refl, sym, ap, ◌∙◌, subst}
use Rattle.std.specs.Prelude.{Result, Option, IsSome}
use Rattle.std.specs.Result.{IsErrAnd}
use Rattle.std.specs.List.{AllByRecursion}
use Rattle.std.proofs.lemmas.List.{append-nil}
use Rattle.keyed_fn.specs.KeyedFn.{KeyedFn}
use Rattle.keyed_fn.specs.VaultFormulas.{VaultSecrets, vault_slot}
use Rattle.sse_outside.specs.Kept.{Kept, with_records}
use Rattle.script_run_texts.specs.declared.stop_cause.StopCause.TheVariants as runs
use Rattle.vault_link.specs.ReplySizes.{IsVaultFrame}
use Rattle.vault_server.specs.VaultFrames.{VaultFrameText, FetchFrame, InVault, vault_bytes}
use Rattle.vault_shelf.specs.ClientRecords.{command_record}
use Rattle.vault_shelf.specs.Shelves.{Shelf, VaultCommand, Put, Drop, Get}
use Rattle.vault_shelf.specs.VaultSessions.{sent_by}
use Rattle.vault_script.specs.declared.vault_stop.VaultStop.{VaultStop}
use Rattle.vault_script.specs.declared.vault_stop.VaultStop.TheVariants as stops
use Rattle.doc_vault.specs.CommandRuns.{CarriesOut, Exchanges, HasFrame, IsUpdate, StopsCommand, Unfit, Unread, exchange_of, records_of}
use Rattle.doc_vault.specs.CommandViews.{shown_of}
use Rattle.doc_vault.specs.Outcomes.{ComesTo, command_outcome, judged, own_memory_stop}
use Rattle.doc_vault.specs.Sights.{HasPassed, LinkSight}

module _ (f : KeyedFn) (keys : VaultSecrets) (s : Shelf) (c : VaultCommand) where
  -- a call that judged the reply
  pub exchanged_by : (old new : LinkSight) (text : List ℕ) (result : Result Unit VaultStop) (reply : List ℕ) → HasPassed (exchange_of f keys s c (Some reply) ∷ []) old new
      → AllByRecursion InVault (sent_by f keys s c)
      → ((result ≡ Err own_memory_stop → ⊥) → ComesTo (command_outcome f keys s c) reply (judged (shown_of c text) result)) → Exchanges f keys s c old new text result
  exchanged_by old new text (Ok done) reply passed grammar comes = record {
    passed = exchange_of f keys s c (Some reply) ∷ [];
    exchanged = record { reply = reply; are = refl; grammar = grammar; comes = comes (λ e. cc) };
    seen = passed;
  }
  exchanged_by old new text (Err stops.Clash) reply passed grammar comes = Unfit reply passed grammar (comes (λ e. cc))
  exchanged_by old new text (Err (stops.Forged id)) reply passed grammar comes = Unfit reply passed grammar (comes (λ e. cc))
  exchanged_by old new text (Err (stops.Unopened stop)) reply passed grammar comes = Unfit reply passed grammar (comes (λ e. cc))
  exchanged_by old new text (Err (stops.Run runs.Memory)) reply passed grammar comes = Unread reply refl passed
  exchanged_by old new text (Err (stops.Run runs.Words)) reply passed grammar comes = Unfit reply passed grammar (comes (λ e. cc))
  exchanged_by old new text (Err (stops.Run runs.Sink)) reply passed grammar comes = Unfit reply passed grammar (comes (λ e. cc))
  exchanged_by old new text (Err (stops.Run (runs.Input stop))) reply passed grammar comes = Unfit reply passed grammar (comes (λ e. cc))
  exchanged_by old new text (Err (stops.Run (runs.Command stop))) reply passed grammar comes = Unfit reply passed grammar (comes (λ e. cc))

  -- the same by the frame that was sent
  pub exchanged_frame : (old new : LinkSight) (text : List ℕ) (result : Result Unit VaultStop) (frame reply : List ℕ) → frame ≡ flat_map vault_bytes (sent_by f keys s c)
      → HasPassed (record { frame = frame; reply = Some reply } ∷ []) old new → AllByRecursion InVault (sent_by f keys s c)
      → ((result ≡ Err own_memory_stop → ⊥) → ComesTo (command_outcome f keys s c) reply (judged (shown_of c text) result)) → Exchanges f keys s c old new text result
  exchanged_frame old new text result frame reply is passed grammar comes =
      exchanged_by old new text result reply (subst (λ (bytes : List ℕ). HasPassed (record { frame = bytes; reply = Some reply } ∷ []) old new) is passed) grammar comes

  -- a command that has a frame sends one of the grammar
  frame_in : (frame : VaultFrameText) → sent_by f keys s c ≡ frame ∷ [] → AllByRecursion InVault (sent_by f keys s c) → IsVaultFrame (flat_map vault_bytes (sent_by f keys s c))
  frame_in frame is grammar = record {
    frame = frame;
    grammar = (subst (AllByRecursion InVault) is grammar).0;
    spelled = ap (flat_map vault_bytes) is ∙ append-nil (vault_bytes frame);
  }

  -- a command that stops
  pub carries-stopped : (result : Result Unit VaultStop) (at : VaultStop) (old new : LinkSight) (kept kept' : Kept) (text : List ℕ) → IsErrAnd result (λ stop. stop ≡ at)
      → StopsCommand f keys s c old new kept kept' at → CarriesOut f keys s c old new kept kept' text result
  carries-stopped (Ok done) at old new kept kept' text is stopped = absurd is
  carries-stopped (Err stop) at old new kept kept' text is stopped = subst (λ (st : VaultStop). StopsCommand f keys s c old new kept kept' st) (sym is) stopped

pub vault_frame : (f : KeyedFn) (keys : VaultSecrets) (s : Shelf) (c : VaultCommand) → HasFrame s c → AllByRecursion InVault (sent_by f keys s c) → IsVaultFrame (flat_map vault_bytes (sent_by f keys s c))
vault_frame f keys s (Put id body) has grammar = frame_in f keys s (Put id body) _ refl grammar
vault_frame f keys s (Drop id) has grammar = frame_in f keys s (Drop id) _ refl grammar
vault_frame f keys s (Get id) has grammar = by (s.there id) refl has
  where
    fetch : Option ℕ → List VaultFrameText
    fetch m = elim m [ None ↦ [] | Some put ↦ FetchFrame (vault_slot f keys.slots put) ∷ [] ]

    by : (put : Option ℕ) → s.there id ≡ put → IsSome put → IsVaultFrame (flat_map vault_bytes (sent_by f keys s (Get id)))
    by None e some = cc
    by (Some put) e some = frame_in f keys s (Get id) (FetchFrame (vault_slot f keys.slots put)) (ap fetch e) grammar

-- records of a get
pub with_records-none : (kept : Kept) → kept ≡ with_records [] kept
with_records-none kept = by kept.records
  where
    by : (records : Option (List (List ℕ))) → record { records = records; refused = kept.refused } ≡ with_records [] (record { records = records; refused = kept.refused })
    by None = refl
    by (Some all) = ap (λ (l : List (List ℕ)). record { records = Some l; refused = kept.refused }) (sym (append-nil all))

-- the record of an update
pub update_records : (c : VaultCommand) → IsUpdate c → records_of c ≡ command_record c ∷ []
update_records (Put id body) update = refl
update_records (Drop id) update = refl
update_records (Get id) update = absurd update
