-- A reply that was judged: what it comes to, and whether it reports a fault of the vault's disk.
use Rattle.std.proofs.Common.{◌≡◌, inl, inr, ℕ, ◌+◌, List, [], ◌∷◌, None, Some, Ok, Err, refl, sym, ap, ◌∙◌, subst}
use Rattle.std.specs.Prelude.{Option, Result, option_map}
use Rattle.keyed_fn.specs.KeyedFn.{KeyedFn}
use Rattle.keyed_fn.specs.VaultFormulas.{VaultSecrets}
use Rattle.vault_server.specs.VaultFrames.{VaultReplyText, Took, BodyReply, Absent, Next, Clash, NoMemory, StoreFault, BadFrame, vault_reply_bytes}
use Rattle.vault_server.specs.VaultViews.{reply_view}
use Rattle.vault_server.specs.declared.vault_reply.VaultReply.{VaultReply}
use Rattle.vault_link.specs.ReplySizes.{IsVaultReply}
use Rattle.vault_link.proofs.ReplyLaws.{no_other}
use Rattle.vault_shelf.specs.VaultTexts.{Fetched, Opened, Oversized, Forged, fetched_text}
use Rattle.vault_shelf.specs.OpenedView.{opened_view}
use Rattle.vault_shelf.specs.declared.text_buffer.Opened as kinds
use Rattle.vault_shelf.specs.declared.text_buffer.Opened.TheVariants as openings
use Rattle.vault_script.specs.declared.vault_stop.VaultStop.{VaultStop}
use Rattle.doc_vault.specs.Counts.{TellsFault}
use Rattle.doc_vault.specs.Outcomes.{IsRead, bad_reply, link_stop, own_memory_stop}
use Rattle.doc_vault.specs.Sights.{HasPassed, LinkSight}
use Rattle.doc_vault.proofs.FaultLaws.{tells-bytes, tells-none, tells-stop, tells-well}
use Rattle.vault_restore.specs.RestoredLines.{RestoredLine, TextLine, ForgedLine}
use Rattle.vault_restore.specs.Restores.{AsksNext, JudgesNumber, NotNumbered, TakesNumber, question}
use Rattle.vault_restore.specs.Slots.{Holds, IsUnread, JudgesRead, JudgesSlot, JudgesText, SlotOutcome, Stops, Unfit, Unread, held_outcome, line_of, slot_outcome, unfit}
use Rattle.vault_restore.specs.declared.slot.Slot.{Slot}

-- bytes that no reply was read of are none of the grammar
pub none_read : (bytes : List ℕ) (read : Option VaultReply) → read ≡ None → ((reply : VaultReplyText) → IsVaultReply reply bytes → option_map reply_view read ≡ Some reply) → IsRead bytes None
none_read bytes None e only reply is = let none : None ≡ Some reply = only reply is in cc
none_read bytes (Some r) e only reply is = cc

module _ (outcome : List ℕ → Option VaultReplyText → SlotOutcome) (bytes : List ℕ) (id : ℕ) (text : List ℕ) where
  -- a reply that was read
  pub judged-read : (reply : VaultReplyText) (result : Result Slot VaultStop) → IsVaultReply reply bytes → JudgesRead (outcome bytes (Some reply)) reply id text result → JudgesSlot outcome bytes id text result
  judged-read reply (Ok slot) is judged = record { read = Some reply; is_read = is; comes = judged }
  judged-read reply (Err stop) is (inl stops) = Unfit (record { read = Some reply; is_read = is; comes = stops })
  judged-read reply (Err stop) is (inr unread) = Unread (record { reply = reply; is_read = is; text = unread.0; stop_is = unread.1 })

-- a reply to the question that was read
pub numbered-read : (reply : VaultReplyText) (bytes : List ℕ) (result : Result ℕ VaultStop) → IsVaultReply reply bytes → TakesNumber reply bytes result → JudgesNumber bytes result
numbered-read reply bytes (Ok n) is taken = subst (λ (r : VaultReplyText). IsVaultReply r bytes) taken is
numbered-read reply bytes (Err stop) is taken = record { read = Some reply; is_read = is; other = taken.0; stop_is = taken.1 }

-- the question's reply was judged
pub asked-judged : (old new : LinkSight) (reply : List ℕ) (result : Result ℕ VaultStop) → HasPassed (question (Some reply) ∷ []) old new → JudgesNumber reply result → AsksNext old new result
asked-judged old new reply (Ok n) passed judged = record { reply = reply; passed = passed; said = judged }
asked-judged old new reply (Err stop) passed judged = NotNumbered reply passed judged

-- a text
pub judged-text : (came : SlotOutcome) (id : ℕ) (text tag sealed : List ℕ) (result : Result Slot VaultStop) → JudgesText came id text result → JudgesRead came (BodyReply tag sealed) id text result
judged-text came id text tag sealed (Ok slot) judged = judged
judged-text came id text tag sealed (Err stop) (inl stops) = inl stops
judged-text came id text tag sealed (Err stop) (inr is) = inr ((tag, sealed, refl), is)

-- one that is longer than a vault's text
pub too_long : (id : ℕ) (bytes : List ℕ) (fetched : Fetched) (opened : kinds.Opened) (text : List ℕ) → opened_view opened text ≡ fetched → opened ≡ openings.TooLong → held_outcome id bytes fetched ≡ Stops (bad_reply bytes)
too_long id bytes fetched opened text same is = ap (held_outcome id bytes) (sym same ∙ ap (λ (o : kinds.Opened). opened_view o text) is)

-- The stop of a reply to a fetch.

stops_inside : (at stop : VaultStop) → Stops at ≡ Stops stop → stop ≡ at
stops_inside at stop e = cc

text_unfit : (id : ℕ) (bytes : List ℕ) (fetched : Fetched) (stop : VaultStop) → held_outcome id bytes fetched ≡ Stops stop → stop ≡ bad_reply bytes
text_unfit id bytes (Opened text) stop e = absurd (let none : Holds (Some (TextLine id text)) ≡ Stops stop = e in cc)
text_unfit id bytes Oversized stop e = stops_inside (bad_reply bytes) stop e
text_unfit id bytes Forged stop e = absurd (let none : Holds (Some (ForgedLine id)) ≡ Stops stop = e in cc)

pub came_unfit : (f : KeyedFn) (keys : VaultSecrets) (v : ℕ) (bytes : List ℕ) (read : Option VaultReplyText) (stop : VaultStop) → slot_outcome f keys v bytes read ≡ Stops stop → stop ≡ unfit bytes read
came_unfit f keys v bytes None stop e = stops_inside _ stop e
came_unfit f keys v bytes (Some (Took m)) stop e = stops_inside _ stop e
came_unfit f keys v bytes (Some (BodyReply tag sealed)) stop e = text_unfit (v + 1) bytes (fetched_text f keys v (v + 1) tag sealed) stop e
came_unfit f keys v bytes (Some Absent) stop e = absurd (let none : Holds None ≡ Stops stop = e in cc)
came_unfit f keys v bytes (Some (Next m)) stop e = stops_inside _ stop e
came_unfit f keys v bytes (Some Clash) stop e = stops_inside _ stop e
came_unfit f keys v bytes (Some NoMemory) stop e = stops_inside _ stop e
came_unfit f keys v bytes (Some StoreFault) stop e = stops_inside _ stop e
came_unfit f keys v bytes (Some BadFrame) stop e = stops_inside _ stop e

-- Whether it reports a fault of the vault's disk.

module _ (bytes : List ℕ) where
  -- a reply that isn't an answer to a question
  unfit_at : {T : Type 0} (reply : VaultReplyText) → TellsFault {T = T} (reply ≡ StoreFault) (Err (unfit bytes (Some reply)))
  unfit_at (Took n) = record { fault = λ e. cc; only = λ e. cc; kind = tt }
  unfit_at (BodyReply tag sealed) = record { fault = λ e. cc; only = λ e. cc; kind = tt }
  unfit_at Absent = record { fault = λ e. cc; only = λ e. cc; kind = tt }
  unfit_at (Next n) = record { fault = λ e. cc; only = λ e. cc; kind = tt }
  unfit_at Clash = record { fault = λ e. cc; only = λ e. cc; kind = tt }
  unfit_at NoMemory = record { fault = λ e. cc; only = λ e. cc; kind = tt }
  unfit_at StoreFault = record { fault = λ e. refl; only = λ e. refl; kind = tt }
  unfit_at BadFrame = record { fault = λ e. cc; only = λ e. cc; kind = tt }

  unfit_tells : {T : Type 0} (read : Option VaultReplyText) (stop : VaultStop) → IsRead bytes read → stop ≡ unfit bytes read → TellsFault {T = T} (bytes ≡ vault_reply_bytes StoreFault) (Err stop)
  unfit_tells None stop is e = tells-none bytes stop is e
  unfit_tells {T} (Some reply) stop is e = tells-bytes reply bytes (Err stop) is (subst (λ (st : VaultStop). TellsFault {T = T} (reply ≡ StoreFault) (Err st)) (sym e) (unfit_at reply))

  module _ (f : KeyedFn) (keys : VaultSecrets) (v : ℕ) where
    -- a slot that holds something was no report of a fault
    holds_other : (read : Option VaultReplyText) (line : Option RestoredLine) → IsRead bytes read → slot_outcome f keys v bytes read ≡ Holds line → bytes ≡ vault_reply_bytes StoreFault → ⊥
    holds_other None line is e told = is StoreFault (record { grammar = tt; spelled = told })
    holds_other (Some reply) line is e told =
        let same : reply ≡ StoreFault = no_other reply StoreFault bytes is (record { grammar = tt; spelled = told }) in
        let none : Stops link_stop ≡ Holds line = subst (λ (r : VaultReplyText). slot_outcome f keys v bytes (Some r) ≡ Holds line) same e in
        cc

    -- nor was a text for which there was no memory
    unread_tells : (stop : VaultStop) → IsUnread bytes stop → TellsFault {T = Slot} (bytes ≡ vault_reply_bytes StoreFault) (Err stop)
    unread_tells stop unread =
        tells-bytes unread.reply bytes (Err stop) unread.is_read
        (tells-stop (unread.reply ≡ StoreFault) (Err stop) own_memory_stop (λ e. let none : BodyReply unread.text.0 unread.text.1 ≡ StoreFault = sym unread.text.2 ∙ e in cc) unread.stop_is (λ e. cc) tt)

    pub slot_tells : (id : ℕ) (text : List ℕ) (result : Result Slot VaultStop) → JudgesSlot (slot_outcome f keys v) bytes id text result → TellsFault (bytes ≡ vault_reply_bytes StoreFault) result
    slot_tells id text (Ok slot) judged = tells-well (bytes ≡ vault_reply_bytes StoreFault) slot (holds_other judged.read (line_of slot id text) judged.is_read judged.comes)
    slot_tells id text (Err stop) (Unfit comes) = unfit_tells comes.read stop comes.is_read (came_unfit f keys v bytes comes.read stop comes.comes)
    slot_tells id text (Err stop) (Unread unread) = unread_tells stop unread

  pub number_tells : (result : Result ℕ VaultStop) → JudgesNumber bytes result → TellsFault (bytes ≡ vault_reply_bytes StoreFault) result
  number_tells (Ok n) judged =
      tells-well (bytes ≡ vault_reply_bytes StoreFault) n (λ told. let none : Next n ≡ StoreFault = no_other (Next n) StoreFault bytes judged (record { grammar = tt; spelled = told }) in cc)
  number_tells (Err stop) judged = unfit_tells judged.read stop judged.is_read judged.stop_is
