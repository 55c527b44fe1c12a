-- The reply of a vault that stands as the client left it, to a command's frame: it is the one expected, unless the vault is out of memory or its disk failed.
use Rattle.std.proofs.Common.{◌≡◌, inl, inr, ℕ, List, [], ◌∷◌, ◌++◌, length, None, Some, flat_map, refl, sym, ap, ◌∙◌, subst}
use Rattle.std.specs.Prelude.{◌⊎◌, Option, IsSome, unwrap_or, if◌then◌else◌}
use Rattle.std.specs.List.{AllByRecursion}
use Rattle.std.proofs.lemmas.List.{append-nil}
use Rattle.keyed_fn.specs.KeyedFn.{KeyedFn}
use Rattle.keyed_fn.specs.VaultFormulas.{VaultSecrets, vault_slot}
use Rattle.vault_server.specs.VaultAnswers.{vault_answered}
use Rattle.vault_server.specs.VaultFrames.{VaultFrameText, DropFrame, FetchFrame, VaultReplyText, Took, NoMemory, StoreFault, InVault, vault_bytes, vault_reply_bytes, InVaultReplies}
use Rattle.vault_server.specs.VaultLeaks.{put_frame}
use Rattle.vault_server.specs.VaultState.{VaultState, vault_step}
use Rattle.vault_link.specs.ReplySizes.{IsVaultReply}
use Rattle.vault_link.specs.Served.{IsAnswered, IsStep, body_of}
use Rattle.vault_link.proofs.ReplyLaws.{no_other}
use Rattle.vault_link.proofs.ServedLaws.{answered-frame}
use Rattle.vault_shelf.specs.ShelfFaults.{shelf_fault}
use Rattle.vault_shelf.specs.Shelves.{Shelf, VaultCommand, Put, Drop, Get}
use Rattle.vault_shelf.specs.Standing.{LeftBy}
use Rattle.vault_shelf.specs.VaultSessions.{SlotsDiffer, draw_by, sent_by}
use Rattle.vault_shelf.proofs.Accepted.{accepted_put, accepted_drop}
use Rattle.vault_shelf.proofs.Rows.{same_number}
use Rattle.vault_shelf.proofs.SessionLaw.{put_taken, drop_taken}
use Rattle.vault_shelf.proofs.Texts.{get_gives_text}
use Rattle.vault_script.specs.VaultShown.{VaultShownText, Stored, Dropped}
use Rattle.doc_vault.specs.CommandRuns.{HasFrame}
use Rattle.doc_vault.specs.HonestTexts.{accepted_line, text_line}
use Rattle.doc_vault.specs.Outcomes.{ComesTo, IsRead, Shows, Stops, VaultOutcome, bad_reply, command_outcome, fetch_outcome, fetched_outcome, link_stop, memory_stop, update_outcome}

-- an acknowledgement of update n
took : (n : ℕ) (shown : VaultShownText) (bytes : List ℕ) → update_outcome n shown bytes (Some (Took n)) ≡ Shows shown
took n shown bytes = λ i. if same_number n i then Shows shown else Stops (bad_reply bytes)

module _ (f : KeyedFn) (keys : VaultSecrets) where
  -- the frame of a command, and what the vault's own reply to it shows
  pub record IsRight (vault : VaultState) (s : Shelf) (c : VaultCommand) : Type 0 where
    pub frame : VaultFrameText
    pub sent : sent_by f keys s c ≡ frame ∷ []
    pub shows : (bytes : List ℕ) → command_outcome f keys s c bytes (Some (vault_step vault frame).1) ≡ Shows (accepted_line s c)

  right_put : (vault : VaultState) (s : Shelf) (id : ℕ) (body : List ℕ) → SlotsDiffer f keys → LeftBy f keys vault s → shelf_fault s (Put id body) ≡ None → IsRight vault s (Put id body)
  right_put vault s id body differ left fine = record {
    frame = put_frame s.sent (draw_by f keys (length s.puts) (record { id = id; body = body }));
    sent = refl;
    shows = λ bytes.
        ap (λ (p : VaultState × VaultReplyText). update_outcome s.sent (Stored id) bytes (Some p.1)) (put_taken f keys differ vault s left id body (accepted_put s id body fine))
        ∙ took s.sent (Stored id) bytes;
  }

  right_drop : (vault : VaultState) (s : Shelf) (id : ℕ) → SlotsDiffer f keys → LeftBy f keys vault s → shelf_fault s (Drop id) ≡ None → IsRight vault s (Drop id)
  right_drop vault s id differ left fine =
      let accepted = accepted_drop s id fine in record {
        frame = DropFrame s.sent (vault_slot f keys.slots accepted.put);
        sent = ap (λ (m : Option ℕ). DropFrame s.sent (vault_slot f keys.slots (unwrap_or m 0)) ∷ []) accepted.there;
        shows = λ bytes.
            ap (λ (p : VaultState × VaultReplyText). update_outcome s.sent (Dropped id) bytes (Some p.1)) (drop_taken f keys differ vault s left id accepted.put accepted.there)
            ∙ took s.sent (Dropped id) bytes;
      }

  right_get : (vault : VaultState) (s : Shelf) (id put : ℕ) → LeftBy f keys vault s → s.there id ≡ Some put → IsRight vault s (Get id)
  right_get vault s id put left at =
      let got = get_gives_text f keys vault s id put left at in
      let frame = FetchFrame (vault_slot f keys.slots put) in record {
        frame = frame;
        sent = ap fetch at;
        shows = λ bytes.
            ap (λ (m : Option ℕ). fetch_outcome f keys (unwrap_or m 0) id bytes (Some (vault_step vault frame).1)) at
            ∙ ap (λ (r : VaultReplyText). fetch_outcome f keys put id bytes (Some r)) got.reply
            ∙ ap (fetched_outcome id bytes) got.opened
            ∙ ap (λ (m : Option (List ℕ)). Shows (text_line id m)) (sym got.text);
      }
    where
      fetch : Option ℕ → List VaultFrameText
      fetch m = elim m [ None ↦ [] | Some put ↦ FetchFrame (vault_slot f keys.slots put) ∷ [] ]

  is_right : (vault : VaultState) (s : Shelf) (c : VaultCommand) → SlotsDiffer f keys → LeftBy f keys vault s → shelf_fault s c ≡ None → HasFrame s c → IsRight vault s c
  is_right vault s (Put id body) differ left fine has = right_put vault s id body differ left fine
  is_right vault s (Drop id) differ left fine has = right_drop vault s id differ left fine
  is_right vault s (Get id) differ left fine has = by (s.there id) refl has
    where
      by : (put : Option ℕ) → s.there id ≡ put → IsSome put → IsRight vault s (Get id)
      by None at some = cc
      by (Some put) at some = right_get vault s id put left at

  -- the outcome of a reply is that of the reply that its bytes are
  comes_by : (s : Shelf) (c : VaultCommand) (bytes : List ℕ) (came : VaultOutcome) (reply : VaultReplyText) → IsVaultReply reply bytes → ComesTo (command_outcome f keys s c) bytes came → command_outcome f keys s c bytes (Some reply) ≡ came
  comes_by s c bytes came reply is comes = by comes.read comes.is_read comes.comes
    where
      by : (read : Option VaultReplyText) → IsRead bytes read → command_outcome f keys s c bytes read ≡ came → command_outcome f keys s c bytes (Some reply) ≡ came
      by None is_none e = absurd (is_none reply is)
      by (Some r) is_reply e = ap (λ (said : VaultReplyText). command_outcome f keys s c bytes (Some said)) (no_other reply r bytes is is_reply) ∙ e

  out_of_memory : (s : Shelf) (c : VaultCommand) (bytes : List ℕ) → command_outcome f keys s c bytes (Some NoMemory) ≡ Stops memory_stop
  out_of_memory s (Put id body) bytes = refl
  out_of_memory s (Drop id) bytes = refl
  out_of_memory s (Get id) bytes = refl

  disk_failed : (s : Shelf) (c : VaultCommand) (bytes : List ℕ) → command_outcome f keys s c bytes (Some StoreFault) ≡ Stops link_stop
  disk_failed s (Put id body) bytes = refl
  disk_failed s (Drop id) bytes = refl
  disk_failed s (Get id) bytes = refl

  -- the line of the command is shown, or the run stops for one of the two
  abbrev pub ComesFairly : Shelf → VaultCommand → VaultOutcome → Type 0
  ComesFairly s c came = (came ≡ Shows (accepted_line s c)) ⊎ ((came ≡ Stops link_stop) ⊎ (came ≡ Stops memory_stop))

  -- the reply of the vault's step
  stepped_comes : (vault after : VaultState) (s : Shelf) (c : VaultCommand) (bytes : List ℕ) (came : VaultOutcome) → IsRight vault s c → AllByRecursion InVault (sent_by f keys s c)
      → IsStep vault (flat_map vault_bytes (sent_by f keys s c)) bytes after → ComesTo (command_outcome f keys s c) bytes came → came ≡ Shows (accepted_line s c)
  stepped_comes vault after s c bytes came right grammar step comes =
      let frame = right.frame in
      let own : IsStep vault (vault_bytes frame ++ []) bytes after = subst (λ (frames : List VaultFrameText). IsStep vault (flat_map vault_bytes frames) bytes after) right.sent step in
      let in_vault : InVault frame = (subst (AllByRecursion InVault) right.sent grammar).0 in
      let answered : vault_answered vault (body_of (vault_bytes frame ++ [])) ≡ vault_step vault frame =
      ap (λ (all : List ℕ). vault_answered vault (body_of all)) (append-nil (vault_bytes frame)) ∙ answered-frame vault frame in_vault in
      let reply : IsVaultReply (vault_step vault frame).1 bytes = record {
        grammar = subst (λ (p : VaultState × VaultReplyText). InVaultReplies p.1) answered own.grammar;
        spelled = own.reply_is ∙ ap (λ (p : VaultState × VaultReplyText). vault_reply_bytes p.1) answered;
      } in
      sym (comes_by s c bytes came (vault_step vault frame).1 reply comes) ∙ right.shows bytes

  pub answer_comes : (vault after : VaultState) (s : Shelf) (c : VaultCommand) (bytes : List ℕ) (came : VaultOutcome) → SlotsDiffer f keys → LeftBy f keys vault s → shelf_fault s c ≡ None → HasFrame s c
      → AllByRecursion InVault (sent_by f keys s c) → IsAnswered vault (flat_map vault_bytes (sent_by f keys s c)) bytes after → ComesTo (command_outcome f keys s c) bytes came → ComesFairly s c came
  answer_comes vault after s c bytes came differ left fine has grammar (inl step) comes = inl (stepped_comes vault after s c bytes came (is_right vault s c differ left fine has) grammar step comes)
  answer_comes vault after s c bytes came differ left fine has grammar (inr (inl lacks)) comes =
      inr (inr (sym (comes_by s c bytes came NoMemory (record { grammar = tt; spelled = lacks.reply_is }) comes) ∙ out_of_memory s c bytes))
  answer_comes vault after s c bytes came differ left fine has grammar (inr (inr fails)) comes =
      inr (inl (sym (comes_by s c bytes came StoreFault (record { grammar = tt; spelled = fails.reply_is }) comes) ∙ disk_failed s c bytes))
