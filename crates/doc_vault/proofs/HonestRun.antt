-- Over a link that tells the server at its other end, turns pass as the session of their commands does.
use Rattle.std.proofs.Common.{◌≡◌, inl, inr, ℕ, List, [], ◌∷◌, ◌++◌, length, None, Some, flat_map, refl, sym, ap, ◌∙◌, subst}
use Rattle.std.specs.Prelude.{Option, IfSome, unwrap_or}
use Rattle.std.specs.List.{AllByRecursion}
use Rattle.std.proofs.lemmas.List.{append-nil, map-append}
use Rattle.keyed_fn.specs.KeyedFn.{KeyedFn}
use Rattle.keyed_fn.specs.VaultFormulas.{VaultSecrets, vault_slot}
use Rattle.vault_server.specs.VaultFrames.{VaultFrameText, DropFrame, FetchFrame, VaultReplyText, NoMemory, StoreFault, InVault, InVaultReplies, vault_bytes, vault_reply_bytes}
use Rattle.vault_server.specs.VaultLeaks.{put_frame}
use Rattle.vault_server.specs.VaultAnswers.{vault_answered}
use Rattle.vault_server.specs.VaultState.{VaultState, vault_step}
use Rattle.vault_link.specs.Exchanges.{Exchange, SentBytes, ReceivedBytes, event_of_passed, events_of, events_of_passed}
use Rattle.vault_link.specs.Served.{AreServed, IsAnswered, IsStep, Serves, VaultRemote, body_of}
use Rattle.vault_link.proofs.ReplyLaws.{one_reply}
use Rattle.vault_link.proofs.ServedLaws.{answered-frame, events_of-append}
use Rattle.vault_shelf.specs.ShelfFaults.{AreAccepted, shelf_fault}
use Rattle.vault_shelf.specs.Shelves.{Shelf, VaultCommand, Put, Drop, Get, shelf_after, shelf_of}
use Rattle.vault_shelf.specs.VaultSessions.{draw_by, exchanged_with, sent_by, session_from, frames_of, vault_stepped}
use Rattle.vault_shelf.proofs.Fronts.{accepted-append, frames_of-append, session_from-append, vault_stepped-append}
use Rattle.vault_shelf.specs.declared.shelf_fault.ShelfFault.{ShelfFault}
use Rattle.vault_script.specs.VaultLines.{VaultLineText, EmptyLine, KeyLine, PutLine, DropLine, GetLine, vault_line_of}
use Rattle.vault_script.specs.VaultShown.{VaultShownText}
use Rattle.doc_vault.specs.CommandRuns.{IsExchanged}
use Rattle.vault_shelf.specs.Standing.{LeftBy}
use Rattle.vault_shelf.proofs.SessionLaw.{session_is_simulated_from, stands_after}
use Rattle.doc_vault.specs.HonestRuns.{PassesHonestly}
use Rattle.doc_vault.specs.Sights.{HasPassed, LinkSight, ServesAll}
use Rattle.doc_vault.specs.Outcomes.{Shows, ComesTo, IsRead, command_outcome}
use Rattle.doc_vault.specs.VaultRuns.{Turn, AreTurns, TakesSaid, IsAccepted, IsCarriedOut, IsGotten, IsJudged, commands_in, passed_in}

-- exchanges with an honest server, parted where two lists of them join
pub served-parts : (before after : VaultState) (first later : List Exchange) → AreServed before (first ++ later) after → (between : VaultState) × AreServed before first between × AreServed between later after
served-parts before after [] later are = (before, refl, are)
served-parts before after (x ∷ xs) later are =
    let rest = served-parts are.0 after xs later are.2 in
    (rest.0, (are.0, are.1, rest.1), rest.2)

module _ (f : KeyedFn) (keys : VaultSecrets) where
  -- these exchanges pass as the session of these accepted commands does, and lead the vault where its frames do
  pub record PassesAs (vault after : VaultState) (s : Shelf) (cs : List VaultCommand) (passed : List Exchange) : Type 0 where
    pub events : events_of passed ≡ events_of_passed (session_from f keys vault s cs)
    pub state : after ≡ vault_stepped vault (frames_of f keys s cs)
    pub accepted : AreAccepted s cs

  -- commands and others after them
  pub passes-both : (vault mid after : VaultState) (s : Shelf) (cs ds : List VaultCommand) (p q : List Exchange) → PassesAs vault mid s cs p → PassesAs mid after (shelf_of s cs) ds q → PassesAs vault after s (cs ++ ds) (p ++ q)
  passes-both vault mid after s cs ds p q a b = record {
    events =
        events_of-append p q
        ∙ ap (λ l. l ++ events_of q) a.events
        ∙ ap (λ l. events_of_passed (session_from f keys vault s cs) ++ l)
        (subst (λ (v : VaultState). events_of q ≡ events_of_passed (session_from f keys v (shelf_of s cs) ds)) a.state b.events)
        ∙ sym (map-append event_of_passed (session_from f keys vault s cs) (session_from f keys (vault_stepped vault (frames_of f keys s cs)) (shelf_of s cs) ds))
        ∙ ap events_of_passed (sym (session_from-append f keys vault s cs ds));
    state =
        b.state
        ∙ ap (λ v. vault_stepped v (frames_of f keys (shelf_of s cs) ds)) a.state
        ∙ sym (vault_stepped-append vault (frames_of f keys s cs) (frames_of f keys (shelf_of s cs) ds))
        ∙ ap (vault_stepped vault) (sym (frames_of-append f keys s cs ds));
    accepted = accepted-append s cs ds a.accepted b.accepted;
  }

  -- the outcome of a reply that the server is out of memory, or that its disk failed, is no line
  stops_memory : (s : Shelf) (c : VaultCommand) (bytes : List ℕ) (shown : VaultShownText) → command_outcome f keys s c bytes (Some NoMemory) ≡ Shows shown → ⊥
  stops_memory s (Put id body) bytes shown e = cc
  stops_memory s (Drop id) bytes shown e = cc
  stops_memory s (Get id) bytes shown e = cc

  stops_fault : (s : Shelf) (c : VaultCommand) (bytes : List ℕ) (shown : VaultShownText) → command_outcome f keys s c bytes (Some StoreFault) ≡ Shows shown → ⊥
  stops_fault s (Put id body) bytes shown e = cc
  stops_fault s (Drop id) bytes shown e = cc
  stops_fault s (Get id) bytes shown e = cc

  -- so the reply that shows a line isn't one of these
  not_said : (s : Shelf) (c : VaultCommand) (reply : List ℕ) (shown : VaultShownText) (why : VaultReplyText) → InVaultReplies why → reply ≡ vault_reply_bytes why
      → (command_outcome f keys s c reply (Some why) ≡ Shows shown → ⊥) → ComesTo (command_outcome f keys s c) reply (Shows shown) → ⊥
  not_said s c reply shown why grammar is never comes = by comes.read comes.is_read comes.comes
    where
      by : (read : Option VaultReplyText) → IsRead reply read → command_outcome f keys s c reply read ≡ Shows shown → ⊥
      by None is_none e = is_none why (record { grammar = grammar; spelled = is })
      by (Some r) is_reply e =
          let same : r ≡ why = one_reply r why is_reply.grammar grammar (sym is_reply.spelled ∙ is) in
          never (subst (λ (said : VaultReplyText). command_outcome f keys s c reply (Some said) ≡ Shows shown) same e)

  -- a command with one frame
  module _ (s : Shelf) (c : VaultCommand) (frame : VaultFrameText) (sent : sent_by f keys s c ≡ frame ∷ []) (fine : shelf_fault s c ≡ None) where
    stepped : (vault after : VaultState) (reply : List ℕ) (shown : VaultShownText) → InVault frame → ComesTo (command_outcome f keys s c) reply (Shows shown)
        → IsAnswered vault (vault_bytes frame ++ []) reply after → IsStep vault (vault_bytes frame ++ []) reply after
    stepped vault after reply shown grammar comes (inl step) = step
    stepped vault after reply shown grammar comes (inr (inl kept)) = absurd (not_said s c reply shown NoMemory tt kept.reply_is (stops_memory s c reply shown) comes)
    stepped vault after reply shown grammar comes (inr (inr kept)) = absurd (not_said s c reply shown StoreFault tt kept.reply_is (stops_fault s c reply shown) comes)

    passes-exchange : (vault after : VaultState) (reply : List ℕ) → InVault frame → IsStep vault (vault_bytes frame ++ []) reply after
        → PassesAs vault after s (c ∷ []) (record { frame = vault_bytes frame ++ []; reply = Some reply } ∷ [])
    passes-exchange vault after reply grammar step =
        let answered : vault_answered vault (body_of (vault_bytes frame ++ [])) ≡ vault_step vault frame =
        ap (λ bytes. vault_answered vault (body_of bytes)) (append-nil (vault_bytes frame)) ∙ answered-frame vault frame grammar in
        let reply_is : reply ≡ vault_reply_bytes (vault_step vault frame).1 = step.reply_is ∙ ap (λ (p : VaultState × VaultReplyText). vault_reply_bytes p.1) answered in
        record {
          events =
              (λ i. SentBytes (append-nil (vault_bytes frame) i) ∷ ReceivedBytes (reply_is i) ∷ [])
              ∙ ap (λ frames. events_of_passed (exchanged_with f keys vault frames (λ now. session_from f keys now (shelf_after s c) []))) (sym sent);
          state = step.state ∙ ap (λ (p : VaultState × VaultReplyText). p.0) answered ∙ ap (λ frames. vault_stepped vault (frames ++ [])) (sym sent);
          accepted = (fine, tt);
        }

    -- the command's exchange, which shows a line
    pub passes-one : (vault after : VaultState) (passed : List Exchange) (shown : VaultShownText) → IsExchanged f keys s c passed shown → AreServed vault passed after → PassesAs vault after s (c ∷ []) passed
    passes-one vault after passed shown exchanged served =
        let x : List VaultFrameText → Exchange = λ frames. record { frame = flat_map vault_bytes frames; reply = Some exchanged.reply } in
        let are : passed ≡ x (frame ∷ []) ∷ [] = exchanged.are ∙ ap (λ frames. x frames ∷ []) sent in
        let grammar : InVault frame = (subst (AllByRecursion InVault) sent exchanged.grammar).0 in
        let one : AreServed vault (x (frame ∷ []) ∷ []) after = subst (λ (l : List Exchange). AreServed vault l after) are served in
        let answer : IsAnswered vault (vault_bytes frame ++ []) exchanged.reply after = subst (λ (v : VaultState). IsAnswered vault (vault_bytes frame ++ []) exchanged.reply v) (sym one.2) one.1 in
        subst (PassesAs vault after s (c ∷ [])) (sym are) (passes-exchange vault after exchanged.reply grammar (stepped vault after exchanged.reply shown grammar exchanged.comes answer))

  -- a turn in which nothing passes: no command, or the get of a text that isn't there
  passes-none : (vault after : VaultState) (s : Shelf) (passed : List Exchange) → passed ≡ [] → AreServed vault passed after → PassesAs vault after s [] passed
  passes-none vault after s passed is served =
      subst (PassesAs vault after s []) (sym is) (record { events = refl; state = subst (λ (l : List Exchange). AreServed vault l after) is served; accepted = tt })

  passes-absent : (vault after : VaultState) (s : Shelf) (c : VaultCommand) (passed : List Exchange) → sent_by f keys s c ≡ [] → shelf_fault s c ≡ None → passed ≡ [] → AreServed vault passed after → PassesAs vault after s (c ∷ []) passed
  passes-absent vault after s c passed sent fine is served =
      subst (PassesAs vault after s (c ∷ [])) (sym is) (record {
        events = ap (λ frames. events_of_passed (exchanged_with f keys vault frames (λ now. session_from f keys now (shelf_after s c) []))) (sym sent);
        state = subst (λ (l : List Exchange). AreServed vault l after) is served ∙ ap (λ frames. vault_stepped vault (frames ++ [])) (sym sent);
        accepted = (fine, tt);
      })

  module _ (vault after : VaultState) (s : Shelf) (turn : Turn) (served : AreServed vault turn.passed after) where
    abbrev Passes : Type 0
    Passes = PassesAs vault after s turn.commands turn.passed

    carried : (c : VaultCommand) (frame : VaultFrameText) → sent_by f keys s c ≡ frame ∷ [] → shelf_fault s c ≡ None → IsCarriedOut f keys s c turn → Passes
    carried c frame sent fine out =
        subst (λ (cs : List VaultCommand). PassesAs vault after s cs turn.passed) (sym out.commands_are) (passes-one s c frame sent fine vault after turn.passed out.shown out.exchanged served)

    gotten : (id : ℕ) (put : Option ℕ) → s.there id ≡ put → shelf_fault s (Get id) ≡ None → IsGotten f keys put s id turn → Passes
    gotten id None e fine out =
        subst (λ (cs : List VaultCommand). PassesAs vault after s cs turn.passed) (sym out.commands_are)
        (passes-absent vault after s (Get id) turn.passed (ap (sent_get) e) fine out.unsent served)
      where
        sent_get : Option ℕ → List VaultFrameText
        sent_get m = elim m [ None ↦ [] | Some put ↦ FetchFrame (vault_slot f keys.slots put) ∷ [] ]
    gotten id (Some put) e fine out = carried (Get id) (FetchFrame (vault_slot f keys.slots put)) (ap (sent_get) e) fine out
      where
        sent_get : Option ℕ → List VaultFrameText
        sent_get m = elim m [ None ↦ [] | Some put ↦ FetchFrame (vault_slot f keys.slots put) ∷ [] ]

    accepted : (c : VaultCommand) → shelf_fault s c ≡ None → IsAccepted f keys s c turn → Passes
    accepted (Put id body) fine out = carried (Put id body) (put_frame s.sent (draw_by f keys (length s.puts) (record { id = id; body = body }))) refl fine out
    accepted (Drop id) fine out = carried (Drop id) (DropFrame s.sent (vault_slot f keys.slots (unwrap_or (s.there id) 0))) refl fine out
    accepted (Get id) fine out = gotten id (s.there id) refl fine out

    judged_passes : (c : VaultCommand) (fault : Option ShelfFault) → shelf_fault s c ≡ fault → IsJudged f keys fault s c turn → Passes
    judged_passes c None e out = accepted c e out
    judged_passes c (Some fault) e out =
        subst (λ (cs : List VaultCommand). PassesAs vault after s cs turn.passed) (sym out.commands_are) (passes-none vault after s turn.passed out.unsent served)

    pub said_passes : (said : Option VaultLineText) → TakesSaid f keys s said turn → Passes
    said_passes None out = absurd out
    said_passes (Some EmptyLine) out =
        subst (λ (cs : List VaultCommand). PassesAs vault after s cs turn.passed) (sym (ap (λ (t : Turn). t.commands) out)) (passes-none vault after s turn.passed (ap (λ (t : Turn). t.passed) out) served)
    said_passes (Some (KeyLine key)) out = absurd out
    said_passes (Some (PutLine id body)) out = judged_passes (Put id body) (shelf_fault s (Put id body)) refl out
    said_passes (Some (DropLine id)) out = judged_passes (Drop id) (shelf_fault s (Drop id)) refl out
    said_passes (Some (GetLine id)) out = judged_passes (Get id) (shelf_fault s (Get id)) refl out

  -- all turns
  pub turns_pass : (vault after : VaultState) (s : Shelf) (turns : List Turn) → AreTurns f keys s turns → AreServed vault (passed_in turns) after → PassesAs vault after s (commands_in turns) (passed_in turns)
  turns_pass vault after s [] are served = passes-none vault after s [] refl served
  turns_pass vault after s (turn ∷ turns) are served =
      let parts = served-parts vault after turn.passed (passed_in turns) served in
      passes-both vault parts.0 after s turn.commands (commands_in turns) turn.passed (passed_in turns)
      (said_passes vault parts.0 s turn parts.1 (vault_line_of turn.line) are.0)
      (turns_pass parts.0 after (shelf_of s turn.commands) turns are.1 parts.2)

-- exchanges with a server that is told
pub served_told : (xs : List Exchange) (before : VaultRemote) (after : Option VaultRemote) → ServesAll xs (Some before) after → (told : VaultRemote) × (after ≡ Some told) × AreServed before.state xs told.state
served_told [] before after served = (before, served, refl)
served_told (x ∷ xs) before after served = by (λ between rest. served_told xs between after rest) served.0 served.1 served.2
  where
    by : ((between : VaultRemote) → ServesAll xs (Some between) after → (told : VaultRemote) × (after ≡ Some told) × AreServed between.state xs told.state)
        → (between : Option VaultRemote) → Serves x.frame x.reply (Some before) between → ServesAll xs between after → (told : VaultRemote) × (after ≡ Some told) × AreServed before.state (x ∷ xs) told.state
    by more None is rest = absurd is
    by more (Some between) is rest =
        let later = more between rest in
        (later.0, later.1, (between.state, is.honest, later.2))

-- what passed in a run's turns, over a link that tells its server
pub turns-honest : (f : KeyedFn) (keys : VaultSecrets) (s : Shelf) (turns : List Turn) (old new : LinkSight) → AreTurns f keys s turns → HasPassed (passed_in turns) old new
    → IfSome old.remote (λ before. PassesHonestly f keys s before.state (commands_in turns) (passed_in turns) new.remote)
turns-honest f keys s turns old new are passed = by old.remote passed.served
  where
    by : (remote : Option VaultRemote) → ServesAll (passed_in turns) remote new.remote → IfSome remote (λ before. PassesHonestly f keys s before.state (commands_in turns) (passed_in turns) new.remote)
    by None served = tt
    by (Some before) served =
        let told = served_told (passed_in turns) before new.remote served in
        let passes = turns_pass f keys before.state told.0.state s turns are told.2 in
        record {
          accepted = passes.accepted;
          session = passes.events;
          simulated = λ differ left. passes.events ∙ ap events_of_passed (session_is_simulated_from f keys differ (commands_in turns) before.state s left passes.accepted);
          state = subst (λ (r : Option VaultRemote). IfSome r (λ after. after.state ≡ vault_stepped before.state (frames_of f keys s (commands_in turns)))) (sym told.1) passes.state;
          left = λ differ left.
              subst (λ (r : Option VaultRemote). IfSome r (λ after. LeftBy f keys after.state (shelf_of s (commands_in turns)))) (sym told.1)
              (subst (λ (v : VaultState). LeftBy f keys v (shelf_of s (commands_in turns))) (sym passes.state) (stands_after f keys differ (commands_in turns) before.state s left passes.accepted));
        }
