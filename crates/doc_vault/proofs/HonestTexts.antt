-- Over a link that tells the server at its other end, turns print the texts that are there.
use Rattle.std.proofs.Common.{◌≡◌, inl, inr, ℕ, List, [], ◌∷◌, None, Some, flat_map, refl, sym, ap, ◌∙◌, subst}
use Rattle.std.specs.Prelude.{Option, IfSome, IsSome}
use Rattle.std.specs.Option.{option_and_then, option_map}
use Rattle.std.specs.List.{slice_get}
use Rattle.keyed_fn.specs.KeyedFn.{KeyedFn}
use Rattle.keyed_fn.specs.VaultFormulas.{VaultSecrets}
use Rattle.vault_server.specs.VaultFrames.{vault_bytes}
use Rattle.vault_server.specs.VaultState.{VaultState}
use Rattle.vault_link.specs.Exchanges.{Exchange}
use Rattle.vault_link.specs.Served.{AreServed, VaultRemote}
use Rattle.vault_shelf.specs.ShelfFaults.{shelf_fault}
use Rattle.vault_shelf.specs.Shelves.{Deposit, Shelf, VaultCommand, Put, Drop, Get, shelf_of}
use Rattle.vault_shelf.specs.Standing.{LeftBy}
use Rattle.vault_shelf.specs.VaultSessions.{SlotsDiffer, sent_by}
use Rattle.vault_shelf.specs.declared.shelf_fault.ShelfFault.{ShelfFault}
use Rattle.vault_shelf.proofs.SessionLaw.{stands_after}
use Rattle.vault_script.specs.VaultLines.{VaultLineText, EmptyLine, KeyLine, PutLine, DropLine, GetLine, vault_line_of}
use Rattle.vault_script.specs.VaultShown.{VaultShownText}
use Rattle.doc_vault.specs.CommandRuns.{HasFrame, IsExchanged}
use Rattle.doc_vault.specs.CommandViews.{command_said}
use Rattle.doc_vault.specs.HonestTexts.{PrintTheirTexts, accepted_line, judged_line, printed_by, text_line}
use Rattle.doc_vault.specs.Outcomes.{Shows, Stops, link_stop, memory_stop}
use Rattle.doc_vault.specs.Sights.{HasPassed, LinkSight, ServesAll}
use Rattle.doc_vault.specs.VaultRuns.{Turn, AreTurns, TakesSaid, IsAccepted, IsCarriedOut, IsGotten, IsJudged, passed_in}
use Rattle.doc_vault.proofs.HonestRun.{said_passes, served-parts, served_told}
use Rattle.doc_vault.proofs.RightReplies.{ComesFairly, answer_comes}

-- a line that is shown
shown_fairly : (f : KeyedFn) (keys : VaultSecrets) (s : Shelf) (c : VaultCommand) (shown : VaultShownText) → ComesFairly f keys s c (Shows shown) → shown ≡ accepted_line s c
shown_fairly f keys s c shown (inl is) = cc
shown_fairly f keys s c shown (inr (inl is)) = absurd (let no : Shows shown ≡ Stops link_stop = is in cc)
shown_fairly f keys s c shown (inr (inr is)) = absurd (let no : Shows shown ≡ Stops memory_stop = is in cc)

module _ (f : KeyedFn) (keys : VaultSecrets) (differ : SlotsDiffer f keys) where
  module _ (vault after : VaultState) (s : Shelf) (turn : Turn) (served : AreServed vault turn.passed after) (left : LeftBy f keys vault s) where
    carried_texts : (c : VaultCommand) → shelf_fault s c ≡ None → HasFrame s c → IsCarriedOut f keys s c turn → turn.shown ≡ accepted_line s c ∷ []
    carried_texts c fine has out =
        let exchanged : IsExchanged f keys s c turn.passed out.shown = out.exchanged in
        let frame = flat_map vault_bytes (sent_by f keys s c) in
        let one : AreServed vault (record { frame = frame; reply = Some exchanged.reply } ∷ []) after = subst (λ (l : List Exchange). AreServed vault l after) exchanged.are served in
        out.shown_is
        ∙ ap (λ (line : VaultShownText). line ∷ [])
        (shown_fairly f keys s c out.shown (answer_comes f keys vault one.0 s c exchanged.reply (Shows out.shown) differ left fine has exchanged.grammar one.1 exchanged.comes))

    gotten_texts : (id : ℕ) (put : Option ℕ) → s.there id ≡ put → shelf_fault s (Get id) ≡ None → IsGotten f keys put s id turn → turn.shown ≡ accepted_line s (Get id) ∷ []
    gotten_texts id None at fine out =
        out.shown_is
        ∙ ap (λ (m : Option ℕ). text_line id (option_and_then (λ put. option_map (λ (deposit : Deposit). deposit.body) (slice_get s.puts put)) m) ∷ []) (sym at)
    gotten_texts id (Some put) at fine out = carried_texts (Get id) fine (subst IsSome (sym at) refl) out

    accepted_texts : (c : VaultCommand) → shelf_fault s c ≡ None → IsAccepted f keys s c turn → turn.shown ≡ accepted_line s c ∷ []
    accepted_texts (Put id body) fine out = carried_texts (Put id body) fine tt out
    accepted_texts (Drop id) fine out = carried_texts (Drop id) fine tt out
    accepted_texts (Get id) fine out = gotten_texts id (s.there id) refl fine out

    judged_texts : (c : VaultCommand) (fault : Option ShelfFault) → shelf_fault s c ≡ fault → IsJudged f keys fault s c turn → turn.shown ≡ judged_line fault s c ∷ []
    judged_texts c None e out = accepted_texts c e out
    judged_texts c (Some fault) e out = out.shown_is

    said_texts : (said : Option VaultLineText) → TakesSaid f keys s said turn → turn.shown ≡ printed_by s (option_and_then command_said said)
    said_texts None out = absurd out
    said_texts (Some EmptyLine) out = ap (λ (t : Turn). t.shown) out
    said_texts (Some (KeyLine key)) out = absurd out
    said_texts (Some (PutLine id body)) out = judged_texts (Put id body) (shelf_fault s (Put id body)) refl out
    said_texts (Some (DropLine id)) out = judged_texts (Drop id) (shelf_fault s (Drop id)) refl out
    said_texts (Some (GetLine id)) out = judged_texts (Get id) (shelf_fault s (Get id)) refl out

  -- all turns
  turns_print : (vault after : VaultState) (s : Shelf) (turns : List Turn) → AreTurns f keys s turns → AreServed vault (passed_in turns) after → LeftBy f keys vault s → PrintTheirTexts s turns
  turns_print vault after s [] are served left = tt
  turns_print vault after s (turn ∷ turns) are served left =
      let parts = served-parts vault after turn.passed (passed_in turns) served in
      let passes = said_passes f keys vault parts.0 s turn parts.1 (vault_line_of turn.line) are.0 in
      let stands : LeftBy f keys parts.0 (shelf_of s turn.commands) = subst (λ (v : VaultState). LeftBy f keys v (shelf_of s turn.commands)) (sym passes.state) (stands_after f keys differ turn.commands vault s left passes.accepted) in
      (said_texts vault parts.0 s turn parts.1 left (vault_line_of turn.line) are.0, turns_print parts.0 after (shelf_of s turn.commands) turns are.1 parts.2 stands)

-- what a run's turns print, over a link that tells its server
pub turns-texts : (f : KeyedFn) (keys : VaultSecrets) (s : Shelf) (turns : List Turn) (old new : LinkSight) → AreTurns f keys s turns → HasPassed (passed_in turns) old new
    → IfSome old.remote (λ before. SlotsDiffer f keys → LeftBy f keys before.state s → PrintTheirTexts s turns)
turns-texts f keys s turns old new are passed = by old.remote passed.served
  where
    by : (remote : Option VaultRemote) → ServesAll (passed_in turns) remote new.remote → IfSome remote (λ before. SlotsDiffer f keys → LeftBy f keys before.state s → PrintTheirTexts s turns)
    by None served = tt
    by (Some before) served = λ differ left.
        let told = served_told (passed_in turns) before new.remote served in
        turns_print f keys differ before.state told.0.state s turns are told.2 left
