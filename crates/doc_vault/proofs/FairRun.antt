-- Over a link that tells the server at its other end, which stands as the client left it, no reply stops a run.
use Rattle.std.proofs.Common.{◌≡◌, inl, inr, ℕ, List, [], ◌∷◌, None, Some, flat_map, sym, subst}
use Rattle.std.specs.Prelude.{Option, IfSome}
use Rattle.std.specs.List.{AllByRecursion}
use Rattle.keyed_fn.specs.KeyedFn.{KeyedFn}
use Rattle.keyed_fn.specs.VaultFormulas.{VaultSecrets}
use Rattle.script_run_texts.specs.declared.input_stop.InputStop.TheVariants as inputs
use Rattle.sse_outside.specs.Kept.{Kept}
use Rattle.vault_server.specs.VaultFrames.{InVault, vault_bytes}
use Rattle.vault_server.specs.VaultState.{VaultState}
use Rattle.vault_link.specs.Served.{IsAnswered, VaultRemote}
use Rattle.vault_shelf.specs.ShelfFaults.{shelf_fault}
use Rattle.vault_shelf.specs.Shelves.{Shelf, VaultCommand, shelf_of}
use Rattle.vault_shelf.specs.Standing.{LeftBy}
use Rattle.vault_shelf.specs.VaultSessions.{SlotsDiffer, sent_by}
use Rattle.vault_shelf.proofs.SessionLaw.{stands_after}
use Rattle.vault_script.specs.declared.vault_stop.VaultStop.{VaultStop}
use Rattle.doc_vault.specs.CommandRuns as does
use Rattle.doc_vault.specs.CommandRuns.{HasFrame, StopsCommand, StopsExchange, StopsKeeping, exchange_of}
use Rattle.doc_vault.specs.FairStops.{AtInput, AtLink, AtMemory, AtRecord, AtSink, StopsFairly}
use Rattle.doc_vault.specs.HonestTexts.{accepted_line}
use Rattle.doc_vault.specs.LineRuns.{InCommand, StopsTurn, Unprinted}
use Rattle.doc_vault.specs.Outcomes.{ComesTo, Shows, Stops, command_outcome, link_stop, memory_stop}
use Rattle.doc_vault.specs.ScriptRuns.{AtBadLine, AtCommand, InLine, StopsAfter, StopsLine, Unread}
use Rattle.doc_vault.specs.Sights.{HasPassed, LinkSight, ServesAll, Sight}
use Rattle.doc_vault.specs.VaultRuns.{AreTurns, Turn, commands_in, passed_in}
use Rattle.doc_vault.proofs.HonestRun.{served_told, turns_pass}
use Rattle.doc_vault.proofs.RightReplies.{ComesFairly, answer_comes}

module _ (f : KeyedFn) (keys : VaultSecrets) (differ : SlotsDiffer f keys) (told : VaultRemote) (s : Shelf) (left : LeftBy f keys told.state s) where
  module _ (c : VaultCommand) where
    -- a stop at a reply
    stopped_fairly : (stop : VaultStop) → ComesFairly f keys s c (Stops stop) → StopsFairly stop
    stopped_fairly stop (inl is) = absurd (let no : Stops stop ≡ Shows (accepted_line s c) = is in cc)
    stopped_fairly stop (inr (inl is)) = AtLink (inl (let same : stop ≡ link_stop = cc in same))
    stopped_fairly stop (inr (inr is)) = AtLink (inr (let same : stop ≡ memory_stop = cc in same))

    reply_fair : (remote : Option VaultRemote) (reply : List ℕ) (stop : VaultStop) → shelf_fault s c ≡ None → HasFrame s c → AllByRecursion InVault (sent_by f keys s c)
        → ServesAll (exchange_of f keys s c (Some reply) ∷ []) (Some told) remote → ComesTo (command_outcome f keys s c) reply (Stops stop) → StopsFairly stop
    reply_fair remote reply stop fine has grammar served comes =
        let after = served_told (exchange_of f keys s c (Some reply) ∷ []) told remote served in
        let answer : IsAnswered told.state (flat_map vault_bytes (sent_by f keys s c)) reply after.2.0 = after.2.1 in
        stopped_fairly stop (answer_comes f keys told.state after.2.0 s c reply (Stops stop) differ left fine has grammar answer comes)

    exchange_fair : (old new : LinkSight) (stop : VaultStop) → old.remote ≡ Some told → shelf_fault s c ≡ None → HasFrame s c → StopsExchange f keys s c old new stop → StopsFairly stop
    exchange_fair old new stop tells fine has (does.Unsent (inl is) same) = AtLink (inl is)
    exchange_fair old new stop tells fine has (does.Unsent (inr is) same) = AtLink (inr is)
    exchange_fair old new stop tells fine has (does.Unanswered is passed) = AtLink (inl is)
    exchange_fair old new stop tells fine has (does.Unread reply is passed) = AtMemory is
    exchange_fair old new stop tells fine has (does.Unfit reply passed grammar comes) =
        reply_fair new.remote reply stop fine has grammar (subst (λ (r : Option VaultRemote). ServesAll (exchange_of f keys s c (Some reply) ∷ []) r new.remote) tells passed.served) comes

    keeping_fair : (records : List (List ℕ)) (kept kept' : Kept) (stop : VaultStop) → StopsKeeping records kept kept' stop → StopsFairly stop
    keeping_fair records kept kept' stop (does.NoRoom is same) = AtMemory is
    keeping_fair records kept kept' stop (does.NotTaken fault is now) = AtRecord fault is

    command_fair : (old new : LinkSight) (kept kept' : Kept) (stop : VaultStop) → old.remote ≡ Some told → shelf_fault s c ≡ None → HasFrame s c → StopsCommand f keys s c old new kept kept' stop → StopsFairly stop
    command_fair old new kept kept' stop tells fine has (does.Unprepared is same kept_same) = AtMemory is
    command_fair old new kept kept' stop tells fine has (does.Unkept keeping same) = keeping_fair _ kept kept' stop keeping
    command_fair old new kept kept' stop tells fine has (does.Cut stops now) = exchange_fair old new stop tells fine has stops

    turn_fair : (line : List ℕ) (old new : Sight) (stop : VaultStop) → old.link.remote ≡ Some told → StopsTurn f keys s c line old new stop → StopsFairly stop
    turn_fair line old new stop tells (InCommand fine has stops same) = command_fair old.link new.link old.kept new.kept stop tells fine has stops
    turn_fair line old new stop tells (Unprinted turn is taken passed now stops) = AtSink stops.fault stops.stop_is

  line_fair : (number : ℕ) (line : List ℕ) (old new : Sight) (stop : VaultStop) → old.link.remote ≡ Some told → StopsLine f keys s number line old new stop → StopsFairly stop
  line_fair number line old new stop tells (AtBadLine is bad same) = AtInput (inputs.Line number) is
  line_fair number line old new stop tells (AtCommand c said stops) = turn_fair c line old new stop tells stops

  after_fair : (number : ℕ) (rest : Option (List (List ℕ))) (old new : Sight) (stop : VaultStop) → old.link.remote ≡ Some told → StopsAfter f keys s number rest old new stop → StopsFairly stop
  after_fair number rest old new stop tells (InLine line rest' takes stops) = line_fair number line old new stop tells stops
  after_fair number rest old new stop tells (Unread why unread is same) = AtInput why is

-- a run that stops after its turns, over a link that tells its server
pub stops-fairly : (f : KeyedFn) (keys : VaultSecrets) (s : Shelf) (turns : List Turn) (number : ℕ) (rest : Option (List (List ℕ))) (old between new : Sight) (stop : VaultStop) → AreTurns f keys s turns → HasPassed (passed_in turns) old.link between.link
    → StopsAfter f keys (shelf_of s (commands_in turns)) number rest between new stop
    → IfSome old.link.remote (λ before. SlotsDiffer f keys → LeftBy f keys before.state s → StopsFairly stop)
stops-fairly f keys s turns number rest old between new stop are passed stops = by old.link.remote passed.served
  where
    by : (remote : Option VaultRemote) → ServesAll (passed_in turns) remote between.link.remote → IfSome remote (λ before. SlotsDiffer f keys → LeftBy f keys before.state s → StopsFairly stop)
    by None served = tt
    by (Some before) served = λ differ left.
        let told = served_told (passed_in turns) before between.link.remote served in
        let passes = turns_pass f keys before.state told.0.state s turns are told.2 in
        let stands : LeftBy f keys told.0.state (shelf_of s (commands_in turns)) =
        subst (λ (v : VaultState). LeftBy f keys v (shelf_of s (commands_in turns))) (sym passes.state) (stands_after f keys differ (commands_in turns) before.state s left passes.accepted) in
        after_fair f keys differ told.0 (shelf_of s (commands_in turns)) stands number rest between new stop told.1 stops
