-- A first run over an honest link to an empty vault: no reply stops it, and if it is through, it did what its script means.
use Rattle.std.proofs.Common.{◌≡◌, inl, inr, ℕ, ◌≤◌, Bool, List, [], ◌∷◌, ◌++◌, None, Some, Result, Ok, Err, refl, sym, ap, ◌∙◌, append_assoc, subst, arith}
use Rattle.std.specs.Prelude.{Option, IfSome}
use Rattle.std.specs.Option.{option_map}
use Rattle.std.specs.Io.KnownBytes.{append_known}
use Rattle.std.proofs.lemmas.List.{append-nil}
use Rattle.keyed_fn.specs.KeyedFn.{KeyedFn}
use Rattle.keyed_fn.specs.VaultFormulas.{vault_secrets}
use Rattle.script_run_texts.specs.declared.input_stop.InputStop.{InputStop}
use Rattle.script_run_texts.specs.declared.input_stop.InputStop.TheVariants as inputs
use Rattle.script_run_texts.specs.declared.stop_cause.StopCause.TheVariants as runs
use Rattle.sse_outside.specs.Kept.{Kept, with_records}
use Rattle.sse_outside.specs.declared.device_fault.DeviceFault.TheVariants as devices
use Rattle.vault_server.specs.VaultFrames.{AskFrame, Next, vault_bytes, vault_reply_bytes}
use Rattle.vault_server.specs.VaultLeaks.{vault_simulate}
use Rattle.vault_server.specs.VaultState.{VaultState, empty_vault}
use Rattle.vault_link.specs.Exchanges.{Exchange, VaultEvent, SentBytes, ReceivedBytes, events_of, events_of_passed}
use Rattle.vault_link.specs.Served.{VaultRemote}
use Rattle.vault_shelf.specs.Shelves.{VaultCommand, empty_shelf, shelf_of}
use Rattle.vault_shelf.specs.Standing.{LeftBy}
use Rattle.vault_shelf.specs.VaultLeaking.{vault_leaks}
use Rattle.vault_shelf.specs.VaultSessions.{SlotsDiffer, vault_draws}
use Rattle.vault_shelf.proofs.SessionLaw.{at_first}
use Rattle.vault_script.specs.VaultShown.{VaultShownText}
use Rattle.vault_script.specs.VaultStops.{vault_status}
use Rattle.vault_script.specs.declared.vault_stop.VaultStop.{VaultStop}
use Rattle.vault_script.specs.declared.vault_stop.VaultStop.TheVariants as stops
use Rattle.doc_vault.specs.Beginnings.{FinishesUnder, IfEmpty, mark_records}
use Rattle.doc_vault.specs.FairStops.{AtInput, AtLink, AtMemory, AtRecord, AtSink, StopsFairly}
use Rattle.doc_vault.specs.Greetings.{greeting}
use Rattle.doc_vault.specs.HonestRuns.{PassesHonestly}
use Rattle.doc_vault.specs.HonestTexts.{PrintTheirTexts}
use Rattle.doc_vault.specs.Openings.{FindsKey}
use Rattle.doc_vault.specs.Scripts.{AtKeyLine, AtStart, FinishesScript, RunsScript, StopsScript, UnderKey}
use Rattle.doc_vault.specs.Sights.{HasPassed, LinkSight, Moves, ServesAll, Sight}
use Rattle.doc_vault.specs.VaultRuns.{Turn, commands_in, lines_in, passed_in, records_of_commands, shown_in, text_of_shown}
use Rattle.vault_client.specs.Endings.{run_status, status_through}
use Rattle.vault_client.specs.Meanings.{commands_meant, refuses_meant, shown_meant}
use Rattle.vault_client.specs.WholeRuns.{DidAsMeant, Headline, IfEmptyVault, SlotsDifferThere}
use Rattle.vault_client.proofs.EndsRun.{through_low}
use Rattle.vault_client.proofs.Meant.{commands-meant, refuses-meant, shown-meant}

-- No reply stops it.

-- the status of a stop that isn't for a reply
fair_input : (why : InputStop) → vault_status (stops.Run (runs.Input why)) ≤ 7
fair_input (inputs.Line number) = omega arith
fair_input inputs.Source = omega arith
fair_input inputs.Memory = omega arith

pub fair_status : (stop : VaultStop) → StopsFairly stop → vault_status stop ≤ 7
fair_status stop (AtInput why is) = subst (λ (st : VaultStop). vault_status st ≤ 7) (sym is) (fair_input why)
fair_status stop (AtRecord devices.Failed is) = omega (arith, ap vault_status is)
fair_status stop (AtRecord devices.NoMemory is) = omega (arith, ap vault_status is)
fair_status stop (AtSink devices.Failed is) = omega (arith, ap vault_status is)
fair_status stop (AtSink devices.NoMemory is) = omega (arith, ap vault_status is)
fair_status stop (AtMemory is) = omega (arith, ap vault_status is)
fair_status stop (AtLink (inl is)) = omega (arith, ap vault_status is)
fair_status stop (AtLink (inr is)) = omega (arith, ap vault_status is)

-- a vault that holds nothing is as a client without texts leaves it
empty_stands : (f : KeyedFn) (key : List ℕ) (vault : VaultState) → vault ≡ empty_vault → LeftBy f (vault_secrets f key) vault empty_shelf
empty_stands f key vault empty = subst (λ (v : VaultState). LeftBy f (vault_secrets f key) v empty_shelf) (sym empty) (at_first f (vault_secrets f key))

empty_given : (remote : Option VaultRemote) (P : Type 0) → P → IfEmptyVault remote P
empty_given None P holds = tt
empty_given (Some before) P holds = λ empty. holds

module _ (f : KeyedFn) (left : Option (List (List ℕ))) (now end : Sight) where
  stopped_honest : (stop : VaultStop) → StopsScript f left now end stop → IfEmptyVault now.link.remote (SlotsDifferThere f left → vault_status stop ≤ 7)
  stopped_honest stop (AtStart is same) = empty_given now.link.remote _ (λ differ. omega (arith, ap vault_status is))
  stopped_honest stop (AtKeyLine why is misses same) = empty_given now.link.remote _ (λ differ. subst (λ (st : VaultStop). vault_status st ≤ 7) (sym is) (fair_input why))
  stopped_honest stop (UnderKey key number left_over finds stopped) = by now.link.remote stopped.fair
    where
      by : (remote : Option VaultRemote) → IfEmpty f key remote (StopsFairly stop) → IfEmptyVault remote (SlotsDifferThere f left → vault_status stop ≤ 7)
      by None fair = tt
      by (Some before) fair = λ empty differ.
          fair_status stop (fair (differ key number left_over finds) (empty_stands f key before.state empty))

  pub honest-run : (ended : Result Bool VaultStop) → RunsScript f left now end ended → IfEmptyVault now.link.remote (SlotsDifferThere f left → run_status ended ≤ 7)
  honest-run (Ok refused) runs = empty_given now.link.remote _ (λ differ. omega (arith, through_low refused))
  honest-run (Err stop) runs = stopped_honest stop runs

-- It did what its script means.

-- an exchange, and then others
passed-first : (x : Exchange) (later : List Exchange) (old mid new : LinkSight) → HasPassed (x ∷ []) old mid → HasPassed later mid new → HasPassed (x ∷ later) old new
passed-first x later old mid new first rest = record {
  told = rest.told ∙ ap (option_map (λ all. all ++ later)) first.told ∙ twice old.told;
  served = (first.served.0, first.served.1, subst (λ (r : Option VaultRemote). ServesAll later r new.remote) first.served.2 rest.served);
}
  where
    twice : (known : Option (List Exchange)) → option_map (λ all. all ++ later) (option_map (λ all. all ++ x ∷ []) known) ≡ option_map (λ all. all ++ x ∷ later) known
    twice None = refl
    twice (Some all) = ap Some (append_assoc all (x ∷ []) later)

-- records, and then others
with_records-twice : (first later : List (List ℕ)) (kept : Kept) → with_records later (with_records first kept) ≡ with_records (first ++ later) kept
with_records-twice first later kept = by kept.records
  where
    by : (records : Option (List (List ℕ))) → with_records later (with_records first (record { records = records; refused = kept.refused })) ≡ with_records (first ++ later) (record { records = records; refused = kept.refused })
    by None = refl
    by (Some all) = ap (λ (l : List (List ℕ)). record { records = Some l; refused = kept.refused }) (append_assoc all first later)

some_inside : (a b : List (List ℕ)) → Some a ≡ Some b → a ≡ b
some_inside a b e = cc

-- the lines that were taken are all that there were
all_lines : (turns : List Turn) (rest : List (List ℕ)) (left left_over : Option (List (List ℕ))) → left ≡ Some rest → left ≡ option_map (λ more. lines_in turns ++ more) left_over → IfSome left_over (λ lines. lines ≡ []) → rest ≡ lines_in turns
all_lines turns rest left None is taken none = absurd (let no : Some rest ≡ None = sym is ∙ taken in cc)
all_lines turns rest left (Some more) is taken none = some_inside rest (lines_in turns ++ more) (sym is ∙ taken) ∙ ap (λ (l : List (List ℕ)). lines_in turns ++ l) none ∙ append-nil (lines_in turns)

module _ (f : KeyedFn) (key : List ℕ) where
  module _ (number : ℕ) (left : Option (List (List ℕ))) (now end : Sight) (refused : Bool) (run : FinishesUnder f key number left now end refused) where
    abbrev turns : List Turn
    turns = run.lines.run.turns

    abbrev cs : List VaultCommand
    cs = commands_in run.lines.run.turns

    moves : Moves (greeting (Some run.begins.greeted.reply) ∷ passed_in turns) (mark_records f key ++ records_of_commands cs) (text_of_shown (shown_in turns)) now end
    moves = record {
      link = passed-first (greeting (Some run.begins.greeted.reply)) (passed_in turns) now.link run.begun.link end.link run.begins.greeted.passed run.lines.run.moves.link;
      kept = run.lines.run.moves.kept ∙ ap (with_records (records_of_commands cs)) run.begins.marked ∙ with_records-twice (mark_records f key) (records_of_commands cs) now.kept;
      written = run.lines.run.moves.written ∙ ap (λ (w : Option (List ℕ)). append_known w (text_of_shown (shown_in turns))) run.unprinted;
    }

    -- the same over the vault as it was before the question
    honest : IfSome now.link.remote (λ before. PassesHonestly f (vault_secrets f key) empty_shelf before.state cs (passed_in turns) end.link.remote)
    honest = subst (λ (r : Option VaultRemote). IfSome r (λ before. PassesHonestly f (vault_secrets f key) empty_shelf before.state cs (passed_in turns) end.link.remote)) run.begins.greeted.unmoved run.lines.honest

    did : (last : Sight) (status : ℕ) (rest : List (List ℕ)) (before : VaultRemote) → left ≡ Some rest → last.link ≡ end.link → last.kept ≡ end.kept → last.written ≡ end.written → status ≡ status_through refused
        → SlotsDiffer f (vault_secrets f key) → LeftBy f (vault_secrets f key) before.state empty_shelf → PrintTheirTexts empty_shelf turns
        → PassesHonestly f (vault_secrets f key) empty_shelf before.state cs (passed_in turns) end.link.remote → DidAsMeant f key rest now last status
    did last status rest before is link kept written status_is differ empty prints passes =
        let lines : rest ≡ lines_in turns = all_lines turns rest left run.lines.left_over is run.lines.run.lines run.lines.end in
        let commands : cs ≡ commands_meant empty_shelf rest = commands-meant f (vault_secrets f key) empty_shelf turns run.lines.run.are ∙ ap (commands_meant empty_shelf) (sym lines) in
        let shown : shown_in turns ≡ shown_meant empty_shelf rest = shown-meant f (vault_secrets f key) empty_shelf turns run.lines.run.are prints ∙ ap (shown_meant empty_shelf) (sym lines) in
        let refuses : refused ≡ refuses_meant empty_shelf rest =
        run.lines.run.refuses ∙ refuses-meant f (vault_secrets f key) empty_shelf turns run.lines.run.are prints ∙ ap (refuses_meant empty_shelf) (sym lines) in
        record {
          status_is = status_is ∙ ap status_through refuses;
          printed = written ∙ moves.written ∙ ap (λ (s : List VaultShownText). append_known now.written (text_of_shown s)) shown;
          kept = kept ∙ moves.kept ∙ ap (λ (c : List VaultCommand). with_records (mark_records f key ++ records_of_commands c) now.kept) commands;
          passed = greeting (Some run.begins.greeted.reply) ∷ passed_in turns;
          seen = subst (λ (l : LinkSight). HasPassed (greeting (Some run.begins.greeted.reply) ∷ passed_in turns) now.link l) (sym link) moves.link;
          simulated =
              ap (λ (reply : List ℕ). SentBytes (vault_bytes AskFrame) ∷ ReceivedBytes reply ∷ events_of (passed_in turns)) run.begins.greeted.said.spelled
              ∙ ap (λ (events : List VaultEvent). SentBytes (vault_bytes AskFrame) ∷ ReceivedBytes (vault_reply_bytes (Next 0)) ∷ events) (passes.simulated differ empty)
              ∙ ap (λ (c : List VaultCommand). events_of_passed (vault_simulate (vault_leaks empty_shelf c) (vault_draws f (vault_secrets f key) c))) commands;
          stands =
              subst (λ (l : LinkSight). IfSome l.remote (λ after. LeftBy f (vault_secrets f key) after.state (shelf_of empty_shelf (commands_meant empty_shelf rest)))) (sym link)
              (subst (λ (c : List VaultCommand). IfSome end.link.remote (λ after. LeftBy f (vault_secrets f key) after.state (shelf_of empty_shelf c))) commands (passes.left differ empty));
        }

-- the whole of a run that is through
pub headline-run : (f : KeyedFn) (left : Option (List (List ℕ))) (now end last : Sight) (status : ℕ) (refused : Bool) → FinishesScript f left now end refused → last.link ≡ end.link → last.kept ≡ end.kept → last.written ≡ end.written
    → status ≡ status_through refused → IfEmptyVault now.link.remote (SlotsDifferThere f left → IfSome left (λ lines. Headline f lines now last status))
headline-run f left now end last status refused through link kept written status_is = by now.link.remote (honest f through.key through.number through.left_over now end refused through.runs) through.runs.texts
  where
    under : (before : VaultRemote) → SlotsDiffer f (vault_secrets f through.key) → LeftBy f (vault_secrets f through.key) before.state empty_shelf → PrintTheirTexts empty_shelf through.runs.lines.run.turns
        → PassesHonestly f (vault_secrets f through.key) empty_shelf before.state (commands_in through.runs.lines.run.turns) (passed_in through.runs.lines.run.turns) end.link.remote
        → (all : Option (List (List ℕ))) → FindsKey 1 all through.key through.number through.left_over → IfSome all (λ lines. Headline f lines now last status)
    under before differ empty prints passes None finds = tt
    under before differ empty prints passes (Some lines) finds = record {
      key = through.key;
      number = through.number;
      lines = finds.0;
      finds = (finds.0, refl, finds.2);
      did = did f through.key through.number through.left_over now end refused through.runs last status finds.0 before finds.1 link kept written status_is differ empty prints passes;
    }

    by : (remote : Option VaultRemote) → IfSome remote (λ before. PassesHonestly f (vault_secrets f through.key) empty_shelf before.state (commands_in through.runs.lines.run.turns) (passed_in through.runs.lines.run.turns) end.link.remote) → IfEmpty f through.key remote (PrintTheirTexts empty_shelf through.runs.lines.run.turns)
        → IfEmptyVault remote (SlotsDifferThere f left → IfSome left (λ lines. Headline f lines now last status))
    by None passes prints = tt
    by (Some before) passes prints = λ empty differ.
        let slots = differ through.key through.number through.left_over through.finds in
        let none = empty_stands f through.key before.state empty in
        under before slots none (prints slots none) passes left through.finds
