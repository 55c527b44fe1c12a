-- A run that resumes under a key, after these commands: the server catches up, one line says so, and then come the lines of the script.
use Rattle.std.specs.Prelude.{◌≡◌, ℕ, Bool, List, [], ◌∷◌, ◌++◌, length, Option, IfSome, Result, Ok, Err}
use Rattle.keyed_fn.specs.KeyFormulas.{mark_of}
use Rattle.keyed_fn.specs.KeyedFn.{KeyedFn}
use Rattle.keyed_fn.specs.VaultFormulas.{VaultSecrets, vault_secrets}
use Rattle.sse_outside.specs.Kept.{Kept}
use Rattle.vault_link.specs.Exchanges.{Exchange, events_of, events_of_passed}
use Rattle.vault_link.specs.Served.{VaultRemote}
use Rattle.vault_server.specs.VaultLeaks.{vault_simulate}
use Rattle.vault_server.specs.VaultState.{VaultState}
use Rattle.vault_shelf.specs.ClientRecords.{AreRecorded, VaultOpens}
use Rattle.vault_shelf.specs.ShelfFaults.{AreAccepted}
use Rattle.vault_shelf.specs.Shelves.{VaultCommand, empty_shelf, without_gets}
use Rattle.vault_shelf.specs.VaultLeaking.{vault_leaks}
use Rattle.vault_shelf.specs.VaultSessions.{SlotsDiffer, vault_draws}
use Rattle.vault_script.specs.VaultShown.{Resumed}
use Rattle.vault_script.specs.declared.vault_stop.VaultStop.{VaultStop}
use Rattle.vault_shelf.specs.ShelfView.{ShelfView}
use Rattle.doc_vault.specs.FairStops.{StopsFairly}
use Rattle.doc_vault.specs.HonestRuns.{PassesHonestly}
use Rattle.doc_vault.specs.HonestTexts.{PrintTheirTexts}
use Rattle.doc_vault.specs.LineRuns.{HasPrinted, StopsPrinting}
use Rattle.doc_vault.specs.ScriptRuns.{FinishesRun, StopsRun}
use Rattle.doc_vault.specs.Outcomes.{own_memory_stop}
use Rattle.doc_vault.specs.Sights.{Sight}
use Rattle.doc_vault.specs.VaultRuns.{Turn, commands_in, passed_in}
use Rattle.vault_client.specs.CatchingUp.{HasCaughtUp, KeepsLast, MissesAtMostOne, StopsCatchingUp, left_by}

-- these commands were kept under a key, each accepted after those before it; if the records are told, they are those of the key's mark and the commands
pub record AreKept (f : KeyedFn) (key : List ℕ) (kept : Kept) (cs : List VaultCommand) : Type 0 where
  pub recorded : AreRecorded cs
  pub accepted : AreAccepted empty_shelf cs
  pub opens : IfSome kept.records (λ payloads. VaultOpens (mark_of f key) payloads cs)

-- what a run resumes from: the keys of the vault under a key, and a shelf of commands that were kept under it, the last of them apart
pub record IsRestored (f : KeyedFn) (key : List ℕ) (kept : Kept) (keys : VaultSecrets) (view : ShelfView) (last : List ℕ) (cs : List VaultCommand) : Type 0 where
  pub keys_are : keys ≡ vault_secrets f key
  pub commands : AreKept f key kept cs
  pub apart : KeepsLast view last cs

module _ (f : KeyedFn) (keys : VaultSecrets) (cs : List VaultCommand) where
  -- What passed after the question, if the vault was as the commands left it, or all but the last. These exchanges passed for the one that was
  -- missing, and then these turns.
  pub record ResumesHonestly (vault : VaultState) (m : MissesAtMostOne f keys cs vault) (frames : ℕ) (again : List Exchange) (turns : List Turn) (remote' : Option VaultRemote) : Type 0 where
    pub frames_are : frames ≡ length m.missing
    -- it passed as the session of the missing command and of the turns' commands does
    pub honest : PassesHonestly f keys (left_by m.earlier) vault (m.missing ++ commands_in turns) (again ++ passed_in turns) remote'
    -- a get prints the text of the identifier's last put, those of the earlier commands among them
    pub texts : PrintTheirTexts (left_by cs) turns
    -- whatever gets stood among the earlier commands, it is the rest of what the simulator makes of the whole history
    pub rest : (whole : List VaultCommand) → without_gets whole ≡ m.earlier →
        let all = whole ++ (m.missing ++ commands_in turns) in
        events_of_passed (vault_simulate (vault_leaks empty_shelf all) (vault_draws f keys all))
        ≡ events_of_passed (vault_simulate (vault_leaks empty_shelf whole) (vault_draws f keys all)) ++ events_of (again ++ passed_in turns)

  -- the same if the link tells its server
  abbrev pub IsHonestRest : (remote : Option VaultRemote) (frames : ℕ) (again : List Exchange) (turns : List Turn) (remote' : Option VaultRemote) → Type 0
  IsHonestRest remote frames again turns remote' =
      IfSome remote (λ before. SlotsDiffer f keys → (m : MissesAtMostOne f keys cs before.state) → ResumesHonestly before.state m frames again turns remote')

  -- the server caught up, and the line that says so was printed; no record was kept
  pub record HasResumed (again : List Exchange) (frames : ℕ) (old new : Sight) : Type 0 where
    pub caught : HasCaughtUp f keys cs again frames old.link new.link
    pub unkept : new.kept ≡ old.kept
    pub printed : HasPrinted (Resumed frames ∷ []) old.written new.written

  -- the run is through: it resumed, and no line is left
  pub record FinishesResumed (number : ℕ) (left : Option (List (List ℕ))) (old new : Sight) (refused : Bool) : Type 0 where
    pub frames : ℕ
    pub again : List Exchange
    pub resumed : Sight
    pub resumes : HasResumed again frames old resumed
    pub view : ShelfView
    pub lines : FinishesRun f keys (left_by cs) number left resumed new view refused
    pub honest : IsHonestRest old.link.remote frames again lines.run.turns new.link.remote

  -- the run stops in its lines, after it resumed
  pub record StopsInLines (number : ℕ) (left : Option (List (List ℕ))) (old new : Sight) (stop : VaultStop) : Type 0 where
    pub frames : ℕ
    pub again : List Exchange
    pub resumed : Sight
    pub resumes : HasResumed again frames old resumed
    pub lines : StopsRun f keys (left_by cs) number left resumed new stop
    pub honest : IsHonestRest old.link.remote frames again lines.run.turns lines.between.link.remote

  -- or it stops out of memory before the question; before the server caught up; as the line is printed; or in its lines
  pub data StopsSomewhere (number : ℕ) (left : Option (List (List ℕ))) (old new : Sight) (stop : VaultStop) : Type 0 where
    Unready : stop ≡ own_memory_stop → new ≡ old → StopsSomewhere number left old new stop
    BeforeLine : StopsCatchingUp f keys cs old.link new.link stop → new.kept ≡ old.kept → new.written ≡ old.written → StopsSomewhere number left old new stop
    AtLine : (again : List Exchange) (frames : ℕ) → HasCaughtUp f keys cs again frames old.link new.link → new.kept ≡ old.kept → StopsPrinting (Resumed frames ∷ []) old.written new.written stop → StopsSomewhere number left old new stop
    InLines : StopsInLines number left old new stop → StopsSomewhere number left old new stop

  pub record StopsResumed (number : ℕ) (left : Option (List (List ℕ))) (old new : Sight) (stop : VaultStop) : Type 0 where
    pub where_is : StopsSomewhere number left old new stop
    -- if the link tells its server, and its vault was as the commands left it, or all but the last, no reply stops the run
    pub fair : IfSome old.link.remote (λ before. SlotsDiffer f keys → MissesAtMostOne f keys cs before.state → StopsFairly stop)

  -- one of the two
  abbrev pub Resumes : (number : ℕ) (left : Option (List (List ℕ))) (old new : Sight) → Result Bool VaultStop → Type 0
  Resumes number left old new (Ok refused) = FinishesResumed number left old new refused
  Resumes number left old new (Err stop) = StopsResumed number left old new stop
