-- A first run of a script under a key: the question, the mark of the key, and the lines.
use Rattle.std.specs.Prelude.{◌≡◌, ℕ, Bool, List, [], ◌∷◌, Option, IfSome, Result, Ok, Err}
use Rattle.keyed_fn.specs.KeyFormulas.{mark_of}
use Rattle.keyed_fn.specs.KeyedFn.{KeyedFn}
use Rattle.keyed_fn.specs.VaultFormulas.{vault_secrets}
use Rattle.sse_outside.specs.Kept.{Kept, with_records}
use Rattle.vault_shelf.specs.ClientRecords.{mark_record}
use Rattle.vault_link.specs.Served.{VaultRemote}
use Rattle.vault_shelf.specs.Shelves.{empty_shelf}
use Rattle.vault_shelf.specs.Standing.{LeftBy}
use Rattle.vault_shelf.specs.VaultSessions.{SlotsDiffer}
use Rattle.vault_script.specs.declared.vault_stop.VaultStop.{VaultStop}
use Rattle.vault_shelf.specs.ShelfView.{ShelfView}
use Rattle.doc_vault.specs.CommandRuns.{StopsKeeping}
use Rattle.doc_vault.specs.Greetings.{HasSaid, StopsGreeting}
use Rattle.doc_vault.specs.FairStops.{StopsFairly}
use Rattle.doc_vault.specs.HonestTexts.{PrintTheirTexts}
use Rattle.doc_vault.specs.ScriptRuns.{FinishesRun, StopsRun}
use Rattle.doc_vault.specs.Sights.{LinkSight, Sight}

module _ (f : KeyedFn) (key : List ℕ) where
  -- the record of the key's mark
  abbrev pub mark_records : List (List ℕ)
  mark_records = mark_record (mark_of f key) ∷ []

  -- the server expects the first update, and the mark of the key was kept
  pub record HasBegun (old new : LinkSight) (kept kept' : Kept) : Type 0 where
    pub greeted : HasSaid 0 old new
    pub marked : kept' ≡ with_records mark_records kept

  -- or the run stops before that
  pub data StopsBeginning (old new : LinkSight) (kept kept' : Kept) (stop : VaultStop) : Type 0 where
    NotGreeted : StopsGreeting old new stop → kept' ≡ kept → StopsBeginning old new kept kept' stop
    NotMarked : HasSaid 0 old new → StopsKeeping mark_records kept kept' stop → StopsBeginning old new kept kept' stop

  -- one of the two
  abbrev pub Begins : {T : Type 0} → (old new : LinkSight) (kept kept' : Kept) → Result T VaultStop → Type 0
  Begins old new kept kept' (Ok done) = HasBegun old new kept kept'
  Begins old new kept kept' (Err stop) = StopsBeginning old new kept kept' stop

  -- the link tells its server, which stands as a client without texts leaves it under this key, as an empty vault does
  abbrev pub IfEmpty : Option VaultRemote → Type 0 → Type 0
  IfEmpty remote fact = IfSome remote (λ before. SlotsDiffer f (vault_secrets f key) → LeftBy f (vault_secrets f key) before.state empty_shelf → fact)

  -- a run that is through: it began, and then its lines were taken, from a client that knows of no text
  pub record FinishesUnder (number : ℕ) (left : Option (List (List ℕ))) (old new : Sight) (refused : Bool) : Type 0 where
    pub begun : Sight
    pub begins : HasBegun old.link begun.link old.kept begun.kept
    pub unprinted : begun.written ≡ old.written
    pub view : ShelfView
    pub lines : FinishesRun f (vault_secrets f key) empty_shelf number left begun new view refused
    -- if the vault was empty before the question, each get printed the text of its identifier's last put
    pub texts : IfEmpty old.link.remote (PrintTheirTexts empty_shelf lines.run.turns)

  -- a run that stops in its lines: it began, and then it took the first of them
  pub record StopsInLines (number : ℕ) (left : Option (List (List ℕ))) (old new : Sight) (stop : VaultStop) : Type 0 where
    pub begun : Sight
    pub begins : HasBegun old.link begun.link old.kept begun.kept
    pub unprinted : begun.written ≡ old.written
    pub lines : StopsRun f (vault_secrets f key) empty_shelf number left begun new stop
    -- the same of the lines before the stop
    pub texts : IfEmpty old.link.remote (PrintTheirTexts empty_shelf lines.run.turns)

  -- where a run stops: before its lines, or in them
  pub data StopsAt (number : ℕ) (left : Option (List (List ℕ))) (old new : Sight) (stop : VaultStop) : Type 0 where
    AtBeginning : StopsBeginning old.link new.link old.kept new.kept stop → new.written ≡ old.written → StopsAt number left old new stop
    InLines : StopsInLines number left old new stop → StopsAt number left old new stop

  -- a run that stops. If the vault was empty before the question, no reply stops it
  pub record StopsUnder (number : ℕ) (left : Option (List (List ℕ))) (old new : Sight) (stop : VaultStop) : Type 0 where
    pub at : StopsAt number left old new stop
    pub fair : IfEmpty old.link.remote (StopsFairly stop)

  -- one of the two
  abbrev pub RunsUnder : (number : ℕ) (left : Option (List (List ℕ))) (old new : Sight) → Result Bool VaultStop → Type 0
  RunsUnder number left old new (Ok refused) = FinishesUnder number left old new refused
  RunsUnder number left old new (Err stop) = StopsUnder number left old new stop
