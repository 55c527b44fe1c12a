-- A run that resumes, by what its parts came to.
use Rattle.std.proofs.Common.{◌≡◌, ℕ, Bool, List, [], ◌∷◌, Ok, Err, refl, sym, subst}
use Rattle.std.specs.Prelude.{Option, IfSome, Result}
use Rattle.std.specs.Result.{IsErrAnd}
use Rattle.keyed_fn.specs.KeyedFn.{KeyedFn}
use Rattle.keyed_fn.specs.VaultFormulas.{VaultSecrets, vault_secrets}
use Rattle.vault_link.specs.Exchanges.{Exchange}
use Rattle.vault_shelf.specs.ClientRecords.{AreRecorded}
use Rattle.vault_shelf.specs.ShelfFaults.{AreAccepted}
use Rattle.vault_shelf.specs.Shelves.{VaultCommand, empty_shelf}
use Rattle.vault_shelf.specs.Standing.{LeftBy}
use Rattle.vault_shelf.specs.VaultSessions.{SlotsDiffer}
use Rattle.vault_script.specs.VaultShown.{Resumed}
use Rattle.vault_script.specs.declared.vault_stop.VaultStop.{VaultStop}
use Rattle.vault_shelf.specs.ShelfView.{ShelfView}
use Rattle.doc_vault.specs.FairStops.{AtMemory, AtSink, StopsFairly}
use Rattle.doc_vault.specs.HonestTexts.{PrintTheirTexts}
use Rattle.doc_vault.specs.LineRuns.{StopsPrinting}
use Rattle.doc_vault.specs.Outcomes.{own_memory_stop}
use Rattle.doc_vault.specs.ScriptRuns.{RunsOrStops}
use Rattle.doc_vault.specs.Sights.{HasPassed, LinkSight, Sight}
use Rattle.doc_vault.specs.VaultRuns.{AreTurns, Turn, passed_in}
use Rattle.vault_client.specs.CatchingUp.{HasCaughtUp, StopsCatchingUp, left_by}
use Rattle.vault_client.specs.Resumptions.{AtLine, BeforeLine, HasResumed, InLines, IsHonestRest, Resumes, Unready}
use Rattle.vault_client.proofs.HonestlyResumed.{catching_fair, caught_supplied, of_told, resumes_honestly, supplied_left, told_is}

module _ (f : KeyedFn) (keys : VaultSecrets) (cs : List VaultCommand) (recorded : AreRecorded cs) (accepted : AreAccepted empty_shelf cs) (number : ℕ) (left : Option (List (List ℕ))) where
  -- out of memory before the question
  pub resumes-unready : (sight : Sight) (result : Result Bool VaultStop) → IsErrAnd result (λ stop. stop ≡ own_memory_stop) → Resumes f keys cs number left sight sight result
  resumes-unready sight (Ok refused) is = absurd is
  resumes-unready sight (Err stop) is = record { where_is = Unready is refl; fair = told_is sight.link.remote _ (λ before e differ m. AtMemory is) }

  -- the server didn't catch up
  pub resumes-uncaught : (old new : Sight) (result : Result Bool VaultStop) (at : VaultStop) → IsErrAnd result (λ stop. stop ≡ at) → StopsCatchingUp f keys cs old.link new.link at → new.kept ≡ old.kept → new.written ≡ old.written
      → Resumes f keys cs number left old new result
  resumes-uncaught old new (Ok refused) at is stops kept written = absurd is
  resumes-uncaught old new (Err stop) at is stops kept written =
      subst (λ (st : VaultStop). Resumes f keys cs number left old new (Err st)) (sym is) (record {
        where_is = BeforeLine stops kept written;
        fair = told_is old.link.remote _ (λ before e differ m. catching_fair f keys cs recorded accepted before m differ old.link new.link at e stops);
      })

  -- the line wasn't printed
  pub resumes-unprinted : (old new : Sight) (again : List Exchange) (frames : ℕ) (result : Result Bool VaultStop) (at : VaultStop) → IsErrAnd result (λ stop. stop ≡ at) → HasCaughtUp f keys cs again frames old.link new.link → new.kept ≡ old.kept
      → StopsPrinting (Resumed frames ∷ []) old.written new.written at → Resumes f keys cs number left old new result
  resumes-unprinted old new again frames (Ok refused) at is caught kept stops = absurd is
  resumes-unprinted old new again frames (Err stop) at is caught kept stops =
      subst (λ (st : VaultStop). Resumes f keys cs number left old new (Err st)) (sym is) (record {
        where_is = AtLine again frames caught kept stops;
        fair = told_is old.link.remote _ (λ before e differ m. AtSink stops.fault stops.stop_is);
      })

  -- the lines were run
  module _ (old mid : Sight) (again : List Exchange) (frames : ℕ) (resumed : HasResumed f keys cs again frames old mid) where
    rest : (turns : List Turn) (new : LinkSight) → AreTurns f keys (left_by cs) turns → HasPassed (passed_in turns) mid.link new
        → IfSome mid.link.remote (λ b. SlotsDiffer f keys → LeftBy f keys b.state (left_by cs) → PrintTheirTexts (left_by cs) turns) → IsHonestRest f keys cs old.link.remote frames again turns new.remote
    rest turns new are passed texts = told_is old.link.remote _ (λ before e differ m.
        resumes_honestly f keys cs recorded accepted before m differ again frames turns mid.link new (caught_supplied f keys cs recorded accepted before m differ again frames old.link mid.link e resumed.caught) are passed texts)

    pub resumes-lines : (new : Sight) (view : ShelfView) (result : Result Bool VaultStop) → RunsOrStops f keys (left_by cs) number left mid new view result → Resumes f keys cs number left old new result
    resumes-lines new view (Ok refused) lines = record {
      frames = frames;
      again = again;
      resumed = mid;
      resumes = resumed;
      view = view;
      lines = lines;
      honest = rest lines.run.turns new.link lines.run.are lines.run.moves.link lines.run.texts;
    }
    resumes-lines new view (Err stop) lines = record {
      where_is = InLines (record {
        frames = frames;
        again = again;
        resumed = mid;
        resumes = resumed;
        lines = lines;
        honest = rest lines.run.turns lines.between.link lines.run.are lines.run.moves.link lines.run.texts;
      });
      fair = told_is old.link.remote _ (λ before e differ m.
          let s = caught_supplied f keys cs recorded accepted before m differ again frames old.link mid.link e resumed.caught in
          of_told (λ b. SlotsDiffer f keys → LeftBy f keys b.state (left_by cs) → StopsFairly stop) mid.link.remote s.told s.is lines.fair differ
          (supplied_left f keys cs recorded accepted before m differ again frames mid.link.remote s));
    }

-- the keys are those under the key
pub resumes-under : (f : KeyedFn) (key : List ℕ) (keys : VaultSecrets) → keys ≡ vault_secrets f key → (cs : List VaultCommand) (number : ℕ) (left : Option (List (List ℕ))) (old new : Sight) (result : Result Bool VaultStop)
    → Resumes f keys cs number left old new result → Resumes f (vault_secrets f key) cs number left old new result
resumes-under f key keys is cs number left old new result resumes = subst (λ (k : VaultSecrets). Resumes f k cs number left old new result) is resumes
