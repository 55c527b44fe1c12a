-- A first run under a key, by what its parts came to.
use Rattle.std.proofs.Common.{◌≡◌, inl, inr, ℕ, Bool, List, None, Some, Ok, Err, refl, sym, ap, ◌∙◌, subst}
use Rattle.std.specs.Prelude.{Option, Result, IfErr, IfSome}
use Rattle.std.specs.Result.{IsErrAnd}
use Rattle.keyed_fn.specs.KeyedFn.{KeyedFn}
use Rattle.keyed_fn.specs.VaultFormulas.{VaultSecrets, vault_secrets}
use Rattle.sse_outside.specs.Kept.{Kept}
use Rattle.vault_link.specs.Served.{VaultRemote}
use Rattle.vault_shelf.specs.Shelves.{empty_shelf}
use Rattle.vault_script.specs.declared.vault_stop.VaultStop.{VaultStop}
use Rattle.vault_shelf.specs.ShelfView.{ShelfView}
use Rattle.doc_vault.specs.Beginnings.{AtBeginning, Begins, HasBegun, IfEmpty, InLines, NotGreeted, NotMarked, RunsUnder, StopsBeginning, mark_records}
use Rattle.doc_vault.specs.CommandRuns.{KeepsRecords, NoRoom, NotTaken}
use Rattle.doc_vault.specs.FairStops.{AtLink, AtMemory, AtRecord, StopsFairly}
use Rattle.doc_vault.specs.Greetings.{GreetsHonestly, HasSaid, StopsGreeting}
use Rattle.doc_vault.specs.HonestTexts.{PrintTheirTexts}
use Rattle.doc_vault.specs.ScriptRuns.{RunsOrStops}
use Rattle.doc_vault.specs.Sights.{LinkSight, Sight}

module _ (f : KeyedFn) (key : List ℕ) where
  -- the mark was handed over after the greeting
  pub begins-marked : (old new : LinkSight) (kept kept' : Kept) (result : Result Unit VaultStop) → HasSaid 0 old new → KeepsRecords (mark_records f key) kept kept' result → Begins f key old new kept kept' result
  begins-marked old new kept kept' (Ok done) greeted keeps = record { greeted = greeted; marked = keeps }
  begins-marked old new kept kept' (Err stop) greeted keeps = NotMarked greeted keeps

  -- it wasn't greeted
  pub begins-stopped : (old new : LinkSight) (kept : Kept) (result : Result Unit VaultStop) (at : VaultStop) → IsErrAnd result (λ stop. stop ≡ at) → StopsGreeting old new at → Begins f key old new kept kept result
  begins-stopped old new kept (Ok done) at is stops = absurd is
  begins-stopped old new kept (Err stop) at is stops = NotGreeted (subst (λ (st : VaultStop). StopsGreeting old new st) (sym is) stops) refl

  -- an empty vault expects the first update
  fair_empty : (remote : Option VaultRemote) (stop : VaultStop) → IfSome remote (λ before. before.state.next ≡ 0 → StopsFairly stop) → IfEmpty f key remote (StopsFairly stop)
  fair_empty None stop honest = tt
  fair_empty (Some before) stop honest = λ differ left. honest left.next

  -- the run didn't begin
  pub run-unbegun : (master : List ℕ) → master ≡ key → (number : ℕ) (left : Option (List (List ℕ))) (old new : Sight) (result : Result Bool VaultStop) (at : VaultStop) → IsErrAnd result (λ stop. stop ≡ at)
      → StopsBeginning f master old.link new.link old.kept new.kept at → new.written ≡ old.written → IfSome old.link.remote (λ before. before.state.next ≡ 0 → StopsFairly at)
      → RunsUnder f key number left old new result
  run-unbegun master same_key number left old new (Ok done) at is stops same honest = absurd is
  run-unbegun master same_key number left old new (Err stop) at is stops same honest = record {
    at =
        AtBeginning
        (subst (λ (k : List ℕ). StopsBeginning f k old.link new.link old.kept new.kept stop) same_key
        (subst (λ (st : VaultStop). StopsBeginning f master old.link new.link old.kept new.kept st) (sym is) stops)) same;
    fair = subst (λ (st : VaultStop). IfEmpty f key old.link.remote (StopsFairly st)) (sym is) (fair_empty old.link.remote at honest);
  }

  -- it did
  pub run-under : (master : List ℕ) → master ≡ key → (number : ℕ) (left : Option (List (List ℕ))) (old begun new : Sight) (view : ShelfView) (keys : VaultSecrets) (result : Result Bool VaultStop) → keys ≡ vault_secrets f master
      → HasBegun f master old.link begun.link old.kept begun.kept → begun.written ≡ old.written → RunsOrStops f keys empty_shelf number left begun new view result → RunsUnder f key number left old new result
  run-under master same_key number left old begun new view keys result is begins same runs =
      by result (subst (λ (k : VaultSecrets). RunsOrStops f k empty_shelf number left begun new view result) (is ∙ ap (vault_secrets f) same_key) runs)
    where
      under : HasBegun f key old.link begun.link old.kept begun.kept
      under = subst (λ (k : List ℕ). HasBegun f k old.link begun.link old.kept begun.kept) same_key begins

      by : (r : Result Bool VaultStop) → RunsOrStops f (vault_secrets f key) empty_shelf number left begun new view r → RunsUnder f key number left old new r
      by (Ok refused) done = record {
        begun = begun;
        begins = under;
        unprinted = same;
        view = view;
        lines = done;
        texts = subst (λ (r : Option VaultRemote). IfEmpty f key r (PrintTheirTexts empty_shelf done.run.turns)) under.greeted.unmoved done.run.texts;
      }
      by (Err stop) stopped = record {
        at = InLines (record {
          begun = begun;
          begins = under;
          unprinted = same;
          lines = stopped;
          texts = subst (λ (r : Option VaultRemote). IfEmpty f key r (PrintTheirTexts empty_shelf stopped.run.turns)) under.greeted.unmoved stopped.run.texts;
        });
        fair = subst (λ (r : Option VaultRemote). IfEmpty f key r (StopsFairly stop)) under.greeted.unmoved stopped.fair;
      }

-- Why no run begins at a server that expects the first update.

pub unbegun-greet : (remote : Option VaultRemote) (result : Result Unit VaultStop) (at : VaultStop) → IsErrAnd result (λ stop. stop ≡ at) → IfSome remote (λ before. GreetsHonestly {T = Unit} before.state.next (Err at))
    → IfSome remote (λ before. IfErr result (λ stop. before.state.next ≡ 0 → StopsFairly stop))
unbegun-greet None result at is honest = tt
unbegun-greet (Some before) (Ok done) at is honest = tt
unbegun-greet (Some before) (Err stop) at is (inl (later, elsewhere)) = λ zero. absurd (later zero)
unbegun-greet (Some before) (Err stop) at is (inr (inl cut)) = λ zero. AtLink (inl (is ∙ cut))
unbegun-greet (Some before) (Err stop) at is (inr (inr lacks)) = λ zero. AtLink (inr (is ∙ lacks))

pub unbegun-mark : (remote : Option VaultRemote) (records : List (List ℕ)) (kept kept' : Kept) (result : Result Unit VaultStop) → KeepsRecords records kept kept' result
    → IfSome remote (λ before. IfErr result (λ stop. before.state.next ≡ 0 → StopsFairly stop))
unbegun-mark None records kept kept' result keeps = tt
unbegun-mark (Some before) records kept kept' (Ok done) keeps = tt
unbegun-mark (Some before) records kept kept' (Err stop) (NoRoom is same) = λ zero. AtMemory is
unbegun-mark (Some before) records kept kept' (Err stop) (NotTaken fault is refused) = λ zero. AtRecord fault is
