-- A restore under a key, by what its parts came to.
use Rattle.std.proofs.Common.{◌≡◌, ℕ, Bool, List, length, None, Some, Ok, Err, refl, sym, subst, arith}
use Rattle.std.specs.Prelude.{Option, Result, IfSome}
use Rattle.std.specs.Result.{IsErrAnd}
use Rattle.keyed_fn.specs.KeyedFn.{KeyedFn}
use Rattle.keyed_fn.specs.VaultFormulas.{VaultSecrets}
use Rattle.vault_link.specs.Served.{VaultRemote}
use Rattle.vault_shelf.specs.Shelves.{VaultCommand, empty_shelf, shelf_of}
use Rattle.vault_script.specs.declared.vault_stop.VaultStop.{VaultStop}
use Rattle.doc_vault.specs.FairStops.{AtMemory, StopsFairly}
use Rattle.doc_vault.specs.Outcomes.{own_memory_stop}
use Rattle.doc_vault.specs.Sights.{LinkSight}
use Rattle.vault_restore.specs.LeftInOrder.{IsLeftInOrder, all_lines, lines_from}
use Rattle.vault_restore.specs.Restores.{AtQuestion, AtSlot, AtStart, IsTold, RestoresOrStops, ScansOrStops, StopsAsking}
use Rattle.vault_restore.specs.Visits.{RestoreSight, lines_in}
use Rattle.vault_restore.proofs.HonestScan.{all_texts, asking_fair, stop_fair, stops_within, texts_so_far}

module _ (f : KeyedFn) (keys : VaultSecrets) where
  -- something that stands of every server that commands in order left so
  abbrev pub IfLeft : Option VaultRemote → (List VaultCommand → Type 0) → Type 0
  IfLeft remote stands = IfSome remote (λ before. (cs : List VaultCommand) → IsLeftInOrder f keys before.state cs → stands cs)

  if_left : (remote : Option VaultRemote) (stands : List VaultCommand → Type 0) → ((told : VaultRemote) → remote ≡ Some told → (cs : List VaultCommand) → IsLeftInOrder f keys told.state cs → stands cs) → IfLeft remote stands
  if_left None stands by = tt
  if_left (Some told) stands by = by told refl

  -- out of memory before anything is sent
  pub restores-none : (sight : RestoreSight) (result : Result Bool VaultStop) → IsErrAnd result (λ stop. stop ≡ own_memory_stop) → RestoresOrStops f keys sight sight result
  restores-none sight (Ok done) is = absurd is
  restores-none sight (Err stop) is = record { stops = AtStart is refl; fair = if_left sight.link.remote (λ cs. StopsFairly stop) (λ told tells cs left. AtMemory is) }

  -- at the question
  pub restores-unasked : (old new : LinkSight) (written : Option (List ℕ)) (result : Result Bool VaultStop) (at : VaultStop) → IsErrAnd result (λ stop. stop ≡ at) → StopsAsking old new at
      → RestoresOrStops f keys (record { link = old; written = written }) (record { link = new; written = written }) result
  restores-unasked old new written (Ok done) at is stops = absurd is
  restores-unasked old new written (Err stop) at is stops =
      let own : StopsAsking old new stop = subst (λ (st : VaultStop). StopsAsking old new st) (sym is) stops in
      record { stops = AtQuestion own refl; fair = if_left old.remote (λ cs. StopsFairly stop) (λ told tells cs left. asking_fair f keys old told tells cs left new stop own) }

  -- after it
  pub restores-scanned : (n : ℕ) (old asked : LinkSight) (written : Option (List ℕ)) (new : RestoreSight) (result : Result Bool VaultStop) → IsTold n old asked → ScansOrStops f keys n (record { link = asked; written = written }) new result
      → RestoresOrStops f keys (record { link = old; written = written }) new result
  restores-scanned n old asked written new (Ok forged) is scan = record {
    next = n;
    asked = asked;
    told = is;
    scan = scan;
    texts = if_left old.remote (λ cs. lines_in scan.visits ≡ all_lines (shelf_of empty_shelf cs)) (λ told tells cs left. all_texts f keys old told tells cs left n asked is scan.visits (omega (arith, scan.all)) written new scan.visited scan.all);
  }
  restores-scanned n old asked written new (Err stop) is scan = record {
    stops = AtSlot (record {
      next = n;
      asked = asked;
      told = is;
      scan = scan;
      texts = if_left old.remote (λ cs. lines_in scan.visits ≡ lines_from (shelf_of empty_shelf cs) 0 (length scan.visits)) (λ told tells cs left. texts_so_far f keys old told tells cs left n asked is scan.visits (stops_within f keys n scan.visits scan.between new stop scan.stops) written scan.between scan.visited);
    });
    fair = if_left old.remote (λ cs. StopsFairly stop) (λ told tells cs left. stop_fair f keys old told tells cs left n asked is scan.visits (stops_within f keys n scan.visits scan.between new stop scan.stops) written scan.between scan.visited new stop scan.stops);
  }
