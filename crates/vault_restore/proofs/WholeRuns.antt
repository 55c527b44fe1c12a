-- A whole restore, by what its parts came to.
use Rattle.std.proofs.Common.{◌≡◌, inl, inr, ℕ, Bool, false, List, None, Some, Ok, Err, refl, sym, ap, ◌∙◌, subst, arith}
use Rattle.std.specs.Prelude.{Option, Result, IfSome, if◌then◌else◌}
use Rattle.std.specs.Result.{IsErrAnd}
use Rattle.std.specs.Io.KnownBytes.{append_known}
use Rattle.keyed_fn.specs.KeyedFn.{KeyedFn}
use Rattle.keyed_fn.specs.VaultFormulas.{VaultSecrets, vault_secrets}
use Rattle.script_run_texts.specs.declared.input_stop.InputStop.{InputStop}
use Rattle.script_run_texts.specs.declared.input_stop.InputStop.TheVariants as inputs
use Rattle.script_run_texts.specs.declared.stop_cause.StopCause.TheVariants as runs
use Rattle.sse_outside.specs.declared.device_fault.DeviceFault.{DeviceFault}
use Rattle.sse_outside.specs.declared.device_fault.DeviceFault.TheVariants as devices
use Rattle.script_run_texts.specs.Stops.{stop_of_sink}
use Rattle.vault_link.specs.Served.{VaultRemote}
use Rattle.vault_shelf.specs.Shelves.{VaultCommand, empty_shelf, shelf_of}
use Rattle.vault_script.specs.VaultStops.{vault_status}
use Rattle.vault_script.specs.declared.vault_stop.VaultStop.{VaultStop}
use Rattle.vault_script.specs.declared.vault_stop.VaultStop.TheVariants as stops
use Rattle.doc_vault.specs.FairStops.{StopsFairly}
use Rattle.doc_vault.specs.FairStops as fair
use Rattle.doc_vault.specs.Outcomes.{bad_reply, link_stop, memory_stop, own_memory_stop}
use Rattle.vault_restore.specs.KeyScripts.{BadLineAt, KeyAlone, MakesKeyScript, key_script}
use Rattle.vault_restore.specs.LeftInOrder.{IsLeftInOrder, all_lines}
use Rattle.vault_restore.specs.RestoredLines.{text_of_lines}
use Rattle.vault_restore.specs.Restores.{AtQuestion, AtSlot, AtStart, RestoresOrStops, StopsSomewhere, any_forged}
use Rattle.vault_restore.specs.Visits.{RestoreSight, lines_in}
use Rattle.vault_restore.specs.WholeRestores.{BringsBack, FinishesScript, InScript, IsFairStatus, RestoresScript, StopsScript, UnderKey, restore_status}
use Rattle.vault_restore.proofs.HonestScan.{none_forged}
use Rattle.vault_restore.proofs.StopKinds.{AtLink, AtReply, IsPeerStop, IsScanStop, OwnMemory, PeerMemory, asking_kind, scan_kind, script_kind, stop_above}

-- The script.

module _ (f : KeyedFn) (left : Option (List (List ℕ))) where
  -- the key isn't read
  pub unopened : (sight : RestoreSight) (result : Result Bool VaultStop) (why : InputStop) → IsErrAnd result (λ stop. stop ≡ stops.Run (runs.Input why)) → ((number : ℕ) → why ≡ inputs.Line number → MakesKeyScript left (BadLineAt number))
      → RestoresScript f left sight sight result
  unopened sight (Ok done) why is bad = absurd is
  unopened sight (Err stop) why is bad = InScript why is bad refl

  -- it is
  pub opened : (old new : RestoreSight) (key : List ℕ) (result : Result Bool VaultStop) → MakesKeyScript left (KeyAlone key) → RestoresOrStops f (vault_secrets f key) old new result → RestoresScript f left old new result
  opened old new key (Ok forged) script restores = record { key = key; script = script; restores = restores }
  opened old new key (Err stop) script restores = UnderKey key script restores

-- the end of a restore that stops
abbrev pub stopped_end : VaultStop → Result Bool VaultStop
stopped_end stop = Err stop

-- The texts that come back.

-- no impossible reply is fair
bad_unfair : (bytes : List ℕ) → StopsFairly (bad_reply bytes) → ⊥
bad_unfair bytes (fair.AtInput why is) = cc
bad_unfair bytes (fair.AtRecord fault is) = cc
bad_unfair bytes (fair.AtSink devices.Failed is) = cc
bad_unfair bytes (fair.AtSink devices.NoMemory is) = cc
bad_unfair bytes (fair.AtMemory is) = cc
bad_unfair bytes (fair.AtLink (inl is)) = cc
bad_unfair bytes (fair.AtLink (inr is)) = cc

fair_at : (at stop : VaultStop) → stop ≡ at → IsFairStatus (vault_status at) → IsFairStatus (vault_status stop)
fair_at at stop is status = subst (λ (st : VaultStop). IsFairStatus (vault_status st)) (sym is) status

peer_fair : (stop : VaultStop) → IsPeerStop stop → StopsFairly stop → IsFairStatus (vault_status stop)
peer_fair stop (OwnMemory is) fairly = fair_at own_memory_stop stop is (inr (inr (inr (inr refl))))
peer_fair stop (PeerMemory is) fairly = fair_at memory_stop stop is (inr (inr (inr (inr refl))))
peer_fair stop (AtLink is) fairly = fair_at link_stop stop is (inr (inr (inr (inl refl))))
peer_fair stop (AtReply bytes is) fairly = absurd (bad_unfair bytes (subst StopsFairly is fairly))

sink_fair : (stop : VaultStop) (fault : DeviceFault) → stop ≡ stops.Run (stop_of_sink fault) → IsFairStatus (vault_status stop)
sink_fair stop devices.Failed is = fair_at (stops.Run runs.Sink) stop is (inr (inr (inl refl)))
sink_fair stop devices.NoMemory is = fair_at own_memory_stop stop is (inr (inr (inr (inr refl))))

fair_under : (f : KeyedFn) (keys : VaultSecrets) (old new : RestoreSight) (stop : VaultStop) → StopsSomewhere f keys old new stop → StopsFairly stop → IsFairStatus (vault_status stop)
fair_under f keys old new stop (AtStart is same) fairly = peer_fair stop (OwnMemory is) fairly
fair_under f keys old new stop (AtQuestion stops unprinted) fairly = peer_fair stop (asking_kind old.link new.link stop stops) fairly
fair_under f keys old new stop (AtSlot at) fairly = by (scan_kind f keys at.next at.scan.visits at.scan.between new stop at.scan.stops)
  where
    by : IsScanStop stop → IsFairStatus (vault_status stop)
    by (inl is) = peer_fair stop is fairly
    by (inr is) = sink_fair stop is.0 is.1

same_key : (a b : List ℕ) → KeyAlone a ≡ KeyAlone b → a ≡ b
same_key a b e = cc

module _ (f : KeyedFn) (lines : List (List ℕ)) (key : List ℕ) (cs : List VaultCommand) (old between : RestoreSight) (told : VaultRemote) (tells : old.link.remote ≡ Some told) (alone : key_script lines ≡ KeyAlone key)
    (left : IsLeftInOrder f (vault_secrets f key) told.state cs) where
  -- what holds of every server that commands left so
  left_so : (keys : VaultSecrets) (stands : List VaultCommand → Type 0) → vault_secrets f key ≡ keys → IfSome old.link.remote (λ before. (cs : List VaultCommand) → IsLeftInOrder f keys before.state cs → stands cs) → stands cs
  left_so keys stands same holds =
      subst (λ (r : Option VaultRemote). IfSome r (λ before. (cs : List VaultCommand) → IsLeftInOrder f keys before.state cs → stands cs)) tells holds cs
      (subst (λ (k : VaultSecrets). IsLeftInOrder f k told.state cs) same left)

  through : (forged : Bool) (written' : Option (List ℕ)) → FinishesScript f (Some lines) old between forged → written' ≡ between.written → BringsBack old.written written' cs (restore_status (Ok forged))
  through forged written' finishes unprinted =
      let same : vault_secrets f key ≡ vault_secrets f finishes.key = ap (vault_secrets f) (same_key key finishes.key (sym alone ∙ finishes.script)) in
      let scan = finishes.restores.scan in
      let none : any_forged scan.visits ≡ false =
      none_forged f (vault_secrets f finishes.key) old.link told tells cs (subst (λ (k : VaultSecrets). IsLeftInOrder f k told.state cs) same left) finishes.restores.next finishes.restores.asked finishes.restores.told scan.visits (omega (arith, scan.all)) old.written between scan.visited in
      record {
        fair = inl (ap (λ (b : Bool). if b then 1 else 0) (scan.forged_is ∙ none));
        texts = λ _. unprinted ∙ scan.visited.printed ∙ ap (λ lines. append_known old.written (text_of_lines lines)) (left_so (vault_secrets f finishes.key) (λ cs. lines_in scan.visits ≡ all_lines (shelf_of empty_shelf cs)) same finishes.restores.texts);
      }

  halted : (stop : VaultStop) (written' : Option (List ℕ)) → StopsScript f (Some lines) old between stop → BringsBack old.written written' cs (vault_status stop)
  halted stop written' stopped = record { fair = fairly stopped; texts = λ e. absurd (let above = stop_above stop (script_kind f (Some lines) old between stop stopped) in omega (arith, above, e)) }
    where
      fairly : StopsScript f (Some lines) old between stop → IsFairStatus (vault_status stop)
      fairly (InScript (inputs.Line n) is bad same) = absurd (let e : KeyAlone key ≡ BadLineAt n = sym alone ∙ bad n refl in cc)
      fairly (InScript inputs.Source is bad same) = fair_at (stops.Run (runs.Input inputs.Source)) stop is (inr (inl refl))
      fairly (InScript inputs.Memory is bad same) = fair_at (stops.Run (runs.Input inputs.Memory)) stop is (inr (inr (inr (inr refl))))
      fairly (UnderKey other script under) =
          let same : vault_secrets f key ≡ vault_secrets f other = ap (vault_secrets f) (same_key key other (sym alone ∙ script)) in
          fair_under f (vault_secrets f other) old between stop under.stops (left_so (vault_secrets f other) (λ cs. StopsFairly stop) same under.fair)

  pub brought : (end : Result Bool VaultStop) (written' : Option (List ℕ)) → RestoresScript f (Some lines) old between end → ((forged : Bool) → end ≡ Ok forged → written' ≡ between.written) → BringsBack old.written written' cs (restore_status end)
  brought (Ok forged) written' restores unprinted = through forged written' restores (unprinted forged refl)
  brought (Err stop) written' restores unprinted = halted stop written' restores

-- whether or not source and link tell what they have
pub brings : (f : KeyedFn) (left : Option (List (List ℕ))) (old between : RestoreSight) (end : Result Bool VaultStop) (written' : Option (List ℕ)) (status : ℕ) → RestoresScript f left old between end → status ≡ restore_status end
    → ((forged : Bool) → end ≡ Ok forged → written' ≡ between.written)
    → IfSome left (λ lines. IfSome old.link.remote (λ before. (key : List ℕ) (cs : List VaultCommand) → key_script lines ≡ KeyAlone key → IsLeftInOrder f (vault_secrets f key) before.state cs → BringsBack old.written written' cs status))
brings f None old between end written' status restores is unprinted = tt
brings f (Some lines) old between end written' status restores is unprinted = by old.link.remote refl
  where
    by : (remote : Option VaultRemote) → old.link.remote ≡ remote
        → IfSome remote (λ before. (key : List ℕ) (cs : List VaultCommand) → key_script lines ≡ KeyAlone key → IsLeftInOrder f (vault_secrets f key) before.state cs → BringsBack old.written written' cs status)
    by None tells = tt
    by (Some told) tells = λ key cs alone left. subst (λ (st : ℕ). BringsBack old.written written' cs st) (sym is) (brought f lines key cs old between told tells alone left end written' restores unprinted)

-- a stop is no end
pub not_through : (stop : VaultStop) (forged : Bool) → stopped_end stop ≡ Ok forged → ⊥
not_through stop forged e = cc
