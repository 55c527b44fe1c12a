-- Why a restore stops, by kinds: what the counts of its devices show, and the status of each.
use Rattle.std.proofs.Common.{◌≡◌, inl, inr, ℕ, ◌≤◌, List, length, None, Some, refl, sym, ap, ◌∙◌, subst, arith}
use Rattle.std.specs.Prelude.{◌⊎◌, ◌≢◌, Option}
use Rattle.keyed_fn.specs.KeyedFn.{KeyedFn}
use Rattle.keyed_fn.specs.VaultFormulas.{VaultSecrets}
use Rattle.script_run_texts.specs.Stops.{stop_of_sink}
use Rattle.script_run_texts.specs.declared.input_stop.InputStop.{InputStop}
use Rattle.script_run_texts.specs.declared.input_stop.InputStop.TheVariants as inputs
use Rattle.script_run_texts.specs.declared.stop_cause.StopCause.TheVariants as runs
use Rattle.sse_outside.specs.Causes.{Rose}
use Rattle.sse_outside.specs.declared.device_fault.DeviceFault.{DeviceFault}
use Rattle.sse_outside.specs.declared.device_fault.DeviceFault.TheVariants as devices
use Rattle.vault_server.specs.VaultFrames.{VaultReplyText, Took, BodyReply, Absent, Next, Clash, NoMemory, StoreFault, BadFrame, vault_reply_bytes}
use Rattle.vault_script.specs.VaultStops.{vault_status}
use Rattle.vault_script.specs.declared.vault_stop.VaultStop.{VaultStop}
use Rattle.vault_script.specs.declared.vault_stop.VaultStop.TheVariants as stops
use Rattle.doc_vault.specs.Counts.{Counts, ShowsCause, sink_stop, source_stop}
use Rattle.doc_vault.specs.Outcomes.{bad_reply, link_stop, memory_stop, own_memory_stop}
use Rattle.doc_vault.specs.Sights.{LinkSight}
use Rattle.vault_restore.specs.Restores.{AtEnd, AtNext, AtQuestion, AtSlot, AtStart, NotAnswered, NotAsked, NotNumbered, StopsAfter, StopsAsking, StopsSomewhere}
use Rattle.vault_restore.specs.Slots.{Unfit, Unread, unfit}
use Rattle.vault_restore.specs.Visits.{RestoreSight, StopsFetch, Unanswered, Unfetched, Unjudged, Unprinted, Unsent, Visit}
use Rattle.vault_restore.specs.WholeRestores.{InScript, StopsScript, TellsRestore, UnderKey}
use Rattle.vault_restore.proofs.Judged.{came_unfit}

-- out of memory, here or at the other end; for the link; or for a reply that isn't possible
pub data IsPeerStop (stop : VaultStop) : Type 0 where
  OwnMemory : stop ≡ own_memory_stop → IsPeerStop stop
  PeerMemory : stop ≡ memory_stop → IsPeerStop stop
  AtLink : stop ≡ link_stop → IsPeerStop stop
  AtReply : (bytes : List ℕ) → stop ≡ bad_reply bytes → IsPeerStop stop

-- at the slots: one of these, or for the sink
abbrev pub IsScanStop : VaultStop → Type 0
IsScanStop stop = IsPeerStop stop ⊎ ((fault : DeviceFault) × (stop ≡ stops.Run (stop_of_sink fault)))

pub data IsRestoreStop (stop : VaultStop) : Type 0 where
  AtPeer : IsPeerStop stop → IsRestoreStop stop
  AtSink : (fault : DeviceFault) → stop ≡ stops.Run (stop_of_sink fault) → IsRestoreStop stop
  AtInput : (why : InputStop) → stop ≡ stops.Run (runs.Input why) → IsRestoreStop stop

-- Which there are.

unfit_kind : (bytes : List ℕ) (read : Option VaultReplyText) (stop : VaultStop) → stop ≡ unfit bytes read → IsPeerStop stop
unfit_kind bytes None stop is = AtReply bytes is
unfit_kind bytes (Some (Took n)) stop is = AtReply bytes is
unfit_kind bytes (Some (BodyReply tag sealed)) stop is = AtReply bytes is
unfit_kind bytes (Some Absent) stop is = AtReply bytes is
unfit_kind bytes (Some (Next n)) stop is = AtReply bytes is
unfit_kind bytes (Some Clash) stop is = AtReply bytes is
unfit_kind bytes (Some NoMemory) stop is = PeerMemory is
unfit_kind bytes (Some StoreFault) stop is = AtLink is
unfit_kind bytes (Some BadFrame) stop is = AtReply bytes is

cut_kind : (stop : VaultStop) → (stop ≡ link_stop) ⊎ (stop ≡ memory_stop) → IsPeerStop stop
cut_kind stop (inl is) = AtLink is
cut_kind stop (inr is) = PeerMemory is

pub asking_kind : (old new : LinkSight) (stop : VaultStop) → StopsAsking old new stop → IsPeerStop stop
asking_kind old new stop (NotAsked is same) = cut_kind stop is
asking_kind old new stop (NotAnswered is passed) = AtLink is
asking_kind old new stop (NotNumbered reply passed none) = unfit_kind reply none.read stop none.stop_is

module _ (f : KeyedFn) (keys : VaultSecrets) where
  pub fetch_kind : (v : ℕ) (old new : LinkSight) (stop : VaultStop) → StopsFetch f keys v old new stop → IsPeerStop stop
  fetch_kind v old new stop (Unsent (inl is) same) = OwnMemory is
  fetch_kind v old new stop (Unsent (inr is) same) = cut_kind stop is
  fetch_kind v old new stop (Unanswered is passed) = AtLink is
  fetch_kind v old new stop (Unjudged reply grammar passed (Unfit comes)) = unfit_kind reply comes.read stop (came_unfit f keys v reply comes.read stop comes.comes)
  fetch_kind v old new stop (Unjudged reply grammar passed (Unread unread)) = OwnMemory unread.stop_is

  -- of the link or a reply, or of the sink
  pub scan_kind : (n : ℕ) (visits : List Visit) (old new : RestoreSight) (stop : VaultStop) → StopsAfter f keys n visits old new stop → IsScanStop stop
  scan_kind n visits old new stop (AtNext more (Unfetched stops unprinted)) = inl (fetch_kind (length visits) old.link new.link stop stops)
  scan_kind n visits old new stop (AtNext more (Unprinted visit is passed stops)) = inr (stops.fault, stops.stop_is)
  scan_kind n visits old new stop (AtEnd all unfit is same) = inl (AtReply (vault_reply_bytes (Next n)) is)

  pub restore_kind : (old new : RestoreSight) (stop : VaultStop) → StopsSomewhere f keys old new stop → IsRestoreStop stop
  restore_kind old new stop (AtStart is same) = AtPeer (OwnMemory is)
  restore_kind old new stop (AtQuestion stops unprinted) = AtPeer (asking_kind old.link new.link stop stops)
  restore_kind old new stop (AtSlot at) = by (scan_kind at.next at.scan.visits at.scan.between new stop at.scan.stops)
    where
      by : IsScanStop stop → IsRestoreStop stop
      by (inl is) = AtPeer is
      by (inr is) = AtSink is.0 is.1

pub script_kind : (f : KeyedFn) (left : Option (List (List ℕ))) (old new : RestoreSight) (stop : VaultStop) → StopsScript f left old new stop → IsRestoreStop stop
script_kind f left old new stop (InScript why is bad same) = AtInput why is
script_kind f left old new stop (UnderKey key script stops) = restore_kind f _ old new stop stops.stops

-- The status of each, and the counts by it.

module _ (old new : Counts) (sink' : ℕ) where
  abbrev Tells : (status : ℕ) → Type 0
  Tells status = TellsRestore old.source new.source old.link new.link old.sink sink' status

  -- a status that names no device
  tells_none : (status : ℕ) → status ≢ 3 → status ≢ 4 → status ≢ 5 → 2 ≤ status → new.source ≡ old.source → new.link ≡ old.link → Tells status
  tells_none status not_source not_sink not_link two same same2 = record {
    source_failed = λ e. absurd (not_source e);
    source_steady = λ _. same;
    link_failed = λ e. absurd (not_link e);
    link_steady = λ _. same2;
    sink_failed = λ e. absurd (not_sink e);
    sink_steady = λ few. absurd (omega (arith, few, two));
  }

  -- a restore that is through
  pub tells_through : (status : ℕ) → status ≤ 1 → new ≡ old → sink' ≡ new.sink → Tells status
  tells_through status few same same2 = record {
    source_failed = λ e. absurd (omega (arith, e, few));
    source_steady = λ _. ap (λ (c : Counts). c.source) same;
    link_failed = λ e. absurd (omega (arith, e, few));
    link_steady = λ _. ap (λ (c : Counts). c.link) same;
    sink_failed = λ e. absurd (omega (arith, e, few));
    sink_steady = λ _. same2 ∙ ap (λ (c : Counts). c.sink) same;
  }

  module _ (stop : VaultStop) (shows : ShowsCause old new stop) (later : new.sink ≤ sink') where
    shows_at : (at : VaultStop) → stop ≡ at → ShowsCause old new at
    shows_at at is = subst (ShowsCause old new) is shows

    tells_at : (at : VaultStop) → stop ≡ at → Tells (vault_status at) → Tells (vault_status stop)
    tells_at at is tells = subst (λ (st : VaultStop). Tells (vault_status st)) (sym is) tells

    -- a stop for no device
    tells_other : (at : VaultStop) (status : ℕ) → stop ≡ at → (at ≡ source_stop → ⊥) → (at ≡ link_stop → ⊥) → status ≢ 3 → status ≢ 4 → status ≢ 5 → 2 ≤ status → Tells status
    tells_other at status is source link not_source not_sink not_link two =
        tells_none status not_source not_sink not_link two ((shows_at at is).source.steady source) ((shows_at at is).link.steady link)

    memory : (at : VaultStop) → stop ≡ at → (at ≡ source_stop → ⊥) → (at ≡ link_stop → ⊥) → Tells 7
    memory at is source link = tells_other at 7 is source link (λ e. absurd (omega (arith, e))) (λ e. absurd (omega (arith, e))) (λ e. absurd (omega (arith, e))) (omega arith)

    tells_peer : IsPeerStop stop → Tells (vault_status stop)
    tells_peer (OwnMemory is) = tells_at own_memory_stop is (memory own_memory_stop is (λ e. cc) (λ e. cc))
    tells_peer (PeerMemory is) = tells_at memory_stop is (memory memory_stop is (λ e. cc) (λ e. cc))
    tells_peer (AtLink is) = tells_at link_stop is (record {
      source_failed = λ e. absurd (omega (arith, e));
      source_steady = λ _. (shows_at link_stop is).source.steady (λ e. cc);
      link_failed = λ _. (shows_at link_stop is).link.rose refl;
      link_steady = λ other. absurd (other refl);
      sink_failed = λ e. absurd (omega (arith, e));
      sink_steady = λ few. absurd (omega (arith, few));
    })
    tells_peer (AtReply bytes is) =
        tells_at (bad_reply bytes) is
        (tells_other (bad_reply bytes) 9 is (λ e. cc) (λ e. cc) (λ e. absurd (omega (arith, e))) (λ e. absurd (omega (arith, e))) (λ e. absurd (omega (arith, e))) (omega arith))

    tells_sink : (fault : DeviceFault) → stop ≡ stops.Run (stop_of_sink fault) → Tells (vault_status stop)
    tells_sink devices.Failed is = tells_at sink_stop is (record {
      source_failed = λ e. absurd (omega (arith, e));
      source_steady = λ _. (shows_at sink_stop is).source.steady (λ e. cc);
      link_failed = λ e. absurd (omega (arith, e));
      link_steady = λ _. (shows_at sink_stop is).link.steady (λ e. cc);
      sink_failed = λ _. (let rose : Rose old.sink new.sink = (shows_at sink_stop is).sink.rose refl in omega (arith, rose, later));
      sink_steady = λ few. absurd (omega (arith, few));
    })
    tells_sink devices.NoMemory is = tells_at own_memory_stop is (memory own_memory_stop is (λ e. cc) (λ e. cc))

    tells_input : (why : InputStop) → stop ≡ stops.Run (runs.Input why) → Tells (vault_status stop)
    tells_input (inputs.Line n) is =
        tells_at (stops.Run (runs.Input (inputs.Line n))) is
        (tells_other (stops.Run (runs.Input (inputs.Line n))) 2 is (λ e. cc) (λ e. cc) (λ e. absurd (omega (arith, e))) (λ e. absurd (omega (arith, e))) (λ e. absurd (omega (arith, e))) (omega arith))
    tells_input inputs.Source is = tells_at source_stop is (record {
      source_failed = λ _. (shows_at source_stop is).source.rose refl;
      source_steady = λ other. absurd (other refl);
      link_failed = λ e. absurd (omega (arith, e));
      link_steady = λ _. (shows_at source_stop is).link.steady (λ e. cc);
      sink_failed = λ e. absurd (omega (arith, e));
      sink_steady = λ few. absurd (omega (arith, few));
    })
    tells_input inputs.Memory is = tells_at (stops.Run (runs.Input inputs.Memory)) is (memory (stops.Run (runs.Input inputs.Memory)) is (λ e. cc) (λ e. cc))

    pub tells_stop : IsRestoreStop stop → Tells (vault_status stop)
    tells_stop (AtPeer is) = tells_peer is
    tells_stop (AtSink fault is) = tells_sink fault is
    tells_stop (AtInput why is) = tells_input why is

-- the statuses that there are
abbrev pub IsKnown : ℕ → Type 0
IsKnown status = (status ≤ 5) ⊎ ((status ≡ 7) ⊎ (status ≡ 9))

known_at : (at stop : VaultStop) → stop ≡ at → IsKnown (vault_status at) → IsKnown (vault_status stop)
known_at at stop is known = subst (λ (st : VaultStop). IsKnown (vault_status st)) (sym is) known

pub stop_known : (stop : VaultStop) → IsRestoreStop stop → IsKnown (vault_status stop)
stop_known stop (AtPeer (OwnMemory is)) = known_at own_memory_stop stop is (inr (inl refl))
stop_known stop (AtPeer (PeerMemory is)) = known_at memory_stop stop is (inr (inl refl))
stop_known stop (AtPeer (AtLink is)) = known_at link_stop stop is (inl (omega arith))
stop_known stop (AtPeer (AtReply bytes is)) = known_at (bad_reply bytes) stop is (inr (inr refl))
stop_known stop (AtSink devices.Failed is) = known_at (stops.Run runs.Sink) stop is (inl (omega arith))
stop_known stop (AtSink devices.NoMemory is) = known_at own_memory_stop stop is (inr (inl refl))
stop_known stop (AtInput (inputs.Line n) is) = known_at (stops.Run (runs.Input (inputs.Line n))) stop is (inl (omega arith))
stop_known stop (AtInput inputs.Source is) = known_at (stops.Run (runs.Input inputs.Source)) stop is (inl (omega arith))
stop_known stop (AtInput inputs.Memory is) = known_at (stops.Run (runs.Input inputs.Memory)) stop is (inr (inl refl))

above_at : (at stop : VaultStop) → stop ≡ at → 2 ≤ vault_status at → 2 ≤ vault_status stop
above_at at stop is above = subst (λ (st : VaultStop). 2 ≤ vault_status st) (sym is) above

-- none is that of a restore that is through
pub stop_above : (stop : VaultStop) → IsRestoreStop stop → 2 ≤ vault_status stop
stop_above stop (AtPeer (OwnMemory is)) = above_at own_memory_stop stop is (omega arith)
stop_above stop (AtPeer (PeerMemory is)) = above_at memory_stop stop is (omega arith)
stop_above stop (AtPeer (AtLink is)) = above_at link_stop stop is (omega arith)
stop_above stop (AtPeer (AtReply bytes is)) = above_at (bad_reply bytes) stop is (omega arith)
stop_above stop (AtSink devices.Failed is) = above_at (stops.Run runs.Sink) stop is (omega arith)
stop_above stop (AtSink devices.NoMemory is) = above_at own_memory_stop stop is (omega arith)
stop_above stop (AtInput (inputs.Line n) is) = above_at (stops.Run (runs.Input (inputs.Line n))) stop is (omega arith)
stop_above stop (AtInput inputs.Source is) = above_at (stops.Run (runs.Input inputs.Source)) stop is (omega arith)
stop_above stop (AtInput inputs.Memory is) = above_at (stops.Run (runs.Input inputs.Memory)) stop is (omega arith)
