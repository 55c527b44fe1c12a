-- A client's side that is halted, and one that is started.
use Rattle.std.proofs.Common.{◌≡◌, ◌⊎◌, ℕ, Bool, true, false, List, inl, inr, refl, sym, ap, ◌∙◌, subst}
use Rattle.std.specs.Prelude.{Option, Some, None, is_some, not, Err}
use Rattle.keyed_fn.specs.KeyedFn.{KeyedFn}
use Rattle.outside_memory_disk.specs.declared.mem_disk.MemDisk.{MemDisk}
use Rattle.sse_model.specs.Epochs.{key_in}
use Rattle.world_disks.proofs.Left.{holds_disk}
use Rattle.world_disks.specs.Disks.{IsDiskOf, Holds, IsMet, IsUnmet}
use Rattle.world_disks.specs.declared.started.Unstarted.{Unstarted}
use Rattle.world_disks.specs.declared.started.Unstarted.TheVariants as unstarted
use Rattle.world_disks.specs.declared.stop.Stop as code
use Rattle.world_model.specs.World.{Disk, Client, Stop, Greets}
use Rattle.world_model.specs.Events.{StartClient, End, Made, Crashes, Lacks, Breaks, EndsCalling, Leads, left, settled, later, stop_before}
use Rattle.world_rules.specs.Changes.{Change, history_of}
use Rattle.world_rules.specs.Promises.{StoreWorld}
use Rattle.world_rules.specs.Rules.{store_rules}
use Rattle.world_client.specs.Clients.{IsClientIn}
use Rattle.world_client.specs.Histories.{records_under}
use Rattle.world_client.specs.Starting.{HasKey, IsDiskOfClient, IsStartedOf}
use Rattle.world_server.proofs.Sides.{unmet_in, met_in, later_comes}
use Rattle.world_server.specs.Sides.{stop_in}
use Rattle.sse_world.specs.Stands.{outcome_in}
use Rattle.sse_world.specs.declared.event.Outcome.{Outcome}
use Rattle.sse_world.specs.declared.event.Outcome.TheVariants.{Done, NoMemory}
use Rattle.world_run.proofs.Sides.{left_left, left_settled, same_settled, has_key, runs_client, gone_client, running_in, none_in}
use Rattle.world_run.specs.Sides.{ClientPart, IsClient, LeadsClient, client_part, with_client, halted}
use Rattle.world_run.specs.Starting.{AreOfClient, IsStartOf, Starts, IsEndOf, starting, outcome_of_failure}
use Rattle.world_run.specs.declared.running.Running.{Running}

abbrev part_of : Disk Change → Option (Client Change (List ℕ)) → Option Stop → ClientPart
part_of disk client stop = record { disk = disk; client = client; stop = stop }

module _ (f : KeyedFn) (first : List ℕ) where
  -- A start of a part is one of the world.

  pub started_leads : (w : StoreWorld) (out : Outcome) (new : ClientPart) → Starts (halted (client_part w)) out new → Leads (store_rules f first) w StartClient (outcome_in out) (with_client w new None)
  started_leads w out new s = subst (λ part. Leads (store_rules f first) w StartClient (outcome_in out) (with_client w part None)) (sym s.is) (by s.calls s.end s.ends s.comes_to)
    where
      by : (calls : ℕ) (end : End) → EndsCalling calls end (stop_before w.client w.client_stop) → IsEndOf end out → Leads (store_rules f first) w StartClient (outcome_in out) (with_client w (starting (halted (client_part w)) calls end) None)
      by calls (Made there) ends is = record { calls = calls; end = Made there; possible = ends; comes_to = ap outcome_in is; is = refl }
      by calls (Crashes there) ends is = record { calls = calls; end = Crashes there; possible = ends; comes_to = ap outcome_in is; is = refl }
      by calls Lacks ends is = record { calls = calls; end = Lacks; possible = ends; comes_to = ap outcome_in is; is = refl }
      by calls Breaks ends is = record { calls = calls; end = Breaks; possible = ends; comes_to = ap outcome_in is; is = refl }

  -- and no answer waits in that any more
  pub start_in_world : (w : StoreWorld) (out : Outcome) (running : Option Running) (disk : MemDisk) (stop : Option code.Stop) (key : List ℕ) (other : Option (List ℕ)) → IsStartOf f first (halted (client_part w)) out running disk stop key other
      → LeadsClient f first w StartClient out running disk stop key other None
  start_in_world w out running disk stop key other s = (with_client w s.0 None, started_leads w out s.0 s.1, refl, s.2, tt)

  -- Halts.

  -- of a client that runs a crash leaves the same, since nothing is in doubt on its disk
  halts_running : (part : ClientPart) (running : Running) (disk disk' : MemDisk) (stop : Option code.Stop) (key : List ℕ) (other : Option (List ℕ)) → IsClient f first part (Some running) disk stop key other
      → ((disk' ≡ disk) ⊎ ((m : Disk (List ℕ)) → IsDiskOf m disk → (there : Bool) × IsDiskOf (left there m) disk')) → IsClient f first (halted part) None disk' None key other
  halts_running part running disk disk' stop key other is left_or_same =
      let r = running_in f first disk stop key part running other is in
      let commands = r.r.commands in
      let payloads = records_under f first (history_of commands) in
      subst (λ p. IsClient f first (halted p) None disk' None key other) (sym r.part_is)
      (gone_client f first (settled commands) (settled payloads) disk' None key other None (by payloads left_or_same (holds_disk payloads running.journal disk r.runs_as.holds))
      (λ there. ap (λ (d : Disk (List ℕ)). d.records) (same_settled payloads there) ∙ ap (λ (d : Disk Change). records_under f first (history_of d.records)) (sym (same_settled commands there)))
      (λ there. has_key f first (history_of (left there (settled commands)).records) key other (r.runs_as.key_is ∙ ap (λ (d : Disk Change). key_in first (history_of d.records)) (sym (same_settled commands there)))) refl tt)
    where
      by : (payloads : List (List ℕ)) → ((disk' ≡ disk) ⊎ ((m : Disk (List ℕ)) → IsDiskOf m disk → (there : Bool) × IsDiskOf (left there m) disk')) → IsDiskOf (settled payloads) disk → IsDiskOf (settled payloads) disk'
      by payloads (inl same) now = subst (IsDiskOf (settled payloads)) (sym same) now
      by payloads (inr leaves) now = let one = leaves (settled payloads) now in subst (λ m. IsDiskOf m disk') (same_settled payloads one.0) one.1

  pub halts : (part : ClientPart) (running : Option Running) (disk disk' : MemDisk) (stop : Option code.Stop) (key : List ℕ) (other : Option (List ℕ)) (b : Bool) → is_some running ≡ not b → b ≡ false
      → IsClient f first part running disk stop key other → ((disk' ≡ disk) ⊎ ((m : Disk (List ℕ)) → IsDiskOf m disk → (there : Bool) × IsDiskOf (left there m) disk')) → IsClient f first (halted part) None disk' None key other
  halts part None disk disk' stop key other b some e is left_or_same = let clash : false ≡ true = some ∙ ap not e in cc
  halts part (Some running) disk disk' stop key other b some e is left_or_same = halts_running part running disk disk' stop key other is left_or_same

  -- one that doesn't run stays
  pub halts_none : (part : ClientPart) (disk : MemDisk) (stop : Option code.Stop) (key : List ℕ) (other : Option (List ℕ)) → IsClient f first part None disk stop key other → IsClient f first (halted part) None disk stop key other
  halts_none part disk stop key other is = subst (λ p. IsClient f first p None disk stop key other) same is
    where
      by : (client : Option (Client Change (List ℕ))) → client ≡ None
          → part_of part.disk client part.stop ≡ part_of part.disk None (stop_before client part.stop)
      by None e = refl
      by (Some r) e = cc

      same : part ≡ halted part
      same = by part.client (none_in f first disk stop key part other is)

  -- Starts.

  -- a client that was started from what a crash leaves runs, under the last key of its records
  pub made_client : (part : ClientPart) (there : Bool) (running : Running) (disk : MemDisk) (stop stop' : Option code.Stop) (key : List ℕ) (calls : ℕ) → part.stop ≡ stop_in stop → stop_in stop' ≡ later calls (stop_in stop)
      → Holds (records_under f first (history_of (left there part.disk).records)) running.journal disk → IsClientIn f first (history_of (left there part.disk).records) Greets running.state → running.waits ≡ false
      → key ≡ key_in first (history_of (left there part.disk).records) → IsClient f first (starting part calls (Made there)) (Some running) disk stop' key None
  made_client part there running disk stop stop' key calls stop_is after holds is waits key_is =
      let commands = (left there part.disk).records in
      subst (λ d. IsClient f first (record { disk = d; client = Some (record { commands = commands; phase = Greets; waits = false }); stop = later calls part.stop }) (Some running) disk stop' key None) (sym (left_settled part.disk there))
      (runs_client f first (record { commands = commands; phase = Greets; waits = false }) running disk stop' key None (later calls part.stop) (record { holds = holds; is = is; waits = waits; key_is = key_is })
      (ap (later calls) stop_is ∙ sym after) (later_comes calls part.stop))

  module _ (part : ClientPart) (disk disk' : MemDisk) (stop stop' : Option code.Stop) (key : List ℕ) (other : Option (List ℕ)) (calls : ℕ) (is : IsClient f first part None disk stop key other) where
    pub disk_of_client : AreOfClient f first part → IsDiskOfClient f first (λ there. history_of (left there part.disk).records) key other is.payloads
    disk_of_client of = record { client = of; records = is.records; keys = is.keys }

    pub made_start : (running : Option Running) (key' : List ℕ) (other' : Option (List ℕ)) (there : Bool) → IsUnmet stop calls → IsClient f first (starting part calls (Made there)) running disk' stop' key' other'
        → IsStartOf f first part Done running disk' stop' key' other'
    made_start running key' other' there unmet now =
        (starting part calls (Made there), record { calls = calls; end = Made there; ends = subst (EndsCalling calls (Made there)) (sym is.stop_is) (unmet_in stop calls there unmet); comes_to = refl; is = refl }, now)

    stopped_start : (there : Bool) → IsMet stop calls → IsDiskOf (left there is.payloads) disk' → stop' ≡ None → IsStartOf f first part Done None disk' stop' key other
    stopped_start there met on gone = (
      starting part calls (Crashes there),
      record { calls = calls; end = Crashes there; ends = subst (EndsCalling calls (Crashes there)) (sym is.stop_is) (met_in stop calls there met); comes_to = refl; is = refl },
      gone_client f first (left there part.disk) (left there is.payloads) disk' stop' key other None on
          (λ there'. ap (λ (d : Disk (List ℕ)). d.records) (left_left is.payloads there there') ∙ is.records there ∙ ap (λ (d : Disk Change). records_under f first (history_of d.records)) (sym (left_left part.disk there there')))
          (λ there'. subst (λ (d : Disk Change). HasKey f first (history_of d.records) key other) (sym (left_left part.disk there there')) (is.keys there))
          (sym (ap stop_in gone)) tt,
    )

    broken_start : IsDiskOf is.payloads disk' → stop_in stop' ≡ later calls (stop_in stop) → IsStartOf f first part NoMemory None disk' stop' key other
    broken_start on after = (
      starting part calls Breaks,
      record { calls = calls; end = Breaks; ends = tt; comes_to = refl; is = refl },
      gone_client f first part.disk is.payloads disk' stop' key other (later calls part.stop) on is.records is.keys (ap (later calls) is.stop_is ∙ sym after) (later_comes calls part.stop),
    )

    pub failed_start : (why : Unstarted) → IsStartedOf f first (λ there. history_of (left there part.disk).records) key other is.payloads stop (Err why) calls disk'
        → (why ≡ unstarted.Stopped → stop' ≡ None) → (why ≡ unstarted.Broken → stop_in stop' ≡ later calls (stop_in stop)) → IsStartOf f first part (outcome_of_failure why) None disk' stop' key other
    failed_start unstarted.Stopped s gone after = stopped_start (s.1).0 s.0 (s.1).1 (gone refl)
    failed_start unstarted.Broken s gone after = broken_start s (after refl)

  -- without memory nothing has changed
  pub lacking_start : (part : ClientPart) (running : Option Running) (disk : MemDisk) (stop : Option code.Stop) (key : List ℕ) (other : Option (List ℕ)) → part.client ≡ None → IsClient f first part running disk stop key other → IsStartOf f first part NoMemory running disk stop key other
  lacking_start part running disk stop key other none is =
      (part, record { calls = 0; end = Lacks; ends = tt; comes_to = refl; is = λ i. part_of part.disk (none i) part.stop }, is)
