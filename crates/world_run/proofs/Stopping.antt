-- A client in a world stops, loses its answer, or is to stop later; and the client of a new world.
use Rattle.std.proofs.Common.{arith, ◌≡◌, ◌≢◌, ℕ, zero, suc, Bool, true, false, Option, List, None, Some, refl, sym, ap, ◌∙◌, subst}
use Rattle.std.specs.Prelude.{IfSome, OnOk, Result, Ok, Err, is_err, ◌<◌}
use Rattle.keyed_fn.specs.KeyedFn.{KeyedFn}
use Rattle.outside_memory_disk.specs.declared.mem_disk.MemDisk.{MemDisk}
use Rattle.sse_journal.specs.declared.journal.Journal.{Journal}
use Rattle.world_client.proofs.Leading.{lose_leads, lose_none, stop_leads}
use Rattle.world_client.specs.Histories.{records_under}
use Rattle.world_client.specs.Starting.{HasKey}
use Rattle.world_disks.specs.Disks.{Holds, IsDiskOf}
use Rattle.world_disks.specs.declared.stop.Stop as code
use Rattle.world_model.specs.World.{Client, Disk, Stop}
use Rattle.world_model.specs.Events.{Lacks, LoseReply, StopClient, left, client_gone}
use Rattle.world_rules.specs.Changes.{Change, history_of}
use Rattle.world_rules.specs.Promises.{StoreWorld}
use Rattle.world_rules.specs.Rules.{store_rules}
use Rattle.world_server.specs.Sides.{stop_in}
use Rattle.world_server.specs.declared.replies.Replies.{Replies}
use Rattle.sse_world.specs.Stands.{IsWaiting}
use Rattle.sse_world.specs.declared.event.Outcome.TheVariants as outcome
use Rattle.world_run.proofs.Sends.{IsAnswer, none_waits, some_waits}
use Rattle.world_run.proofs.Sides.{gone_client, left_left}
use Rattle.world_run.specs.Sides.{ClientPart, IsClient, LeadsClient, Runs, RunsAs, client_part}
use Rattle.world_run.specs.declared.running.Running.{Running}

-- what is so of a call that didn't fail
pub of_ok : {X E : Type 0} (r : Result X E) (P : Type 0) → is_err r ≡ false → OnOk r P → P
of_ok (Ok x) P e p = p
of_ok (Err x) P e p = cc

module _ (f : KeyedFn) (first : List ℕ) where
  -- a side that doesn't run any more
  pub gone_part : (part : ClientPart) (running : Option Running) (disk : MemDisk) (stop : Option code.Stop) (key : List ℕ) (other : Option (List ℕ)) → IsClient f first part running disk stop key other
      → IsClient f first (record part { client = None }) None disk stop key other
  gone_part part running disk stop key other is = gone_client f first part.disk is.payloads disk stop key other part.stop is.disk_is is.records is.keys is.stop_is is.to_come

  -- and whose disk is what a crash leaves
  pub crashed_part : (part : ClientPart) (running : Option Running) (disk disk' : MemDisk) (stop : Option code.Stop) (key : List ℕ) (other : Option (List ℕ)) → IsClient f first part running disk stop key other
      → ((model : Disk (List ℕ)) → IsDiskOf model disk → (there : Bool) × IsDiskOf (left there model) disk') → (there : Bool) × IsClient f first (record { disk = left there part.disk; client = None; stop = None }) None disk' None key other
  crashed_part part running disk disk' stop key other is settles =
      let one = settles is.payloads is.disk_is in
      let same : (there : Bool) → left there (left one.0 part.disk) ≡ left one.0 part.disk = λ there. left_left part.disk one.0 there in (
        one.0,
        gone_client f first (left one.0 part.disk) (left one.0 is.payloads) disk' None key other None one.1
            (λ there. ap (λ (d : Disk (List ℕ)). d.records) (left_left is.payloads one.0 there) ∙ is.records one.0 ∙ ap (λ (d : Disk Change). records_under f first (history_of d.records)) (sym (same there)))
            (λ there. subst (λ (d : Disk Change). HasKey f first (history_of d.records) key other) (sym (same there)) (is.keys one.0))
            refl tt,
      )

  -- another disk of the same records
  runs_on_disk : (model : Disk Change) (client : Option (Client Change (List ℕ))) (running : Option Running) (disk disk' : MemDisk) (key : List ℕ)
      → ((payloads : List (List ℕ)) (journal : Journal) → Holds payloads journal disk → Holds payloads journal disk') → Runs f first model client running disk key → Runs f first model client running disk' key
  runs_on_disk model None None disk disk' key holds runs = tt
  runs_on_disk model None (Some running) disk disk' key holds runs = absurd runs
  runs_on_disk model (Some r) None disk disk' key holds runs = absurd runs
  runs_on_disk model (Some r) (Some running) disk disk' key holds runs =
      let so : RunsAs f first r running disk key = runs.1 in (runs.0, record { holds = holds (records_under f first (history_of r.commands)) running.journal so.holds; is = so.is; waits = so.waits; key_is = so.key_is })

  -- a stop is to come
  pub planned_part : (part : ClientPart) (running : Option Running) (disk disk' : MemDisk) (stop stop' : Option code.Stop) (key : List ℕ) (other : Option (List ℕ)) (m : Option Stop) → IsClient f first part running disk stop key other
      → ((model : Disk (List ℕ)) → IsDiskOf model disk → IsDiskOf model disk') → ((payloads : List (List ℕ)) (journal : Journal) → Holds payloads journal disk → Holds payloads journal disk')
      → m ≡ stop_in stop' → IfSome m (λ s. 0 < s.call) → IsClient f first (record part { stop = m }) running disk' stop' key other
  planned_part part running disk disk' stop stop' key other m is on holds e comes = record {
    payloads = is.payloads;
    disk_is = on is.payloads is.disk_is;
    records = is.records;
    keys = is.keys;
    runs = runs_on_disk part.disk part.client running disk disk' key holds is.runs;
    stop_is = e;
    to_come = comes;
  }

  module _ (w : StoreWorld) (running : Option Running) (disk : MemDisk) (stop : Option code.Stop) (key : List ℕ) (other : Option (List ℕ)) (waiting : Option Replies) (is : IsClient f first (client_part w) running disk stop key other) (waits : IsWaiting w.waiting waiting) where
    -- no answer waits
    pub none_lost : (now : Option Replies) → waiting ≡ None → now ≡ None → LeadsClient f first w LoseReply outcome.Nothing running disk stop key other now
    none_lost now none still = (w, lose_none (store_rules f first) w (none_waits w.waiting waiting waits none), refl, is, subst (IsWaiting w.waiting) (none ∙ sym still) waits)

    -- the one that waits is lost
    pub some_lost : (replies : Replies) (after : Option Running) (now : Option Replies) → waiting ≡ Some replies → after ≡ None → now ≡ None → LeadsClient f first w LoseReply outcome.Done after disk stop key other now
    some_lost replies after now some gone none =
        let a : IsAnswer w.waiting replies = some_waits w.waiting waiting replies waits some in
        subst (λ r. LeadsClient f first w LoseReply outcome.Done r disk stop key other now) (sym gone) (subst (λ o. LeadsClient f first w LoseReply outcome.Done None disk stop key other o) (sym none)
        (client_gone (store_rules f first) w w.client_disk, lose_leads (store_rules f first) w a.reply a.waiting_is, refl, gone_part (client_part w) running disk stop key other is, tt))

    -- it stops now
    pub stopped_now : (call pick : ℕ) (disk' : MemDisk) (after : Option Running) (now : Option Replies) → call ≡ 0 → ((model : Disk (List ℕ)) → IsDiskOf model disk → (there : Bool) × IsDiskOf (left there model) disk')
        → after ≡ None → now ≡ None → LeadsClient f first w (StopClient call pick) outcome.Done after disk' None key other now
    stopped_now call pick disk' after now zero_is settles gone none =
        let one = crashed_part (client_part w) running disk disk' stop key other is settles in
        subst (λ r. LeadsClient f first w (StopClient call pick) outcome.Done r disk' None key other now) (sym gone) (subst (λ o. LeadsClient f first w (StopClient call pick) outcome.Done None disk' None key other o) (sym none)
        (subst (λ n. LeadsClient f first w (StopClient n pick) outcome.Done None disk' None key other None) (sym zero_is)
        (client_gone (store_rules f first) (record w { client_stop = None }) (left one.0 w.client_disk), stop_leads (store_rules f first) w 0 pick one.0, refl, one.1, tt)))

    -- there is no memory for the image
    pub stop_lacking : (call pick : ℕ) (disk' : MemDisk) → disk' ≡ disk → LeadsClient f first w (StopClient call pick) outcome.NoMemory running disk' stop key other waiting
    stop_lacking call pick disk' same =
        (w, record { calls = 0; end = Lacks; possible = (refl, tt); comes_to = refl; is = refl }, refl, subst (λ d. IsClient f first (client_part w) running d stop key other) (sym same) is, waits)

    -- it is to stop later
    pub stops_later : (call pick : ℕ) (disk' : MemDisk) → call ≢ 0 → ((model : Disk (List ℕ)) → IsDiskOf model disk → IsDiskOf model disk')
        → ((payloads : List (List ℕ)) (journal : Journal) → Holds payloads journal disk → Holds payloads journal disk')
        → LeadsClient f first w (StopClient call pick) outcome.Done running disk' (Some (record { call = call; pick = pick })) key other waiting
    stops_later zero pick disk' not on holds = absurd (not refl)
    stops_later (suc call) pick disk' not on holds =
        let m : Option Stop = Some (record { call = suc call; pick = pick }) in (
          record w { client_stop = m },
          stop_leads (store_rules f first) w (suc call) pick true,
          refl,
          planned_part (client_part w) running disk disk' stop (Some (record { call = suc call; pick = pick })) key other m is on holds refl (omega arith),
          waits,
        )
