-- The side that runs a client's part: one that runs, and one that doesn't.
use Rattle.std.proofs.Common.{◌≡◌, ℕ, Bool, true, false, Option, List, None, Some, inl, refl, sym, ap, ◌∙◌, subst}
use Rattle.std.specs.Prelude.{IfSome, ◌<◌}
use Rattle.std.proofs.lemmas.List.{append-nil}
use Rattle.client_registry.specs.Run.{History}
use Rattle.keyed_fn.specs.KeyedFn.{KeyedFn}
use Rattle.outside_memory_disk.specs.declared.mem_disk.MemDisk.{MemDisk}
use Rattle.sse_model.specs.Epochs.{key_in}
use Rattle.world_disks.proofs.Left.{holds_disk}
use Rattle.world_disks.specs.Disks.{IsDiskOf}
use Rattle.world_disks.specs.declared.stop.Stop as code
use Rattle.world_model.specs.World.{Disk, Client, Stop}
use Rattle.world_model.specs.Events.{left, settled}
use Rattle.world_rules.specs.Changes.{Change, history_of}
use Rattle.world_client.specs.Histories.{records_under}
use Rattle.world_client.specs.Starting.{HasKey}
use Rattle.world_server.specs.Sides.{stop_in}
use Rattle.world_run.specs.Sides.{ClientPart, RunsAs, Runs, IsClient}
use Rattle.world_run.specs.declared.running.Running.{Running}

-- What a crash leaves where nothing is in doubt.

pub same_settled : {X : Type 0} (xs : List X) (there : Bool) → left there (settled xs) ≡ settled xs
same_settled xs true = ap settled (append-nil xs)
same_settled xs false = refl

pub left_settled : {X : Type 0} (d : Disk X) (there : Bool) → left there d ≡ settled (left there d).records
left_settled d true = refl
left_settled d false = refl

pub left_left : {X : Type 0} (d : Disk X) (there there' : Bool) → left there' (left there d) ≡ left there d
left_left d there there' = ap (left there') (left_settled d there) ∙ same_settled (left there d).records there' ∙ sym (left_settled d there)

module _ (f : KeyedFn) (first : List ℕ) where
  -- the key of a history is one of two
  pub has_key : (h : History) (key : List ℕ) (other : Option (List ℕ)) → key ≡ key_in first h → HasKey f first h key other
  has_key None key other e = e
  has_key (Some es) key other e = (inl e, λ same. e)

  pub runs_client : (r : Client Change (List ℕ)) (running : Running) (disk : MemDisk) (stop : Option code.Stop) (key : List ℕ) (other : Option (List ℕ)) (m : Option Stop) → RunsAs f first r running disk key
      → m ≡ stop_in stop → IfSome m (λ s. 0 < s.call) → IsClient f first (record { disk = settled r.commands; client = Some r; stop = m }) (Some running) disk stop key other
  runs_client r running disk stop key other m runs_as e comes =
      let payloads = records_under f first (history_of r.commands) in
      record {
        payloads = settled payloads;
        disk_is = holds_disk payloads running.journal disk runs_as.holds;
        records = λ there. ap (λ (d : Disk (List ℕ)). d.records) (same_settled payloads there) ∙ ap (λ (d : Disk Change). records_under f first (history_of d.records)) (sym (same_settled r.commands there));
        keys = λ there. has_key (history_of (left there (settled r.commands)).records) key other (runs_as.key_is ∙ ap (λ (d : Disk Change). key_in first (history_of d.records)) (sym (same_settled r.commands there)));
        runs = (refl, runs_as);
        stop_is = e;
        to_come = comes;
      }

  pub gone_client : (model : Disk Change) (payloads : Disk (List ℕ)) (disk : MemDisk) (stop : Option code.Stop) (key : List ℕ) (other : Option (List ℕ)) (m : Option Stop) → IsDiskOf payloads disk
      → ((there : Bool) → (left there payloads).records ≡ records_under f first (history_of (left there model).records)) → ((there : Bool) → HasKey f first (history_of (left there model).records) key other)
      → m ≡ stop_in stop → IfSome m (λ s. 0 < s.call) → IsClient f first (record { disk = model; client = None; stop = m }) None disk stop key other
  gone_client model payloads disk stop key other m is records keys e comes = record { payloads = payloads; disk_is = is; records = records; keys = keys; runs = tt; stop_is = e; to_come = comes }

  -- the part that a side runs whose client runs
  pub record IsRunning (part : ClientPart) (running : Running) (disk : MemDisk) (stop : Option code.Stop) (key : List ℕ) : Type 0 where
    pub r : Client Change (List ℕ)
    pub part_is : part ≡ record { disk = settled r.commands; client = Some r; stop = stop_in stop }
    pub runs_as : RunsAs f first r running disk key
    pub to_come : IfSome (stop_in stop) (λ s. 0 < s.call)

  module _ (disk : MemDisk) (stop : Option code.Stop) (key : List ℕ) where
    pub running_in : (part : ClientPart) (running : Running) (other : Option (List ℕ)) → IsClient f first part (Some running) disk stop key other → IsRunning part running disk stop key
    running_in part running other is = by part.disk part.client part.stop is.runs is.stop_is is.to_come
      where
        by : (model : Disk Change) (client : Option (Client Change (List ℕ))) (m : Option Stop) → Runs f first model client (Some running) disk key → m ≡ stop_in stop → IfSome m (λ s. 0 < s.call)
            → IsRunning (record { disk = model; client = client; stop = m }) running disk stop key
        by model None m runs e comes = absurd runs
        by model (Some r) m runs e comes =
            record { r = r; part_is = λ i. record { disk = runs.0 i; client = Some r; stop = e i }; runs_as = runs.1; to_come = subst (λ o. IfSome o (λ s. 0 < s.call)) e comes }

    pub none_in : (part : ClientPart) (other : Option (List ℕ)) → IsClient f first part None disk stop key other → part.client ≡ None
    none_in part other is = by part.disk part.client is.runs
      where
        by : (model : Disk Change) (client : Option (Client Change (List ℕ))) → Runs f first model client None disk key → client ≡ None
        by model None runs = refl
        by model (Some r) runs = absurd runs

    -- the same side with the same client
    pub runs_on : (part : ClientPart) (running running' : Running) (disk' : MemDisk) (other : Option (List ℕ)) → (is : IsRunning part running disk stop key)
        → RunsAs f first is.r running' disk' key → IsClient f first part (Some running') disk' stop key other
    runs_on part running running' disk' other is runs_as =
        subst (λ p. IsClient f first p (Some running') disk' stop key other) (sym is.part_is) (runs_client is.r running' disk' stop key other (stop_in stop) runs_as refl is.to_come)
