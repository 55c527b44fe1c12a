-- A step of one part of a world of real calls is a step of the whole, and what is promised of the model's world is so of its disks.
use Rattle.std.proofs.Common.{◌≡◌, ℕ, List, Option, sym, subst}
use Rattle.std.specs.Prelude.{map}
use Rattle.client_registry.specs.WordBytes.{word_bytes}
use Rattle.client_registry.specs.declared.word.Word.{Word}
use Rattle.keyed_fn.specs.KeyedFn.{KeyedFn}
use Rattle.outside_memory_disk.specs.declared.mem_disk.MemDisk.{MemDisk}
use Rattle.sse_journal.specs.Files.{Gives}
use Rattle.sse_server.specs.StoreView.{StoreView}
use Rattle.world_disks.specs.declared.stop.Stop as code
use Rattle.world_model.specs.Events.{Event, Find, Send, Leads, left}
use Rattle.world_model.specs.Promises.{IsOfCommand}
use Rattle.world_rules.proofs.Kept.{store_promised}
use Rattle.world_rules.specs.Changes.{Change}
use Rattle.world_rules.specs.Promises.{StoreWorld, IsSizedChange}
use Rattle.world_rules.specs.Rules.{store_rules}
use Rattle.world_server.proofs.Serving.{spelled_left}
use Rattle.world_server.specs.Sides.{IsServer}
use Rattle.world_server.specs.Waiting.{server_part}
use Rattle.world_server.specs.declared.replies.Replies.{Replies}
use Rattle.sse_world.proofs.Reached.{reached_next}
use Rattle.sse_world.specs.Stands.{AreMessages, IsLink, IsServersWork, IsWaiting, outcome_in}
use Rattle.sse_world.specs.declared.event.Outcome.{Outcome}
use Rattle.world_run.specs.Sending.{AreReported, LeadsSending}
use Rattle.world_run.specs.Sides.{IsClient, LeadsClient, LeadsFinding, client_part, words_asked}
use Rattle.world_run.specs.Worlds.{WorldView, Stands, IsPromisedOn, LeadsTo}
use Rattle.world_run.specs.declared.client_side.ClientSide.{ClientSide}
use Rattle.world_run.specs.declared.done.Done.{Done}

module _ (f : KeyedFn) (first : List ℕ) (w : StoreWorld) (world : WorldView) (stands : Stands f first w world) where
  -- a step of the client
  pub client_leads : (e : Event Change (List ℕ)) (out : Outcome) (client : ClientSide) (waiting : Option Replies) → IsOfCommand IsSizedChange e
      → LeadsClient f first w e out client.running client.disk client.stop client.key client.other waiting → LeadsTo f first w e out (record world { client = client; waiting = waiting })
  client_leads e out client waiting sized led =
      let v = led.0 in
      let same = sym led.2 in (
        v,
        led.1,
        record {
          reached = reached_next f first w v e (outcome_in out) sized stands.reached led.1;
          client_is = led.3;
          server_is = subst (λ (x : StoreWorld). IsServer (server_part x) world.store world.server_disk world.server_stop) same stands.server_is;
          link_is = record { messages = subst (λ (x : StoreWorld). AreMessages x.sent world.sent) same (stands.link_is).messages; waits = led.4 };
          asked_are = subst (λ (x : StoreWorld). words_asked x ≡ map word_bytes world.asked) same stands.asked_are;
          dones_are = subst (λ (x : StoreWorld). AreReported x.done world.dones) same stands.dones_are;
        },
      )

  -- a search that it is asked for
  pub finding_leads : (word : List ℕ) (out : Outcome) (client : ClientSide) (asked : List Word)
      → LeadsFinding f first w word out client.running client.disk client.stop client.key client.other asked → LeadsTo f first w (Find word) out (record world { client = client; asked = asked })
  finding_leads word out client asked led =
      let v = led.0 in
      let same = sym led.2 in (
        v,
        led.1,
        record {
          reached = reached_next f first w v (Find word) (outcome_in out) tt stands.reached led.1;
          client_is = led.3;
          server_is = subst (λ (x : StoreWorld). IsServer (server_part x) world.store world.server_disk world.server_stop) same stands.server_is;
          link_is = record {
            messages = subst (λ (x : StoreWorld). AreMessages x.sent world.sent) same (stands.link_is).messages;
            waits = subst (λ (x : StoreWorld). IsWaiting x.waiting world.waiting) same (stands.link_is).waits;
          };
          asked_are = led.4;
          dones_are = subst (λ (x : StoreWorld). AreReported x.done world.dones) same stands.dones_are;
        },
      )

  -- a send
  pub sending_leads : (out : Outcome) (client : ClientSide) (sent : List (List ℕ)) (waiting : Option Replies) (dones : List Done)
      → LeadsSending f first w out client.running client.disk client.stop client.key client.other sent waiting dones
      → LeadsTo f first w Send out (record world { client = client; sent = sent; waiting = waiting; dones = dones })
  sending_leads out client sent waiting dones led =
      let v = led.0 in
      let same = sym led.2 in (
        v,
        led.1,
        record {
          reached = reached_next f first w v Send (outcome_in out) tt stands.reached led.1;
          client_is = led.3;
          server_is = subst (λ (x : StoreWorld). IsServer (server_part x) world.store world.server_disk world.server_stop) same stands.server_is;
          link_is = led.4;
          asked_are = subst (λ (x : StoreWorld). words_asked x ≡ map word_bytes world.asked) same stands.asked_are;
          dones_are = led.5;
        },
      )

  -- a step of the server, after which this link is the world's
  pub server_leads : (e : Event Change (List ℕ)) (out : Outcome) (store : Option StoreView) (disk : MemDisk) (stop : Option code.Stop) (sent : List (List ℕ)) (waiting : Option Replies) → IsOfCommand IsSizedChange e
      → ((v : StoreWorld) × Leads (store_rules f first) w e (outcome_in out) v × IsServersWork w v × IsServer (server_part v) store disk stop × IsLink v sent waiting)
      → LeadsTo f first w e out (record world { store = store; server_disk = disk; server_stop = stop; sent = sent; waiting = waiting })
  server_leads e out store disk stop sent waiting sized led =
      let v = led.0 in
      let same = sym led.2 in (
        v,
        led.1,
        record {
          reached = reached_next f first w v e (outcome_in out) sized stands.reached led.1;
          client_is = subst (λ (x : StoreWorld). IsClient f first (client_part x) (world.client).running (world.client).disk (world.client).stop (world.client).key (world.client).other) same stands.client_is;
          server_is = led.3;
          link_is = led.4;
          asked_are = subst (λ (x : StoreWorld). words_asked x ≡ map word_bytes world.asked) same stands.asked_are;
          dones_are = subst (λ (x : StoreWorld). AreReported x.done world.dones) same stands.dones_are;
        },
      )

  -- one that leaves the link alone
  pub alone_leads : (e : Event Change (List ℕ)) (out : Outcome) (store : Option StoreView) (disk : MemDisk) (stop : Option code.Stop) → IsOfCommand IsSizedChange e
      → ((v : StoreWorld) × Leads (store_rules f first) w e (outcome_in out) v × IsServersWork w v × (v.waiting ≡ w.waiting) × IsServer (server_part v) store disk stop)
      → LeadsTo f first w e out (record world { store = store; server_disk = disk; server_stop = stop })
  alone_leads e out store disk stop sized led =
      server_leads e out store disk stop world.sent world.waiting sized (
        led.0,
        led.1,
        led.2,
        led.4,
        record {
          messages = subst (λ (x : StoreWorld). AreMessages x.sent world.sent) (sym led.2) (stands.link_is).messages;
          waits = subst (λ r. IsWaiting r world.waiting) (sym led.3) (stands.link_is).waits;
        },
      )

  -- what a crash leaves of both disks is as the store promises
  pub promised_on : IsPromisedOn f first w world
  promised_on image image' is is' =
      let c = stands.client_is in
      let one = c.disk_is image is in
      let other = (stands.server_is).disk_is image' is' in (
        (left one.0 w.client_disk).records,
        (left other.0 w.server_disk).records,
        subst (λ records. Gives records image) (c.records one.0) one.1,
        subst (λ d. Gives d.records image') (spelled_left w.server_disk other.0) other.1,
        store_promised f first (stands.reached).events w (stands.reached).sized (stands.reached).led one.0 other.0,
      )
