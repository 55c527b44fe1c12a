-- The client's part of a world, and the side of a program that runs it.
use Rattle.std.specs.Prelude.{◌≡◌, ◌<◌, ℕ, ◌&&◌, not, Bool, true, false, List, [], ◌∷◌, ◌++◌, map, Option, None, Some, IfSome}
use Rattle.client_registry.specs.Histories.{is_set_up}
use Rattle.client_registry.specs.Run.{History}
use Rattle.client_registry.specs.WordBytes.{word_bytes}
use Rattle.client_registry.specs.declared.word.Word.{Word}
use Rattle.keyed_fn.specs.KeyedFn.{KeyedFn}
use Rattle.outside_memory_disk.specs.declared.mem_disk.MemDisk.{MemDisk}
use Rattle.sse_frames.specs.Replies.{ReplyText}
use Rattle.sse_model.specs.Epochs.{key_in}
use Rattle.world_disks.specs.Disks.{IsDiskOf, Holds}
use Rattle.world_disks.specs.declared.stop.Stop as code
use Rattle.world_model.specs.World.{Disk, Phase, Asks, Client, Reply, Stop}
use Rattle.world_model.specs.Events.{Event, Find, Leads, left, settled, rests, stop_before}
use Rattle.world_rules.specs.Changes.{Change, history_of}
use Rattle.world_rules.specs.Promises.{StoreWorld}
use Rattle.world_rules.specs.Rules.{store_rules}
use Rattle.world_client.specs.Clients.{IsClientIn}
use Rattle.world_client.specs.Histories.{records_under}
use Rattle.world_client.specs.Starting.{HasKey}
use Rattle.world_client.specs.declared.state.State.{State}
use Rattle.world_client.specs.declared.state.State.TheVariants as states
use Rattle.world_server.specs.Sides.{stop_in}
use Rattle.world_server.specs.declared.replies.Replies.{Replies}
use Rattle.sse_world.specs.Stands.{IsWaiting, outcome_in}
use Rattle.sse_world.specs.declared.event.Outcome.{Outcome}
use Rattle.sse_world.specs.declared.event.Outcome.TheVariants as outcome
use Rattle.world_run.specs.declared.running.Running.{Running}

-- its disk; what runs of it; and the stop that hasn't come yet
pub record ClientPart : Type 0 where
  pub disk : Disk Change
  pub client : Option (Client Change (List ℕ))
  pub stop : Option Stop

abbrev pub client_part : StoreWorld → ClientPart
client_part w = record { disk = w.client_disk; client = w.client; stop = w.client_stop }

abbrev pub with_client : StoreWorld → ClientPart → Option (Reply (List ReplyText)) → StoreWorld
with_client w part waiting = record w { client_disk = part.disk; client = part.client; client_stop = part.stop; waiting = waiting }

-- a client that runs is stopped before it is started
abbrev pub halted : ClientPart → ClientPart
halted part = record part { client = None; stop = stop_before part.client part.stop }

-- the words that were looked for
abbrev pub words_asked : StoreWorld → List (List ℕ)
words_asked w = map (λ a. a.word) w.searches

-- a client that is set up and has nothing to send
abbrev pub is_resting : State → Bool
is_resting (states.Greeting client) = false
is_resting (states.Fresh client) = false
is_resting (states.Resting client) = true
is_resting (states.Sending client) = false
is_resting (states.Asking client word) = false

-- asks for this word; any other stays
abbrev pub asked_in : State → Word → State
asked_in (states.Greeting client) word = states.Greeting client
asked_in (states.Fresh client) word = states.Fresh client
asked_in (states.Resting client) word = states.Asking client word
asked_in (states.Sending client) word = states.Sending client
asked_in (states.Asking client before) word = states.Asking client before

module _ (f : KeyedFn) (first : List ℕ) where
  -- a client that runs: its journal has the records of its commands and takes more, it is in its phase, and it has the last key
  pub record RunsAs (r : Client Change (List ℕ)) (running : Running) (disk : MemDisk) (key : List ℕ) : Type 0 where
    pub holds : Holds (records_under f first (history_of r.commands)) running.journal disk
    pub is : IsClientIn f first (history_of r.commands) r.phase running.state
    pub waits : running.waits ≡ r.waits
    pub key_is : key ≡ key_in first (history_of r.commands)

  -- it runs if and only if the model's does, and then nothing is in doubt on its disk
  abbrev pub Runs : Disk Change → Option (Client Change (List ℕ)) → Option Running → MemDisk → (key : List ℕ) → Type 0
  Runs model None None disk key = Unit {0}
  Runs model (Some r) (Some running) disk key = (model ≡ settled r.commands) × RunsAs r running disk key
  Runs model _ _ disk key = ⊥

  -- the side that runs this part
  pub record IsClient (part : ClientPart) (running : Option Running) (disk : MemDisk) (stop : Option code.Stop) (key : List ℕ) (other : Option (List ℕ)) : Type 0 where
    -- its disk has the records of its commands, and in doubt that of the one in doubt
    pub payloads : Disk (List ℕ)
    pub disk_is : IsDiskOf payloads disk
    pub records : (there : Bool) → (left there payloads).records ≡ records_under f first (history_of (left there part.disk).records)
    -- whatever a crash leaves of them, its key or the other one is the last
    pub keys : (there : Bool) → HasKey f first (history_of (left there part.disk).records) key other
    pub runs : Runs part.disk part.client running disk key
    pub stop_is : part.stop ≡ stop_in stop
    -- a stop that hasn't come yet is still to come
    pub to_come : IfSome part.stop (λ s. 0 < s.call)

  -- an event leads from the world to one that this side runs, with this answer waiting; nothing else has changed
  abbrev pub LeadsClient : StoreWorld → Event Change (List ℕ) → Outcome → Option Running → MemDisk → Option code.Stop → (key : List ℕ) → (other : Option (List ℕ)) → Option Replies → Type 0
  LeadsClient w e out running disk stop key other waiting =
      (v : StoreWorld) × Leads (store_rules f first) w e (outcome_in out) v × (v ≡ with_client w (client_part v) v.waiting) × IsClient (client_part v) running disk stop key other × IsWaiting v.waiting waiting

  -- the same of a search, which comes behind all that were made
  abbrev pub LeadsFinding : StoreWorld → (word : List ℕ) → Outcome → Option Running → MemDisk → Option code.Stop → (key : List ℕ) → (other : Option (List ℕ)) → (asked : List Word) → Type 0
  LeadsFinding w word out running disk stop key other asked =
      (v : StoreWorld) × Leads (store_rules f first) w (Find word) (outcome_in out) v × (v ≡ record w { client = v.client; searches = v.searches })
      × IsClient (client_part v) running disk stop key other × (words_asked v ≡ map word_bytes asked)

  -- A client that runs was to look for a word. It asks for it, if it has a setup and nothing to send, and waits for nothing; or there was
  -- no memory.
  abbrev pub can_ask : History → Phase (List ℕ) → (waits : Bool) → Bool
  can_ask h phase waits = (rests (store_rules f first) phase && not waits) && is_set_up h

  abbrev pub IsAsking : History → Phase (List ℕ) → (before : Running) → Word → (asked asked' : List Word) → Outcome → (after : Running) → Type 0
  IsAsking h phase before word asked asked' outcome.Done after =
      (can_ask h phase before.waits ≡ true) × IsClientIn f first h (Asks (word_bytes word)) after.state × (after.journal ≡ before.journal) × (after.waits ≡ false) × (asked' ≡ asked ++ word ∷ [])
  IsAsking h phase before word asked asked' outcome.Nothing after = (can_ask h phase before.waits ≡ false) × (after ≡ before) × (asked' ≡ asked)
  IsAsking h phase before word asked asked' outcome.NoMemory after = (after ≡ before) × (asked' ≡ asked)
