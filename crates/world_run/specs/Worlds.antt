-- A world of real calls and the model's, its events, and what is promised of both disks.
use Rattle.std.specs.Prelude.{◌≡◌, ℕ, List, [], ◌∷◌, length, map, Option}
use Rattle.client_registry.specs.WordBytes.{word_bytes}
use Rattle.client_registry.specs.declared.word.Word.{Word}
use Rattle.keyed_fn.specs.KeyedFn.{KeyedFn}
use Rattle.outside_memory_disk.specs.MemDisk.{images_of}
use Rattle.outside_memory_disk.specs.declared.mem_disk.MemDisk.{MemDisk}
use Rattle.sse_frames.specs.Frames.{FrameText}
use Rattle.sse_journal.specs.Files.{Gives}
use Rattle.sse_server.specs.StoreView.{StoreView}
use Rattle.sse_server.specs.Taken.{bodies}
use Rattle.world_client.specs.Histories.{records_under}
use Rattle.world_disks.specs.declared.stop.Stop as code
use Rattle.world_model.specs.World.{at_first}
use Rattle.world_model.specs.Events as model
use Rattle.world_model.specs.Events.{Leads}
use Rattle.world_rules.specs.Changes.{Change, history_of}
use Rattle.world_rules.specs.Promises.{StoreWorld, KeepsStore}
use Rattle.world_rules.specs.Rules.{store_rules}
use Rattle.world_server.specs.Sides.{IsServer}
use Rattle.world_server.specs.Waiting.{server_part}
use Rattle.world_server.specs.declared.replies.Replies.{Replies}
use Rattle.sse_world.specs.Reached.{IsReached}
use Rattle.sse_world.specs.Stands.{IsLink, outcome_in}
use Rattle.sse_world.specs.declared.event.Outcome.{Outcome}
use Rattle.world_run.specs.Commands.{change_of}
use Rattle.world_run.specs.Sending.{AreReported}
use Rattle.world_run.specs.Sides.{IsClient, client_part, words_asked}
use Rattle.world_run.specs.declared.behind.Behind.{Behind}
use Rattle.world_run.specs.declared.client_side.ClientSide.{ClientSide}
use Rattle.world_run.specs.declared.done.Done.{Done}
use Rattle.world_run.specs.declared.event.Event.{Event}
use Rattle.world_run.specs.declared.event.Event.TheVariants as event

-- the model's event
abbrev pub event_in : Event → model.Event Change (List ℕ)
event_in (event.Command command) = model.Command (change_of command)
event_in (event.Find word) = model.Find (word_bytes word)
event_in event.Send = model.Send
event_in (event.Deliver place) = model.Deliver place
event_in event.LoseReply = model.LoseReply
event_in (event.StopClient call pick) = model.StopClient call pick
event_in (event.StopServer call pick) = model.StopServer call pick
event_in event.StartClient = model.StartClient
event_in event.StartServer = model.StartServer

-- a world of real calls: the client's side; the server's store where it runs, its disk and the stop that hasn't come yet; the frames that
-- were sent, the reply that waits, the words that were looked for, and what was reported
pub record WorldView : Type 0 where
  pub client : ClientSide
  pub store : Option StoreView
  pub server_disk : MemDisk
  pub server_stop : Option code.Stop
  pub sent : List (List ℕ)
  pub waiting : Option Replies
  pub asked : List Word
  pub dones : List Done

module _ (f : KeyedFn) (first : List ℕ) where
  -- the model's world, to which events lead from the beginning, is this one of real calls
  pub record Stands (w : StoreWorld) (world : WorldView) : Type 0 where
    pub reached : IsReached f first w
    pub client_is : IsClient f first (client_part w) world.client.running world.client.disk world.client.stop world.client.key world.client.other
    pub server_is : IsServer (server_part w) world.store world.server_disk world.server_stop
    pub link_is : IsLink w world.sent world.waiting
    pub asked_are : words_asked w ≡ map word_bytes world.asked
    pub dones_are : AreReported w.done world.dones

  -- Each file that a crash may leave of the client's disk gives the records of a client's commands, and each that it may leave of the
  -- server's gives the bodies of frames; of those commands and frames all is so that a store promises.
  abbrev pub IsPromisedOn : StoreWorld → WorldView → Type 0
  IsPromisedOn w world = (image image' : List ℕ) → images_of world.client.disk image → images_of world.server_disk image' →
      (commands : List Change) × (taken : List FrameText) × Gives (records_under f first (history_of commands)) image × Gives (bodies taken) image' × KeepsStore f first commands taken w

  -- an event with this outcome leads to a world that is this one of real calls
  abbrev pub LeadsTo : StoreWorld → model.Event Change (List ℕ) → Outcome → WorldView → Type 0
  LeadsTo w e out world = (v : StoreWorld) × Leads (store_rules f first) w e (outcome_in out) v × Stands v world

  -- these events lead from one world to the other; beside each stands what it came to, and how many reports there were behind it
  abbrev pub Passes : StoreWorld → List Event → List Behind → StoreWorld → Type 0
  Passes w [] [] v = v ≡ w
  Passes w [] (b ∷ behinds) v = ⊥
  Passes w (e ∷ events) [] v = ⊥
  Passes w (e ∷ events) (b ∷ behinds) v = (mid : StoreWorld) × Leads (store_rules f first) w (event_in e) (outcome_in b.outcome) mid × (b.reports ≡ length mid.done) × Passes mid events behinds v

  -- they lead from the beginning to a world that is this one of real calls
  abbrev pub PassesTo : List Event → List Behind → WorldView → Type 0
  PassesTo events behinds world = (w : StoreWorld) × Passes at_first events behinds w × Stands w world × IsPromisedOn w world
