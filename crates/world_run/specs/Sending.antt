-- What a client sends and reports.
use Rattle.std.specs.Prelude.{◌≡◌, ℕ, ◌-◌, ◌≤◌, Bool, true, false, List, [], ◌∷◌, length, Option, Some}
use Rattle.client_registry.specs.Run.{History}
use Rattle.keyed_fn.specs.KeyedFn.{KeyedFn}
use Rattle.outside_memory_disk.specs.declared.mem_disk.MemDisk.{MemDisk}
use Rattle.sse_frames.specs.Replies.{ReplyText}
use Rattle.sse_model.specs.Epochs.{key_in}
use Rattle.world_disks.specs.declared.stop.Stop as code
use Rattle.world_model.specs.World.{Phase}
use Rattle.world_model.specs.World as model
use Rattle.world_model.specs.Events.{Send, Leads}
use Rattle.world_rules.specs.Promises.{StoreWorld, ids_shown}
use Rattle.world_rules.specs.Rules.{store_rules}
use Rattle.world_client.specs.Answering.{frame_in}
use Rattle.world_client.specs.Clients.{IsClientIn}
use Rattle.world_client.specs.Histories.{IsOfClient}
use Rattle.world_client.specs.declared.report.Report.{Report}
use Rattle.world_client.specs.declared.report.Report.TheVariants as report
use Rattle.world_client.specs.declared.state.State.{State}
use Rattle.world_client.specs.declared.state.State.TheVariants as states
use Rattle.world_server.specs.declared.replies.Replies.{Replies}
use Rattle.sse_world.specs.Reached.{IsReached}
use Rattle.sse_world.specs.Stands.{IsLink, outcome_in}
use Rattle.sse_world.specs.declared.event.Outcome.{Outcome}
use Rattle.world_run.specs.Sides.{IsClient, client_part}
use Rattle.world_run.specs.declared.done.Done.{Done}
use Rattle.world_run.specs.declared.done.Done.TheVariants as done
use Rattle.world_run.specs.declared.running.Running.{Running}

-- this was reported as that
abbrev pub IsReported : model.Done (List ReplyText) → Done → Type 0
IsReported (model.Updated i) (done.Updated place) = place ≡ i
IsReported (model.Updated i) (done.Found place ids) = ⊥
IsReported (model.Found i replies) (done.Updated place) = ⊥
IsReported (model.Found i replies) (done.Found place ids) = (place ≡ i) × (ids.items ≡ ids_shown replies)

-- in their order
abbrev pub AreReported : List (model.Done (List ReplyText)) → List Done → Type 0
AreReported [] [] = Unit {0}
AreReported [] (told ∷ dones) = ⊥
AreReported (d ∷ ds) [] = ⊥
AreReported (d ∷ ds) (told ∷ dones) = IsReported d told × AreReported ds dones

-- what a client reports of the last of so many commands, or of the last of so many searches
abbrev pub done_of : Report → (commands searches : ℕ) → List Done
done_of report.Nothing commands searches = []
done_of report.Updated commands searches = done.Updated (commands - 1) ∷ []
done_of (report.Found ids) commands searches = done.Found (searches - 1) ids ∷ []

-- a client with no setup, or with nothing to send
abbrev pub is_idle : State → Bool
is_idle (states.Greeting client) = false
is_idle (states.Fresh client) = true
is_idle (states.Resting client) = true
is_idle (states.Sending client) = false
is_idle (states.Asking client word) = false

-- a client in this phase after a history, with its key; its frame is no longer than a frame can be
pub record CanSend (f : KeyedFn) (first : List ℕ) (h : History) (phase : Phase (List ℕ)) (state : State) (key : List ℕ) : Type 0 where
  pub history : IsOfClient f first h
  pub is : IsClientIn f first h phase state
  pub key_is : key ≡ key_in first h
  pub short : (bytes : List ℕ) → frame_in f first h phase ≡ Some bytes → length bytes ≤ 541709

-- nothing has changed but the client, what was sent, what waits and what was reported
abbrev pub with_sending : (w v : StoreWorld) → StoreWorld
with_sending w v = record w { client = v.client; sent = v.sent; waiting = v.waiting; done = v.done }

module _ (f : KeyedFn) (first : List ℕ) (w : StoreWorld) where
  -- a client of a world that is reached, its link, what it reported, and how many searches were made
  pub record IsSender (running : Option Running) (disk : MemDisk) (stop : Option code.Stop) (key : List ℕ) (other : Option (List ℕ)) (sent : List (List ℕ)) (waiting : Option Replies) (dones : List Done) (searches : ℕ) : Type 0 where
    pub reached : IsReached f first w
    pub is : IsClient f first (client_part w) running disk stop key other
    pub link : IsLink w sent waiting
    pub reported : AreReported w.done dones
    pub searched : searches ≡ length w.searches

  -- Send leads to a world of which this is so again
  abbrev pub LeadsSending : Outcome → Option Running → MemDisk → Option code.Stop → (key : List ℕ) → (other : Option (List ℕ)) → (sent : List (List ℕ)) → Option Replies → List Done → Type 0
  LeadsSending out running disk stop key other sent waiting dones =
      (v : StoreWorld) × Leads (store_rules f first) w Send (outcome_in out) v × (v ≡ with_sending w v) × IsClient f first (client_part v) running disk stop key other × IsLink v sent waiting × AreReported v.done dones
