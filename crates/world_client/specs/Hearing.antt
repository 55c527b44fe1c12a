-- What a client makes of a whole answer, and what it reports.
use Rattle.std.specs.Prelude.{◌≡◌, ◌≢◌, ◌+◌, ◌-◌, ◌==◌, ℕ, Bool, true, false, List, length, Result, Ok, Err, if◌then◌else◌}
use Rattle.client_registry.specs.Histories.{frames_in}
use Rattle.client_registry.specs.Live.{in_order}
use Rattle.client_registry.specs.Run.{History}
use Rattle.keyed_fn.specs.KeyedFn.{KeyedFn}
use Rattle.sse_frames.specs.Frames.{FrameText}
use Rattle.sse_frames.specs.Replies.{ReplyText}
use Rattle.world_model.specs.Rules.{Rules}
use Rattle.world_model.specs.World.{Phase, Greets, Rests, Sends, Asks, Reply, Next, Took, Shown, Updated, Found}
use Rattle.world_model.specs.Events.{reported}
use Rattle.world_rules.specs.Changes.{Change}
use Rattle.world_rules.specs.Promises.{StoreWorld, ids_shown}
use Rattle.world_rules.specs.Rules.{are_pages}
use Rattle.world_client.specs.Answering.{GoesOn}
use Rattle.world_client.specs.Clients.{IsClientIn}
use Rattle.world_client.specs.Histories.{CanExpect, phase_at}
use Rattle.world_client.specs.declared.report.Report.{Report}
use Rattle.world_client.specs.declared.report.Report.TheVariants as report
use Rattle.world_client.specs.declared.state.Gone.{Gone}
use Rattle.world_client.specs.declared.state.Gone.TheVariants as gone
use Rattle.world_client.specs.declared.state.State.{State}
use Rattle.world_client.specs.declared.state.State.TheVariants as states

-- what is reported once the server has so many frames of a history: its last command, if these are all
abbrev pub report_at : History → (taken : ℕ) → Report
report_at h taken = if taken == frames_in h then report.Updated else report.Nothing

-- these identifiers are reported
abbrev pub HasFound : Report → List ℕ → Type 0
HasFound (report.Found found) ids = found.items ≡ ids
HasFound other ids = ⊥

-- A client that greets goes on from the number that it is told, where it can; one that sends, behind its frame, where that was taken; and
-- one that asks shows the pages of an answer, its identifiers rising. Any other answer ends it.
abbrev pub Hears : KeyedFn → List ℕ → History → Phase (List ℕ) → Reply (List ReplyText) → Result (State × Report) Gone → Type 0
Hears f first h Greets (Next n) (Ok heard) = CanExpect f first h n × IsClientIn f first h (phase_at h n) heard.0 × (heard.1 ≡ report.Nothing)
Hears f first h Greets (Next n) (Err gone.Unwanted) = CanExpect f first h n → ⊥
Hears f first h Greets (Next n) (Err gone.NoMemory) = CanExpect f first h n
Hears f first h (Sends next) (Took n) (Ok heard) = (n ≡ next) × IsClientIn f first h (phase_at h (next + 1)) heard.0 × (heard.1 ≡ report_at h (next + 1))
Hears f first h (Sends next) (Took n) (Err gone.Unwanted) = n ≢ next
Hears f first h (Sends next) (Took n) (Err gone.NoMemory) = ⊥
Hears f first h (Asks word) (Shown all) (Ok heard) = (are_pages all ≡ true) × IsClientIn f first h Rests heard.0 × HasFound heard.1 (ids_shown all)
Hears f first h (Asks word) (Shown all) (Err gone.Unwanted) = are_pages all ≡ false
Hears f first h (Asks word) (Shown all) (Err gone.NoMemory) = ⊥
Hears f first h phase reply result = result ≡ Err gone.Unwanted

-- the world in which that is reported, of a client of these commands that was answered so
abbrev pub done_by : Rules Change FrameText (List ℕ) (List ReplyText) → StoreWorld → List Change → Reply (List ReplyText) → Report → StoreWorld
done_by rules w commands reply report.Nothing = w
done_by rules w commands reply report.Updated = reported rules w (Updated (length commands - 1))
done_by rules w commands (Shown all) (report.Found ids) = reported rules w (Found (length w.searches - 1) all)
done_by rules w commands reply (report.Found ids) = w

-- Of one reply.

abbrev pub is_sending : State → Bool
is_sending (states.Sending client) = true
is_sending other = false

-- what is reported of a client that goes on so, by whether it sent a frame before
abbrev pub report_of : (sending : Bool) → State → Report
report_of false client = report.Nothing
report_of true (states.Resting client) = report.Updated
report_of true other = report.Nothing

abbrev pub IsRepliedTo : KeyedFn → List ℕ → History → Phase (List ℕ) → ReplyText → (sending : Bool) → Result (State × Report) Gone → Type 0
IsRepliedTo f first h phase text sending (Ok heard) = GoesOn f first h phase text (Ok heard.0) × (heard.1 ≡ report_of sending heard.0)
IsRepliedTo f first h phase text sending (Err why) = GoesOn f first h phase text (Err why)

-- Of the pages of identifiers, which a client takes that asks.

abbrev pub IsFoundBy : KeyedFn → List ℕ → History → Phase (List ℕ) → (ids : List ℕ) → Result (State × Report) Gone → Type 0
IsFoundBy f first h (Asks word) ids (Ok heard) = IsClientIn f first h Rests heard.0 × HasFound heard.1 (in_order ids)
IsFoundBy f first h (Asks word) ids (Err why) = ⊥
IsFoundBy f first h phase ids result = result ≡ Err gone.Unwanted
