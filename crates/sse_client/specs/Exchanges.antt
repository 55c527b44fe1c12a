-- The exchange of a call over a link, and the place where it was cut.
use Rattle.std.specs.Prelude.{◌≡◌, ◌≢◌, ℕ, List, [], ◌∷◌, map}
use Rattle.client_registry.specs.Live.{in_order}
use Rattle.keyed_fn.specs.KeyFormulas.{token_of}
use Rattle.keyed_fn.specs.KeyedFn.{KeyedFn}
use Rattle.sse_frames.specs.Frames.{FrameText, SearchFrame}
use Rattle.sse_frames.specs.Replies.{NoMemory, reply_bytes}
use Rattle.server_core.specs.State.{ServerState}
use Rattle.def_link_events.specs.Events.{Event, Sent, Received}
use Rattle.def_link_events.specs.Served.{Served, idle, IsServed}
use Rattle.sse_script.specs.Shown as says
use Rattle.sse_script.specs.Shown.{Cause}
use Rattle.def_script_meaning.specs.Exchange.{Told, Adds, AreExchanged, AreCut}

-- these frames were exchanged, the searches among them with these answers
pub record HasExchanged (old new : Told) (answers : List (List ℕ)) (frames : List FrameText) : Type 0 where
  pub events : List Event
  pub adds : Adds old new events
  pub exchanged : AreExchanged answers frames events

-- a front of these frames was exchanged, and of the next one at most a part, as shows in the cause
pub record HasCut (old new : Told) (frames : List FrameText) (cause : Cause) : Type 0 where
  pub events : List Event
  pub adds : Adds old new events
  pub cut : AreCut frames events cause

-- this search was exchanged, and these are the identifiers of its answer, rising. Whoever is out of memory after it, before a line is printed,
-- may say that it was cut there
pub record HasSearched (old new : Told) (frame : FrameText) (found : List ℕ) : Type 0 where
  pub answer : List ℕ
  pub exchanged : HasExchanged old new (answer ∷ []) (frame ∷ [])
  pub rising : found ≡ in_order answer
  pub out_of_memory : HasCut old new (frame ∷ []) says.NoMemory

-- the searches of these words under a key, in order
abbrev pub search_frames : KeyedFn → (key : List ℕ) → List (List ℕ) → List FrameText
search_frames f key words = map (λ word. SearchFrame (token_of f key word)) words

-- these frames, all of them searches, were exchanged, and these are the identifiers of each answer, rising
pub record HaveSearched (old new : Told) (frames : List FrameText) (lists : List (List ℕ)) : Type 0 where
  pub answers : List (List ℕ)
  pub exchanged : HasExchanged old new answers frames
  pub rising : lists ≡ map in_order answers

-- no reply says that the server lacked memory
abbrev pub NoneLacks : List Event → Type 0
NoneLacks [] = Unit {0}
NoneLacks (Sent bytes mark ∷ events) = NoneLacks events
NoneLacks (Received bytes ∷ events) = (bytes ≢ reply_bytes NoMemory) × NoneLacks events

-- what passed; and over an honest link no reply in it says that the server lacked memory, so that what was wanting is the
-- client's own
pub record HasOwnMemory (f : KeyedFn) (old new : Told) : Type 0 where
  pub events : List Event
  pub adds : Adds old new events
  pub none : (start : ServerState) (end : Served) → IsServed f (idle start) events end → NoneLacks events
