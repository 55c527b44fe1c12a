-- The replies of a server that is sent a run's frames, and its answer to a search.
use Rattle.std.specs.Prelude.{◌≡◌, ℕ, ◌<◌, ◌^◌, ◌==◌, List, length, [], ◌∷◌, ◌++◌, map, flat_map}
use Rattle.std.specs.List.{IsDistinct}
use Rattle.keyed_fn.specs.KeyedFn.{KeyedFn, IsKeyedFn}
use Rattle.client_registry.specs.Acceptance.{frames_needed}
use Rattle.client_registry.specs.Command.{Command, Search}
use Rattle.client_registry.specs.Histories.{shown_by}
use Rattle.client_registry.specs.Live.{shown, matching_ids, in_order}
use Rattle.client_registry.specs.Over.{over}
use Rattle.client_registry.specs.Run.{Run, Offsets}
use Rattle.client_registry.specs.Sized.{IsHistory, update_frames}
use Rattle.sse_frames.specs.Frames.{FrameText, SearchFrame}
use Rattle.sse_frames.specs.Replies.{ReplyText}
use Rattle.sse_frames.specs.SentParts.{pages}
use Rattle.sse_model.specs.Drawn.{IsCollisionFree}
use Rattle.sse_model.specs.Names.{Table, name, Token, table}
use Rattle.def_agreement.specs.Held.{Holds}
use Rattle.def_agreement.specs.TakenFrames.{Expects, Takes}
use Rattle.sse_model.specs.Wire.{frames_of, next_number, wire, acknowledgements, replies_of}
use Rattle.server_core.specs.State.{ServerState}
use Rattle.server_core.specs.Step.{step, steps}

-- all frames of a run
abbrev pub frames_fed : Table → Offsets → Run → List FrameText
frames_fed t o run = flat_map (λ frames. frames) (wire t o run)

-- those of these commands after a run
abbrev pub frames_fed_behind : Table → Offsets → Run → List Command → List FrameText
frames_fed_behind t o run more =
    flat_map (λ frames. frames) (over (λ past c. frames_of t o.epoch run.setup (next_number o run.setup past) past c) run.later more)

-- a server that was sent them from this state on, and its replies to each of them
abbrev pub fed : KeyedFn → ServerState → Table → Offsets → Run → ServerState × List (List ReplyText)
fed f start t o run = steps f start (frames_fed t o run)

abbrev pub state_fed : KeyedFn → ServerState → Table → Offsets → Run → ServerState
state_fed f start t o run = (fed f start t o run).0

-- the replies of a run, frame by frame: one for each of setup's, and for each command's one frame what it is answered
abbrev pub replies_by_frame : Offsets → Run → List (List ReplyText)
replies_by_frame o run =
    map (λ reply. reply ∷ []) (acknowledgements o.frame (frames_needed run.setup)) ++ over (replies_of o run.setup) [] run.later

-- what the searches among these commands after a run show
abbrev pub shown_behind : Run → List Command → List (List ℕ)
shown_behind run more = flat_map (λ answers. answers) (over (shown_by run.setup) run.later more)

-- what a search for the word sends
abbrev pub search_for : Table → Offsets → List ℕ → FrameText
search_for t o word = SearchFrame (t (name o.epoch word Token 0))

-- the run, and one search after it
abbrev pub searched : Run → List ℕ → Run
searched run word = record run { later = run.later ++ Search word ∷ [] }

-- a server that was sent the run from this state on has replied to each frame as the run says, holds what the run leaves, and answers
-- a search of any word by the pages of what the run shows, itself unchanged, where that search looks up no collision
pub record Agrees (f : KeyedFn) (start : ServerState) (t : Table) (o : Offsets) (run : Run) : Type 0 where
  pub replies : (fed f start t o run).1 ≡ replies_by_frame o run
  pub holds : Holds t o run.setup run.later (state_fed f start t o run)
  pub search : (word : List ℕ) → IsCollisionFree t o (searched run word) →
      step f (state_fed f start t o run) (search_for t o word) ≡ (state_fed f start t o run, pages (shown run.setup run.later word))

-- a server that expects a run's first frame, whatever else it holds, takes all frames of a history, one after another: it then
-- holds what the history leaves, and has replied as it says; under every key, where no compared values collide
abbrev pub HistoriesTaken : Type 0
HistoriesTaken =
    (f : KeyedFn) (keys : ℕ → List ℕ) (o : Offsets) (run : Run) (start : ServerState) → IsKeyedFn f → IsHistory run →
    IsCollisionFree (table f run.setup.shape keys) o run → Expects o.frame start →
    (end : ServerState) × Takes f start (frames_fed (table f run.setup.shape keys) o run) end (replies_by_frame o run)
    × Holds (table f run.setup.shape keys) o run.setup run.later end

-- a server that holds what the first commands of a history leave, however it came to that, takes the frames of the others and
-- replies to them as the history says; it then holds what they all leave
abbrev pub CommandsTaken : Type 0
CommandsTaken =
    (f : KeyedFn) (keys : ℕ → List ℕ) (o : Offsets) (run : Run) (more : List Command) (start : ServerState) → IsKeyedFn f →
    IsHistory (record run { later = run.later ++ more }) →
    IsCollisionFree (table f run.setup.shape keys) o (record run { later = run.later ++ more }) →
    Holds (table f run.setup.shape keys) o run.setup run.later start →
    (end : ServerState)
    × Takes f start (frames_fed_behind (table f run.setup.shape keys) o run more) end (over (replies_of o run.setup) run.later more)
    × Holds (table f run.setup.shape keys) o run.setup (run.later ++ more) end

-- server and client agree: on each run that is a history, under every key, where no compared values collide, from any state of
-- the server in which it expects the run's first frame
abbrev pub ServerAgrees : Type 0
ServerAgrees =
    (f : KeyedFn) (keys : ℕ → List ℕ) (o : Offsets) (run : Run) (start : ServerState) → IsKeyedFn f → IsHistory run →
    IsCollisionFree (table f run.setup.shape keys) o run → Expects o.frame start → Agrees f start (table f run.setup.shape keys) o run

-- the identifiers that a run shows for a word are, in order, those of the live documents that hold it
abbrev pub ShownAreFound : Type 0
ShownAreFound = (run : Run) (word : List ℕ) → IsHistory run → in_order (shown run.setup run.later word) ≡ matching_ids run.setup run.later word

-- and each of them is shown once
abbrev pub ShownOnce : Type 0
ShownOnce = (run : Run) (word : List ℕ) → IsHistory run → IsDistinct (λ x y. x == y) (shown run.setup run.later word)

-- fewer than 2^33 of them, where the update frames have numbers of 32 bits
abbrev pub ShownAreFew : Type 0
ShownAreFew = (run : Run) (word : List ℕ) → IsHistory run → update_frames run < 2 ^ 32 → length (shown run.setup run.later word) < 2 ^ 33
