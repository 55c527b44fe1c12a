-- A client with unacknowledged frames: they are the last ones of its history's last command.
use Rattle.std.specs.Prelude.{◌≡◌, ℕ, ◌+◌, ◌<◌, List, [], ◌∷◌, length, map, drop, slice_index_or, Some}
use Rattle.client_registry.specs.Run.{Run, Offsets}
use Rattle.keyed_fn.specs.KeyedFn.{KeyedFn}
use Rattle.sse_frames.specs.Frames.{FrameText, frame_bytes, update_number}
use Rattle.sse_model.specs.Names.{table}
use Rattle.sse_model.specs.Wire.{wire}
use Rattle.client_core.specs.TakenViews.{first_number, to_send}
use Rattle.client_core.specs.StandsFor.{StandsFor}
use Rattle.client_core.specs.States.{BehindState}
use Rattle.client_core.specs.declared.taken.Taken.{Taken}
use Rattle.client_core.specs.declared.taken.Taken.TheVariants as taken

-- update frames that are numbered one after the other, the first by q
abbrev pub AreNumbered : ℕ → List FrameText → Type 0
AreNumbered q [] = Unit {0}
AreNumbered q (frame ∷ frames) = (update_number frame ≡ Some q) × AreNumbered (q + 1) frames

-- the frames of a run's last command, which is the setup where none is behind it
abbrev pub last_frames : KeyedFn → (ℕ → List ℕ) → Offsets → Run → List FrameText
last_frames f keys o run = slice_index_or (wire (table f run.setup.shape keys) o run) (length run.later) []

-- the client stands for a history, and of the frames of its last command the server may lack all but the first k, which it
-- acknowledged: these are sent next, and the number that the client expects to be acknowledged is that of the first
pub record Owes (f : KeyedFn) (keys : ℕ → List ℕ) (o : Offsets) (run : Run) (k : ℕ) (behind : BehindState) : Type 0 where
  pub stands : StandsFor f keys o run behind.ready
  pub some : k < length (last_frames f keys o run)
  pub owed : to_send behind ≡ drop k (map frame_bytes (last_frames f keys o run))
  pub number : AreNumbered (first_number behind) (drop k (last_frames f keys o run))

-- what a reply leaves of that: one frame more is acknowledged, and after the last one nothing is owed
abbrev pub OwesBehind : KeyedFn → (ℕ → List ℕ) → Offsets → Run → ℕ → Taken → Type 0
OwesBehind f keys o run k (taken.Behind next) = Owes f keys o run (k + 1) next.state
OwesBehind f keys o run k (taken.Ready next) = (k + 1 ≡ length (last_frames f keys o run)) × StandsFor f keys o run next.state
OwesBehind f keys o run k (taken.Stopped next fault) = Unit {0}
