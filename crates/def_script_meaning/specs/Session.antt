-- All that passes for a script, and the collisions that it must not have.
use Rattle.std.specs.Prelude.{List, ℕ, [], Option, None, Some}
use Rattle.client_registry.specs.Run.{History}
use Rattle.keyed_fn.specs.KeyedFn.{KeyedFn}
use Rattle.sse_frames.specs.Exchange.{Passed}
use Rattle.sse_frames.specs.Frames.{FrameText}
use Rattle.sse_model.specs.Histories.{frames_sent, HasNoCollision}
use Rattle.def_leakage.specs.Histories.{leak_in, draws_in}
use Rattle.sse_model.specs.Transcript.{session}
use Rattle.sse_simulator.specs.Simulator.{simulated}
use Rattle.def_script_meaning.specs.Meaning.{Meaning}

-- all that passes for a history under this key: nothing without a key
abbrev pub session_with : KeyedFn → Option (List ℕ) → History → List Passed
session_with f None h = []
session_with f (Some key) h = session f key h

-- what the simulator makes of a history's leakage and of what is drawn under this key; nothing without a key
abbrev pub simulated_with : KeyedFn → Option (List ℕ) → History → Option (List Passed)
simulated_with f None h = Some []
simulated_with f (Some key) h = simulated (leak_in h) (draws_in f key h)

-- for a script of this meaning
abbrev pub session_of : KeyedFn → Meaning → List Passed
session_of f m = session_with f m.key m.history

-- the frames that are sent for a history under this key, after the greeting
abbrev pub frames_with : KeyedFn → Option (List ℕ) → History → List FrameText
frames_with f None h = []
frames_with f (Some key) h = frames_sent f key h

-- for a script of this meaning
abbrev pub frames_of : KeyedFn → Meaning → List FrameText
frames_of f m = frames_with f m.key m.history

-- no values of a history under this key that have to differ are equal
abbrev pub IsFree : KeyedFn → Option (List ℕ) → History → Type 0
IsFree f None h = Unit {0}
IsFree f (Some key) h = HasNoCollision f key h
