-- All that passes between a client and a server for a history: each frame, and after it its replies.
use Rattle.std.specs.Prelude.{ℕ, List, [], ◌∷◌, ◌++◌, flat_map, None, Some}
use Rattle.keyed_fn.specs.KeyedFn.{KeyedFn}
use Rattle.client_registry.specs.Acceptance.{frames_needed}
use Rattle.client_registry.specs.Over.{over}
use Rattle.client_registry.specs.Epochs.{joined}
use Rattle.client_registry.specs.Run.{Run, Offsets, History, at_first}
use Rattle.sse_frames.specs.Exchange.{Passed, exchanged, greeting}
use Rattle.sse_model.specs.Names.{Table, table}
use Rattle.sse_model.specs.Wire.{frames_of_setup, frames_of, next_number, acknowledgements, replies_of}

-- the transcript of a run: command by command, setup first
abbrev pub transcript : Table → Offsets → Run → List (List Passed)
transcript t o run =
    exchanged (frames_of_setup t o run.setup) (acknowledgements o.frame (frames_needed run.setup))
    ∷ over (λ past c. exchanged (frames_of t o.epoch run.setup (next_number o run.setup past) past c) (replies_of o run.setup past c)) [] run.later

-- all that passes for a history whose first key is this, from a server that has taken nothing: the greeting, and then epoch by epoch
abbrev pub session : KeyedFn → List ℕ → History → List Passed
session f key None = greeting at_first.frame
session f key (Some es) =
    greeting at_first.frame ++ joined (λ own o run. flat_map (λ passed. passed) (transcript (table f run.setup.shape (λ epoch. own)) o run)) key es
