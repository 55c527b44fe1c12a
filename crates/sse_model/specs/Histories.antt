-- The traffic of a history, whatever it is made of, and its values that must differ. Each epoch has a key of its own: the first one's is
-- given, and those of renewals are in the history.
use Rattle.std.specs.Prelude.{ℕ, List, [], ◌∷◌, flat_map, Option, None, Some}
use Rattle.std.specs.Option.{option_or}
use Rattle.keyed_fn.specs.KeyedFn.{KeyedFn}
use Rattle.client_registry.specs.Command.{Command}
use Rattle.client_registry.specs.Over.{over}
use Rattle.client_registry.specs.Epochs.{begins, next_begins, key_now, joined, Each, setup_renewed}
use Rattle.client_registry.specs.Run.{Run, Offsets, History, last_run, at_first}
use Rattle.client_registry.specs.Setup.{Setup}
use Rattle.sse_frames.specs.Frames.{FrameText}
use Rattle.sse_model.specs.Compared.{Collision, collision_of_setup, collision_of}
use Rattle.sse_model.specs.Drawn.{IsCollisionFree}
use Rattle.sse_model.specs.Names.{Table, table}
use Rattle.sse_model.specs.Wire.{frames_of_setup, frames_of, next_number, wire}

-- the table of a run's values
abbrev pub table_of : KeyedFn → (ℕ → List ℕ) → Run → Table
table_of f keys run = table f run.setup.shape keys

-- that of an epoch under its key
abbrev pub table_at : KeyedFn → List ℕ → Run → Table
table_at f key run = table_of f (λ epoch. key) run

-- all frames that are sent for a history after the greeting, its first epoch's key being this
abbrev pub frames_sent : KeyedFn → List ℕ → History → List FrameText
frames_sent f key None = []
frames_sent f key (Some es) = joined (λ own o run. flat_map (λ frames. frames) (wire (table_at f own run) o run)) key es

-- the frames of a history's setup
abbrev pub frames_of_first : KeyedFn → List ℕ → Setup → List FrameText
frames_of_first f key s = frames_of_setup (table f s.shape (λ epoch. key)) at_first s

-- the frames of a renewal after a history, under its key; none where it isn't set up
abbrev pub frames_of_renewal : KeyedFn → (own : List ℕ) → History → List FrameText
frames_of_renewal f own None = []
frames_of_renewal f own (Some es) = let s = setup_renewed (last_run es) in frames_of_setup (table f s.shape (λ epoch. own)) (next_begins es) s

-- the frames of commands behind a run
abbrev pub frames_behind : Table → Offsets → Run → List Command → List FrameText
frames_behind t o run commands =
    flat_map (λ frames. frames) (over (λ past c. frames_of t o.epoch run.setup (next_number o run.setup past) past c) run.later commands)

-- the frames of these commands after a history; none where it isn't set up
abbrev pub frames_of_next : KeyedFn → List ℕ → History → List Command → List FrameText
frames_of_next f key None commands = []
frames_of_next f key (Some es) commands = frames_behind (table_at f (key_now key es) (last_run es)) (begins es) (last_run es) commands

-- two equal values of a history's setup that have to differ
abbrev pub collision_of_first : KeyedFn → List ℕ → Setup → Option Collision
collision_of_first f key s = collision_of_setup (table f s.shape (λ epoch. key)) at_first.epoch s

-- the same of a renewal after a history
abbrev pub collision_of_renewal : KeyedFn → (own : List ℕ) → History → Option Collision
collision_of_renewal f own None = None
collision_of_renewal f own (Some es) = let s = setup_renewed (last_run es) in collision_of_setup (table f s.shape (λ epoch. own)) (next_begins es).epoch s

-- the first of these
abbrev pub first_known : {A : Type 0} → List (Option A) → Option A
first_known [] = None
first_known (x ∷ xs) = option_or x (first_known xs)

-- two equal values of one of these commands after a history
abbrev pub collision_of_next : KeyedFn → List ℕ → History → List Command → Option Collision
collision_of_next f key None commands = None
collision_of_next f key (Some es) commands =
    first_known (over (collision_of (table_at f (key_now key es) (last_run es)) (begins es).epoch (last_run es).setup) (last_run es).later commands)

-- no values of one epoch of the history that have to differ are equal
abbrev pub HasNoCollision : KeyedFn → List ℕ → History → Type 0
HasNoCollision f key None = Unit {0}
HasNoCollision f key (Some es) = Each (λ own o run. IsCollisionFree (table_at f own run) o run) key es
