-- How a client resumes whose last command's frames the server may be missing, by the number of the update frame that the server expects. The
-- history may be the last epoch of another, behind that one's frames.
use Rattle.std.specs.Prelude.{◌≡◌, ◌⊎◌, ℕ, ◌+◌, ◌-◌, ◌<◌, ◌≤◌, List, [], ◌∷◌, length, slice_index_or, Option, None, Some, option_map, Result, Ok, Err}
use Rattle.client_registry.specs.Over.{over}
use Rattle.client_registry.specs.Run.{Offsets, Run}
use Rattle.client_registry.specs.Sized.{update_frames}
use Rattle.client_rebuild.specs.declared.last.Last.{Last}
use Rattle.client_rebuild.specs.declared.last.Last.TheVariants as last
use Rattle.keyed_fn.specs.KeyedFn.{KeyedFn}
use Rattle.sse_model.specs.Compared.{Collision, collision_of, collision_of_setup}
use Rattle.sse_model.specs.Names.{table}
use Rattle.client_core.specs.Owes.{Owes, last_frames}
use Rattle.client_core.specs.ResumeFaults.{collision_fault}
use Rattle.client_core.specs.TakenViews.{first_number, to_send}
use Rattle.client_core.specs.StandsFor.{StandsFor}
use Rattle.client_core.specs.States.{BehindState, ClientOf}
use Rattle.client_core.specs.declared.resume_fault.ResumeFault.{ResumeFault}
use Rattle.client_core.specs.declared.resume_fault.ResumeFault.TheVariants.{NoMemory, PeerElsewhere}
use Rattle.client_core.specs.declared.resumed.Resumed.{Resumed}
use Rattle.client_core.specs.declared.resumed.Resumed.TheVariants as resumed

-- two values of a run's last command that have to differ and are equal; it is the setup where none is behind it
abbrev pub last_collision : KeyedFn → (ℕ → List ℕ) → Offsets → Run → Option Collision
last_collision f keys o run =
    let t = table f run.setup.shape keys in
    slice_index_or (collision_of_setup t o.epoch run.setup ∷ over (collision_of t o.epoch run.setup) [] run.later) (length run.later) None

-- the number of the first frame of a history's last command; the next one behind its last is the number of all its frames
abbrev pub first_of_last : KeyedFn → List ℕ → Offsets → Run → ℕ
first_of_last f key o run = o.frame + update_frames run - length (last_frames f (λ epoch. key) o run)

-- the same of the last record's command
abbrev pub first_recorded : Last → ℕ
first_recorded (last.Setup s) = s.before
first_recorded (last.Update u) = u.frames

-- a server that expects this number lacks none of the frames before the last command, and has none that isn't of the history
abbrev pub IsWithin : KeyedFn → List ℕ → Offsets → Run → ℕ → Type 0
IsWithin f key o run next = (first_of_last f key o run ≤ next) × (next ≤ o.frame + update_frames run)

-- how many frames it lacks; or it is elsewhere
abbrev pub Lacks : KeyedFn → List ℕ → Offsets → Run → ℕ → Result ℕ ResumeFault → Type 0
Lacks f key o run next (Ok left) = IsWithin f key o run next × (next + left ≡ o.frame + update_frames run)
Lacks f key o run next (Err fault) = (fault ≡ PeerElsewhere (first_of_last f key o run) (o.frame + update_frames run) next) × (IsWithin f key o run next → ⊥)

-- a client of that key that owes the last command's frames from this number on, in which no values are equal; or a fault of
-- the command's plan: two equal values, or want of memory
abbrev pub Replans : KeyedFn → List ℕ → Offsets → Run → ℕ → Result (ClientOf BehindState) ResumeFault → Type 0
Replans f key o run next (Ok client) =
    (client.key ≡ key) × (first_number client.state ≡ next) × Owes f (λ epoch. key) o run (next - first_of_last f key o run) client.state
    × (last_collision f (λ epoch. key) o run ≡ None)
Replans f key o run next (Err fault) = (option_map collision_fault (last_collision f (λ epoch. key) o run) ≡ Some fault) ⊎ (fault ≡ NoMemory)

-- what is made of the client: it stands for the history where no frame is lacking; else it owes those that are, or its last
-- command has two equal values; memory may be wanting; or the server is elsewhere
abbrev pub Resumes : KeyedFn → List ℕ → Offsets → Run → ℕ → Result Resumed ResumeFault → Type 0
Resumes f key o run next (Ok (resumed.Ready client)) = (client.key ≡ key) × (next ≡ o.frame + update_frames run) × StandsFor f (λ epoch. key) o run client.state
Resumes f key o run next (Ok (resumed.Behind client)) = IsWithin f key o run next × (next < o.frame + update_frames run) × Replans f key o run next (Ok client)
Resumes f key o run next (Err fault) =
    ((fault ≡ PeerElsewhere (first_of_last f key o run) (o.frame + update_frames run) next) × (IsWithin f key o run next → ⊥))
    ⊎ (IsWithin f key o run next × (next < o.frame + update_frames run) × (option_map collision_fault (last_collision f (λ epoch. key) o run) ≡ Some fault))
    ⊎ (IsWithin f key o run next × (fault ≡ NoMemory))

-- the two numbers under which a client that goes on hashes
abbrev pub resumed_hash_keys : Resumed → ℕ × ℕ
resumed_hash_keys (resumed.Ready client) = client.state.registry.keys
resumed_hash_keys (resumed.Behind client) = client.state.ready.registry.keys

-- the marks that the next renewal takes over
abbrev pub resumed_marks : Resumed → List (List ℕ)
resumed_marks (resumed.Ready client) = client.state.past.marks.items
resumed_marks (resumed.Behind client) = client.state.ready.past.marks.items

-- the frames that it sends before anything else
abbrev pub frames_owed : Resumed → List (List ℕ)
frames_owed (resumed.Ready client) = []
frames_owed (resumed.Behind client) = to_send client.state
