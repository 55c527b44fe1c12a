-- The history of the last record taken, with the parts that are kept of the earlier ones.
use Rattle.std.specs.Prelude.{◌≡◌, ℕ, ◌+◌, ◌-◌, ◌^◌, Bool, ◌&&◌, nat_lt, [], None, Some, Option, Result, Ok, Err}
use Rattle.client_registry.specs.Command.{Command}
use Rattle.client_registry.specs.Epochs.{begins}
use Rattle.client_registry.specs.Facts.{Facts, facts_of, facts_after}
use Rattle.client_registry.specs.Registered.{facts, Represents}
use Rattle.client_registry.specs.Run.{History, Offsets, Run, last_run}
use Rattle.client_registry.specs.Setup.{Setup, setup_with}
use Rattle.client_registry.specs.Sized.{update_frames}
use Rattle.two_level.specs.Shape.{Shape}
use Rattle.client_rebuild.specs.Updates.{command_of, fits, with_update}
use Rattle.client_rebuild.specs.declared.last.Last.{Last}
use Rattle.client_rebuild.specs.declared.last.Last.TheVariants as last
use Rattle.client_rebuild.specs.declared.recorded_setup.RecordedSetup.{RecordedSetup}

-- the setup of a record
abbrev pub setup_in : RecordedSetup → Setup
setup_in s = setup_with s.docs.documents s.b s.big s.pad

-- the facts of the last epoch with the last record's command
abbrev pub facts_of_last : Last → Facts
facts_of_last (last.Setup s) = facts_of (setup_in s) []
facts_of_last (last.Update u) = facts_after (facts u.registry) (command_of u.update)

-- how many update frames the history has, and how many records
abbrev pub frames_of_last : Last → ℕ
frames_of_last (last.Setup s) = s.before + s.frames
frames_of_last (last.Update u) = u.frames + 1

abbrev pub records_of_last : Last → ℕ
records_of_last (last.Setup s) = s.records
records_of_last (last.Update u) = u.records + 1

-- the shape of its index, and the number up to a multiple of which it is filled, which are the same in all epochs
abbrev pub shape_of_last : Last → Shape
shape_of_last (last.Setup s) = record { b = s.b; big = s.big }
shape_of_last (last.Update u) = record { b = u.b; big = u.big }

abbrev pub pad_of_last : Last → ℕ
pad_of_last (last.Setup s) = s.pad
pad_of_last (last.Update u) = u.pad

-- the two numbers under which its identifiers and words are hashed
abbrev pub hash_keys_of : Last → ℕ × ℕ
hash_keys_of (last.Setup s) = s.docs.keys
hash_keys_of (last.Update u) = u.registry.keys

-- the last record's command is the last of an epoch that begins at these offsets: its setup, or an update after a run that the
-- registry represents, with as many update frames before it
abbrev pub Recalls : Offsets → Run → Last → Type 0
Recalls o run (last.Setup s) = (run ≡ record { setup = setup_in s; later = [] }) × (o.frame ≡ s.before)
Recalls o run (last.Update u) =
    (before : Run)
    × (run ≡ with_update before (command_of u.update))
    × Represents u.registry before.setup before.later
    × (u.frames ≡ o.frame + update_frames before)
    × (before.setup.shape ≡ record { b = u.b; big = u.big })
    × (before.setup.pad ≡ u.pad)

-- the same of the last epoch of a history; before a setup there is no record
abbrev pub RecallsIn : History → Option Last → Type 0
RecallsIn None None = Unit {0}
RecallsIn None (Some l) = ⊥
RecallsIn (Some es) None = ⊥
RecallsIn (Some es) (Some l) = Recalls (begins es) (last_run es) l

-- a command is accepted after it: it fits what is live, and there is a number for its frame
abbrev pub accepts_after : Last → Command → Bool
accepts_after l c = fits (facts_of_last l) c && nat_lt (frames_of_last l) (2 ^ 32 - 1)

-- the same with one command more, recorded behind it
pub record IsFollowed (l : Last) (c : Command) (next : Last) : Type 0 where
  pub recalls : (o : Offsets) (run : Run) → Recalls o run l → Recalls o (with_update run c) next
  pub records : records_of_last next ≡ records_of_last l + 1
  pub hashed : hash_keys_of next ≡ hash_keys_of l

-- the same history
pub record IsSameLast (l next : Last) : Type 0 where
  pub recalls : (o : Offsets) (run : Run) → Recalls o run l → Recalls o run next
  pub records : records_of_last next ≡ records_of_last l
  pub hashed : hash_keys_of next ≡ hash_keys_of l

-- what one command more makes; without memory the history is the same
abbrev pub Follows : Last → Command → Result Last Last → Type 0
Follows l c (Ok next) = IsFollowed l c next
Follows l c (Err same) = IsSameLast l same
