-- The words of a command line, and the mode they ask for.
use Rattle.std.specs.Prelude.{ℕ, List, [], ◌∷◌, Option, None, Some, codes, bytes_eq, if◌then◌else◌}
use Rattle.script_run_texts.specs.declared.words.Mode.{Mode as Asked}
use Rattle.script_run_texts.specs.declared.words.Mode.TheVariants as asked
use Rattle.script_run_texts.specs.declared.words.DiskMode.{DiskMode as DiskAsked}
use Rattle.script_run_texts.specs.declared.words.DiskMode.TheVariants as disk_asked

-- what a run is to do
pub data Mode : Type 0 where
  -- carry out a script from an empty store
  Run : Mode

-- what these words ask for; nothing where they are no words of the program
abbrev pub mode_of : List (List ℕ) → Option Mode
mode_of [] = None
mode_of (word ∷ []) = if bytes_eq word (codes "run") then Some Run else None
mode_of (word ∷ next ∷ words) = None

-- the same of the code's own modes
abbrev pub mode_view : Asked → Mode
mode_view asked.Run = Run

-- what a run is to do where a disk keeps the records of its commands
pub data DiskMode : Type 0 where
  -- carry out a script from an empty store, on a disk without a record
  RunOn : DiskMode
  -- go on from the records that the disk has
  More : DiskMode

-- what these words ask for there; nothing where they are no words of such a program
abbrev pub disk_mode_of : List (List ℕ) → Option DiskMode
disk_mode_of [] = None
disk_mode_of (word ∷ []) =
    if bytes_eq word (codes "run") then Some RunOn else (if bytes_eq word (codes "more") then Some More else None)
disk_mode_of (word ∷ next ∷ words) = None

-- the same of the code's own modes
abbrev pub disk_mode_view : DiskAsked → DiskMode
disk_mode_view disk_asked.Run = RunOn
disk_mode_view disk_asked.More = More
