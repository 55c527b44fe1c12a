-- What the words of a command line ask a program for (docs/FORMATS.md); those of a network program are the words behind its address
-- and its file.
use Rattle.std.specs.Prelude.{ℕ, ◌-◌, ◌^◌, List, [], ◌∷◌, Option, None, Some, codes, bytes_eq, if◌then◌else◌}
use Rattle.program_words.specs.Numbers.{number_within}
use Rattle.program_words.specs.declared.disk_mode.DiskMode.{DiskMode as DiskAsked}
use Rattle.program_words.specs.declared.disk_mode.DiskMode.TheVariants as disk_asked
use Rattle.program_words.specs.declared.local_mode.LocalMode.{LocalMode as LocalAsked}
use Rattle.program_words.specs.declared.local_mode.LocalMode.TheVariants as local_asked

-- what a run is to do whose disk keeps the records of its commands
pub data DiskMode : Type 0 where
  -- carry out a script from an empty store, on a disk without a record
  RunOn : DiskMode
  -- go on from the records that the disk has
  More : DiskMode

-- the client over a network: `run` alone or `more` alone
abbrev pub disk_mode_of : List (List ℕ) → Option DiskMode
disk_mode_of [] = None
disk_mode_of (word ∷ []) =
    if bytes_eq word (codes "run") then Some RunOn else (if bytes_eq word (codes "more") then Some More else None)
disk_mode_of (word ∷ next ∷ words) = None

-- what the program with client and server in it is to do
pub data LocalMode : Type 0 where
  -- carry out a script
  Script : DiskMode → LocalMode
  -- compare two scripts
  Twin : LocalMode
  -- carry out the made script of this seed, for so many documents
  Made : (seed documents : ℕ) → LocalMode

-- the made script of these numbers, where both are given
abbrev pub made_by : (seed documents : Option ℕ) → Option LocalMode
made_by (Some seed) (Some documents) = Some (Made seed documents)
made_by (Some seed) None = None
made_by None documents = None

-- `run`, `more` or `twin` alone, or `gen SEED N`: SEED from 0 to 999,999 and N from 1 to 10,000
abbrev pub local_mode_of : List (List ℕ) → Option LocalMode
local_mode_of [] = None
local_mode_of (word ∷ []) =
    if bytes_eq word (codes "run") then Some (Script RunOn)
    else (if bytes_eq word (codes "more") then Some (Script More)
    else (if bytes_eq word (codes "twin") then Some Twin else None))
local_mode_of (word ∷ seed ∷ []) = None
local_mode_of (word ∷ seed ∷ documents ∷ []) =
    if bytes_eq word (codes "gen") then made_by (number_within 0 999999 seed) (number_within 1 10000 documents) else None
local_mode_of (word ∷ seed ∷ documents ∷ next ∷ words) = None

-- how many connections a server is to serve: from 1 to 2^32-1, and as many as that without a word
abbrev pub count_of : List (List ℕ) → Option ℕ
count_of [] = Some (2 ^ 32 - 1)
count_of (word ∷ []) = number_within 1 (2 ^ 32 - 1) word
count_of (word ∷ next ∷ words) = None

-- the code's own modes

abbrev pub disk_mode_view : DiskAsked → DiskMode
disk_mode_view disk_asked.Run = RunOn
disk_mode_view disk_asked.More = More

abbrev pub local_mode_view : LocalAsked → LocalMode
local_mode_view (local_asked.Script mode) = Script (disk_mode_view mode)
local_mode_view local_asked.Twin = Twin
local_mode_view (local_asked.Made seed documents) = Made seed documents
