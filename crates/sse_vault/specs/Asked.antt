-- What the words of a command line ask the client of a vault for: a run in memory, a run on a disk, or a restore (docs/FORMATS.md).
use Rattle.std.specs.Prelude.{ℕ, List, [], ◌∷◌, Option, None, Some, Result, Ok, Err, bytes_eq, codes, drop, map, string_bytes, if◌then◌else◌}
use Rattle.std.specs.Option.{option_map}
use Rattle.program_words.specs.Modes.{disk_mode_of}
use Rattle.outside_words.specs.declared.CommandLine.{CommandLine}
use Rattle.outside_words.specs.declared.CommandLine.TheVariants as lines
use Rattle.script_run_texts.specs.declared.stop_cause.StopCause.{StopCause}
use Rattle.script_run_texts.specs.declared.stop_cause.StopCause.TheVariants as stops
use Rattle.sse_vault.specs.declared.asked.Asked.{Asked as AskedBy}
use Rattle.sse_vault.specs.declared.asked.Asked.TheVariants as by

pub data Asked : Type 0 where
  -- a run over a vault and a journal in memory, by these words
  InMemory : (words : List (List ℕ)) → Asked
  -- a run over the journal of a path, with the vault at an address, by these words
  OnDisk : (address path : List ℕ) (words : List (List ℕ)) → Asked
  -- a restore from the vault at an address
  Restore : (address : List ℕ) → Asked

-- words that ask for a run: `run` alone or `more` alone

abbrev pub in_memory : List (List ℕ) → Option Asked
in_memory words = option_map (λ mode. InMemory words) (disk_mode_of words)

abbrev pub on_disk : (address path : List ℕ) → List (List ℕ) → Option Asked
on_disk address path words = option_map (λ mode. OnDisk address path words) (disk_mode_of words)

-- the word that asks for a restore
abbrev pub restore_at : (address word : List ℕ) → Option Asked
restore_at address word = if bytes_eq word (codes "restore") then Some (Restore address) else None

-- the words after the program's name: those of a run, alone or after an address and a path; or an address and `restore`
abbrev pub asked_of : List (List ℕ) → Option Asked
asked_of [] = None
asked_of (word ∷ []) = in_memory (word ∷ [])
asked_of (address ∷ word ∷ []) = restore_at address word
asked_of (address ∷ path ∷ word ∷ words) = on_disk address path (word ∷ words)

-- they are right if they ask for something
abbrev pub right_words : Option Asked → Result Asked StopCause
right_words None = Err stops.Words
right_words (Some asked) = Ok asked

-- what a command line asks for, or why nothing: its words aren't right, one of them is no text, or there was no memory for them
abbrev pub asked_by : CommandLine → Result Asked StopCause
asked_by (lines.Words words) = right_words (asked_of (map (λ word. string_bytes word) (drop 1 words.items)))
asked_by lines.NoText = Err stops.Words
asked_by lines.NoMemory = Err stops.Memory

-- the code's own value
abbrev pub asked_view : AskedBy → Asked
asked_view (by.InMemory words) = InMemory (map (λ word. string_bytes word) words.now)
asked_view (by.OnDisk address path words) = OnDisk address.now path.now (map (λ word. string_bytes word) words.now)
asked_view (by.Restore address) = Restore address.now
