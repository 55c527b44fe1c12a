-- The words of the server's command line: one archive, or an archive for each of many owners (docs/FORMATS.md).
use Rattle.std.specs.Prelude.{◌≡◌, ℕ, ◌<◌, List, [], ◌∷◌, Option, None, Some, Result, Ok, Err, codes, bytes_eq, drop, length, map, string_bytes, if◌then◌else◌}
use Rattle.std.specs.List.Sorted.{IsStrictlyIncreasing}
use Rattle.program_words.specs.Owners.{owners_of}
use Rattle.outside_words.specs.declared.CommandLine.{CommandLine}
use Rattle.outside_words.specs.declared.CommandLine.TheVariants as lines
use Rattle.service_places.specs.Asked.{Asked, asked_by, asked_of, right_words}
use Rattle.service_places.specs.declared.stop.Stop.{Stop}
use Rattle.service_places.specs.declared.stop.Stop.TheVariants as stops
use Rattle.sse_served.specs.declared.asked.Mode.{Mode as CodeMode}
use Rattle.sse_served.specs.declared.asked.Mode.TheVariants as codes_of
use Rattle.sse_served.specs.declared.asked.Wanted.{Wanted as WantedBy}

-- whose archives are kept and served
pub data Mode : Type 0 where
  -- one archive, for so many connections
  OneArchive : (count : ℕ) → Mode
  -- an archive for each of the owners with these numbers
  Owners : (numbers : List ℕ) → Mode

-- an address to listen at, the path of a journal's file, and whose archives
pub record Wanted : Type 0 where
  pub address : List ℕ
  pub path : List ℕ
  pub mode : Mode

-- the words of any server ask for one archive
abbrev pub for_one : Result Asked Stop → Result Wanted Stop
for_one (Ok asked) = Ok (record { address = asked.address; path = asked.path; mode = OneArchive asked.count })
for_one (Err stop) = Err stop

-- the numbers of owners ask for an archive for each, if they are right
abbrev pub of_owners : (address path : List ℕ) → Option (List ℕ) → Result Wanted Stop
of_owners address path None = Err stops.Words
of_owners address path (Some numbers) = Ok (record { address = address; path = path; mode = Owners numbers })

abbrev pub for_owners : (address path : List ℕ) (words : List (List ℕ)) → Result Wanted Stop
for_owners address path words = of_owners address path (owners_of words)

-- the words after the program's name: an address and a path, then `owners` and their numbers, or how many connections
abbrev pub wanted_of : List (List ℕ) → Result Wanted Stop
wanted_of [] = Err stops.Words
wanted_of (address ∷ []) = Err stops.Words
wanted_of (address ∷ path ∷ []) = for_one (right_words (asked_of (address ∷ path ∷ [])))
wanted_of (address ∷ path ∷ word ∷ words) =
    if bytes_eq word (codes "owners") then for_owners address path words else for_one (right_words (asked_of (address ∷ path ∷ word ∷ words)))

-- what a command line asks for, or why nothing
abbrev pub wanted_by : CommandLine → Result Wanted Stop
wanted_by (lines.Words words) = wanted_of (map (λ word. string_bytes word) (drop 1 words.items))
wanted_by lines.NoText = for_one (asked_by lines.NoText)
wanted_by lines.NoMemory = for_one (asked_by lines.NoMemory)

-- the code's own values

abbrev pub mode_view : CodeMode → Mode
mode_view (codes_of.OneArchive count) = OneArchive count
mode_view (codes_of.Owners numbers) = Owners numbers.items

abbrev pub wanted_view : WantedBy → Wanted
wanted_view w = record { address = w.address.text.now; path = w.path.text.now; mode = mode_view w.mode }

-- the numbers of owners rise, and there is one
abbrev pub HaveOwners : CodeMode → Type 0
HaveOwners (codes_of.OneArchive count) = Unit {0}
HaveOwners (codes_of.Owners numbers) = (0 < length numbers.items) × IsStrictlyIncreasing numbers.items
