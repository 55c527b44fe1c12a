-- The command line of a server's program, by its words (docs/FORMATS.md).
use Rattle.std.specs.Prelude.{ℕ, List, [], ◌∷◌, Option, None, Some, Result, Ok, Err, drop, map, string_bytes}
use Rattle.std.specs.Option.{option_map}
use Rattle.program_words.specs.Modes.{count_of}
use Rattle.outside_words.specs.declared.CommandLine.{CommandLine}
use Rattle.outside_words.specs.declared.CommandLine.TheVariants as lines
use Rattle.service_places.specs.declared.asked.Asked.{Asked as AskedBy}
use Rattle.service_places.specs.declared.stop.ServiceStop.TheVariants.{Memory}
use Rattle.service_places.specs.declared.stop.Stop.{Stop}
use Rattle.service_places.specs.declared.stop.Stop.TheVariants as stops

-- an address to listen at, the path of a journal's file, and how many connections to serve
pub record Asked : Type 0 where
  pub address : List ℕ
  pub path : List ℕ
  pub count : ℕ

-- the words after the program's name: an address and a path, and after them how many connections
abbrev pub asked_of : List (List ℕ) → Option Asked
asked_of [] = None
asked_of (address ∷ []) = None
asked_of (address ∷ path ∷ words) = option_map (λ count. record { address = address; path = path; count = count }) (count_of words)

-- they are right if they ask for something
abbrev pub right_words : Option Asked → Result Asked Stop
right_words None = Err stops.Words
right_words (Some asked) = Ok asked

-- what a command line asks for, or why nothing: its words aren't right, one of them is no text, or there was no memory for them
abbrev pub asked_by : CommandLine → Result Asked Stop
asked_by (lines.Words words) = right_words (asked_of (map (λ word. string_bytes word) (drop 1 words.items)))
asked_by lines.NoText = Err stops.Words
asked_by lines.NoMemory = Err (stops.Service Memory)

-- the code's own value
abbrev pub asked_view : AskedBy → Asked
asked_view a = record { address = a.address.text.now; path = a.path.text.now; count = a.count }
