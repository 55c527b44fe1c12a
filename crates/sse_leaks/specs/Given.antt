-- The words that a command line gives the program: its name only, other words, or nothing, if there was no memory to read them in.
use Rattle.std.specs.Prelude.{◌<◌, ◌≤◌, length}
use Rattle.sse_leaks.specs.declared.program.CommandLine.{CommandLine}
use Rattle.sse_leaks.specs.declared.program.CommandLine.TheVariants.{Words, NoText, NoMemory}

abbrev pub IsAlone : CommandLine → Type 0
IsAlone (Words words) = length words.items ≤ 1
IsAlone NoText = ⊥
IsAlone NoMemory = ⊥

-- a word that is no text is one of these
abbrev pub HasWords : CommandLine → Type 0
HasWords (Words words) = 1 < length words.items
HasWords NoText = Unit {0}
HasWords NoMemory = ⊥

abbrev pub HadNoMemory : CommandLine → Type 0
HadNoMemory (Words words) = ⊥
HadNoMemory NoText = ⊥
HadNoMemory NoMemory = Unit {0}
