-- What the words of a command line ask the program for (docs/FORMATS.md).
use Rattle.std.specs.Prelude.{Option, None, Some, Result, Ok, Err, drop, map, string_bytes}
use Rattle.outside_words.specs.declared.CommandLine.{CommandLine}
use Rattle.outside_words.specs.declared.CommandLine.TheVariants as lines
use Rattle.program_words.specs.Modes.{LocalMode, local_mode_of}
use Rattle.sse_script.specs.Shown.{Cause, BadWords, NoMemory}

-- words are right where they ask for something
abbrev pub right_words : Option LocalMode → Result LocalMode Cause
right_words None = Err BadWords
right_words (Some mode) = Ok mode

-- what a command line asks for, or why nothing: the words after the program's name aren't right, one of them is no text, or there was no
-- memory for them
abbrev pub asked_by : CommandLine → Result LocalMode Cause
asked_by (lines.Words words) = right_words (local_mode_of (map (λ word. string_bytes word) (drop 1 words.items)))
asked_by lines.NoText = Err BadWords
asked_by lines.NoMemory = Err NoMemory
