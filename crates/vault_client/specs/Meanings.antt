-- What the lines after a script's key line mean: the commands that are accepted, and the lines that are printed. And when a script is bad.
use Rattle.std.specs.Prelude.{◌⊎◌, ℕ, Bool, false, ◌||◌, List, [], ◌∷◌, ◌++◌, Option, None, Some}
use Rattle.std.specs.Option.{option_and_then}
use Rattle.vault_shelf.specs.ShelfFaults.{shelf_fault}
use Rattle.vault_shelf.specs.Shelves.{Shelf, VaultCommand, shelf_of}
use Rattle.vault_shelf.specs.declared.shelf_fault.ShelfFault.{ShelfFault}
use Rattle.doc_vault.specs.CommandViews.{command_said}
use Rattle.doc_vault.specs.HonestTexts.{printed_by}
use Rattle.doc_vault.specs.LineRuns.{is_refusal}
use Rattle.doc_vault.specs.Openings.{KeyFound, KeyMissing, VaultOpening, opening}
use Rattle.doc_vault.specs.ScriptRuns.{IsBadLine}
use Rattle.vault_script.specs.VaultLines.{vault_line_of}
use Rattle.vault_script.specs.VaultShown.{VaultShownText}

-- the command of a line, if it is one
abbrev pub command_of : List ℕ → Option VaultCommand
command_of line = option_and_then command_said (vault_line_of line)

-- a command, unless it is refused
abbrev pub unless_refused : Option ShelfFault → VaultCommand → List VaultCommand
unless_refused None c = c ∷ []
unless_refused (Some fault) c = []

abbrev pub accepted_of : Shelf → Option VaultCommand → List VaultCommand
accepted_of s None = []
accepted_of s (Some c) = unless_refused (shelf_fault s c) c

-- the accepted commands of all lines, in order
abbrev pub commands_meant : Shelf → List (List ℕ) → List VaultCommand
commands_meant s [] = []
commands_meant s (line ∷ lines) = accepted_of s (command_of line) ++ commands_meant (shelf_of s (accepted_of s (command_of line))) lines

-- the lines that they print: a get prints the text of the identifier's last put, or that there is none
abbrev pub shown_meant : Shelf → List (List ℕ) → List VaultShownText
shown_meant s [] = []
shown_meant s (line ∷ lines) = printed_by s (command_of line) ++ shown_meant (shelf_of s (accepted_of s (command_of line))) lines

-- whether a command is refused
abbrev pub refuses_meant : Shelf → List (List ℕ) → Bool
refuses_meant s [] = false
refuses_meant s (line ∷ lines) = is_refusal (printed_by s (command_of line)) || refuses_meant (shelf_of s (accepted_of s (command_of line))) lines

-- one of these lines isn't in the grammar, or is a second key line
abbrev pub HasBadLine : List (List ℕ) → Type 0
HasBadLine [] = ⊥
HasBadLine (line ∷ lines) = IsBadLine (vault_line_of line) ⊎ HasBadLine lines

-- a script isn't in the grammar: it doesn't begin with its key line, or a line after that is bad

abbrev pub BadAfter : VaultOpening → Type 0
BadAfter (KeyFound key number rest) = HasBadLine rest
BadAfter (KeyMissing number) = Unit {0}

abbrev pub IsBadScript : List (List ℕ) → Type 0
IsBadScript lines = BadAfter (opening 1 lines)
