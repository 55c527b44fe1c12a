-- What a run's lines print if the vault stands as the client left it: a get prints the text of the identifier's last put.
use Rattle.std.specs.Prelude.{◌≡◌, ℕ, List, [], ◌∷◌, Option, None, Some}
use Rattle.std.specs.Option.{option_and_then}
use Rattle.vault_shelf.specs.ShelfFaults.{shelf_fault}
use Rattle.vault_shelf.specs.Shelves.{Shelf, VaultCommand, Put, Drop, Get, shelf_of, text_there}
use Rattle.vault_shelf.specs.declared.shelf_fault.ShelfFault.{ShelfFault}
use Rattle.vault_script.specs.VaultLines.{vault_line_of}
use Rattle.vault_script.specs.VaultShown.{VaultShownText, Stored, Dropped, Fetched, NoBody, Refused}
use Rattle.doc_vault.specs.CommandViews.{command_said, refusal_of}
use Rattle.doc_vault.specs.VaultRuns.{Turn}

-- of a get: the text, or that there is none
abbrev pub text_line : ℕ → Option (List ℕ) → VaultShownText
text_line id None = NoBody id
text_line id (Some text) = Fetched id text

-- of a command that is accepted
abbrev pub accepted_line : Shelf → VaultCommand → VaultShownText
accepted_line s (Put id body) = Stored id
accepted_line s (Drop id) = Dropped id
accepted_line s (Get id) = text_line id (text_there s id)

-- of a command, by why it is refused
abbrev pub judged_line : Option ShelfFault → Shelf → VaultCommand → VaultShownText
judged_line None s c = accepted_line s c
judged_line (Some fault) s c = Refused (refusal_of fault)

-- of a line of the script, by its command: one without a command prints nothing
abbrev pub printed_by : Shelf → Option VaultCommand → List VaultShownText
printed_by s None = []
printed_by s (Some c) = judged_line (shelf_fault s c) s c ∷ []

-- each turn prints this, for what the client knows after those before it
abbrev pub PrintTheirTexts : Shelf → List Turn → Type 0
PrintTheirTexts s [] = Unit {0}
PrintTheirTexts s (turn ∷ turns) = (turn.shown ≡ printed_by s (option_and_then command_said (vault_line_of turn.line))) × PrintTheirTexts (shelf_of s turn.commands) turns
