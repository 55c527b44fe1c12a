-- The command of a line, the printed line of a command, and that of a refusal.
use Rattle.std.specs.Prelude.{ℕ, List, Option, None, Some}
use Rattle.vault_shelf.specs.Shelves.{VaultCommand, Put, Drop, Get}
use Rattle.vault_shelf.specs.declared.shelf_fault.ShelfFault.{ShelfFault}
use Rattle.vault_shelf.specs.declared.shelf_fault.ShelfFault.TheVariants as faults
use Rattle.vault_script.specs.VaultLines.{VaultLineText, EmptyLine, KeyLine, PutLine, DropLine, GetLine}
use Rattle.vault_script.specs.VaultShown.{VaultShownText, Stored, Dropped, Fetched}
use Rattle.vault_script.specs.declared.vault_refusal.VaultRefusal.{VaultRefusal}
use Rattle.vault_script.specs.declared.vault_refusal.VaultRefusal.TheVariants as refusals

-- the command of a line that is one
abbrev pub command_said : VaultLineText → Option VaultCommand
command_said EmptyLine = None
command_said (KeyLine key) = None
command_said (PutLine id body) = Some (Put id body)
command_said (DropLine id) = Some (Drop id)
command_said (GetLine id) = Some (Get id)

-- what is printed for a command that was carried out, where this text was received for a get
abbrev pub shown_of : VaultCommand → List ℕ → VaultShownText
shown_of (Put id body) text = Stored id
shown_of (Drop id) text = Dropped id
shown_of (Get id) text = Fetched id text

-- the printed cause of a refusal
abbrev pub refusal_of : ShelfFault → VaultRefusal
refusal_of faults.IdentifierZero = refusals.Zero
refusal_of (faults.IsThere id) = refusals.BodyThere id
refusal_of (faults.NotThere id) = refusals.NoBody id
refusal_of (faults.TooLong n) = refusals.TooLong n
refusal_of faults.Full = refusals.VaultFull
