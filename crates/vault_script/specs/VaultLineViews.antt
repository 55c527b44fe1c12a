-- A line as the code has it, seen as what it says.
use Rattle.vault_script.specs.VaultLines as lines
use Rattle.vault_script.specs.declared.vault_line.VaultLine.{VaultLine}
use Rattle.vault_script.specs.declared.vault_line.VaultLine.TheVariants.{Empty, Key, Put, Drop, Get}

abbrev pub vault_line_view : VaultLine → lines.VaultLineText
vault_line_view Empty = lines.EmptyLine
vault_line_view (Key key) = lines.KeyLine key
vault_line_view (Put id body) = lines.PutLine id body.items
vault_line_view (Drop id) = lines.DropLine id
vault_line_view (Get id) = lines.GetLine id
