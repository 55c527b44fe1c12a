-- A contract's view of a command, and of what was read as one.
use Rattle.vault_shelf.specs.Shelves as meant
use Rattle.vault_shelf.specs.declared.vault_command.VaultCommand.{VaultCommand}
use Rattle.vault_shelf.specs.declared.vault_command.VaultCommand.TheVariants as commands

abbrev pub command_view : VaultCommand → meant.VaultCommand
command_view (commands.Put id body) = meant.Put id body.now
command_view (commands.Drop id) = meant.Drop id
command_view (commands.Get id) = meant.Get id
