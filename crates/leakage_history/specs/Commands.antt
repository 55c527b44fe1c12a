-- The command of a history that a command of the code is.
use Rattle.client_registry.specs.Command.{Command as Meant, Add, Delete, Search}
use Rattle.client_registry.specs.IdNumber.{id_number}
use Rattle.client_registry.specs.WordBytes.{word_bytes}
use Rattle.leakage_history.specs.declared.command.Command.{Command}
use Rattle.leakage_history.specs.declared.command.Command.TheVariants as commands

-- what a command means
abbrev pub command_of : Command → Meant
command_of (commands.Add doc) = Add doc
command_of (commands.Delete id) = Delete (id_number id)
command_of (commands.Search word) = Search (word_bytes word)
