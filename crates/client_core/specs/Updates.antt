-- The command of a history that an update is.
use Rattle.client_registry.specs.Command.{Command, Add, Delete}
use Rattle.client_registry.specs.IdNumber.{id_number}
use Rattle.client_core.specs.declared.update.Update.{Update}
use Rattle.client_core.specs.declared.update.Update.TheVariants as updates

abbrev pub command_of_update : Update → Command
command_of_update (updates.Add doc) = Add doc
command_of_update (updates.Delete id) = Delete (id_number id)
