-- The plaintexts of commands after a setup.
use Rattle.std.specs.Prelude.{ℕ, List, []}
use Rattle.client_registry.specs.Command.{Command, Add, Delete, Search}
use Rattle.sse_frames.specs.Frames.{be64}

-- that of each new entry of a command: the identifier of an addition
abbrev pub clear_by : Command → List ℕ
clear_by (Add d) = be64 d.id
clear_by (Delete id) = []
clear_by (Search word) = []
