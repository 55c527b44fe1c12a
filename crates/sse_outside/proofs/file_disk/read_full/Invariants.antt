use Rattle.std.proofs.Common.{◌≤◌, length}
use Rattle.sse_outside.proofs.file_disk.read_full.Given as goal

abbrev pub invariant-loop : goal.invariant-loop
invariant-loop g l = l.done ≤ length l.room
