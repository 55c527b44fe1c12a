use Rattle.std.proofs.Common.{◌≡◌, ◌+◌, ◌*◌, ◌≤◌, ◌++◌}
use Rattle.arrayvec.specs.ArrayString.{array_string_len}
use Rattle.script_made_lines.specs.Buffer.{shared_text}
use Rattle.script_made_lines.proofs.line_buffer.push_shared.Given as goal

abbrev pub invariant-loop-j : goal.invariant-loop-j
invariant-loop-j l = (l.buffer.bytes ≡ l.initial.buffer.bytes ++ shared_text l.seed l.id l.j) × (array_string_len l.buffer ≤ array_string_len l.initial.buffer + 5 * l.j)
