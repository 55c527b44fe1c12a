use Rattle.std.proofs.Common.{◌≡◌, ◌+◌, ◌%◌, take}
use Rattle.std.specs.Prelude.{sum}
use Rattle.script_game.proofs.game_rule.number_of.Given as goal

abbrev pub invariant-loop-byte : goal.invariant-loop-byte
invariant-loop-byte l = l.x ≡ (l.seed + l.turn + sum (take l.byte-index l.bytes)) % 3
