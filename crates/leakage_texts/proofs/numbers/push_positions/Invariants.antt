use Rattle.std.proofs.Common.{◌≡◌, ◌++◌, take, string_bytes}
use Rattle.leakage_texts.specs.LeakTexts.{numbers_text}
use Rattle.leakage_texts.proofs.numbers.push_positions.Given as goal

abbrev pub invariant-loop-position : goal.invariant-loop-position
invariant-loop-position l = string_bytes l.line ≡ string_bytes l.initial.line ++ numbers_text (take l.position-index l.positions)
