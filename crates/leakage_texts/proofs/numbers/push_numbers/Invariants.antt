use Rattle.std.proofs.Common.{◌≡◌, ◌++◌, take, string_bytes}
use Rattle.leakage_texts.specs.LeakTexts.{numbers_text}
use Rattle.leakage_texts.proofs.numbers.push_numbers.Given as goal

abbrev pub invariant-loop-number : goal.invariant-loop-number
invariant-loop-number l = string_bytes l.line ≡ string_bytes l.initial.line ++ numbers_text (take l.number-index l.numbers)
