use Rattle.std.proofs.Common.{length}
use Rattle.test_units.proofs.script_lines.with_words.Given as goal

abbrev pub decreases-loop-word : goal.decreases-loop-word
decreases-loop-word l = length l.words
