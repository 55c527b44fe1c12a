use Rattle.std.proofs.Common.{◌≡◌, ◌++◌, map}
use Rattle.std.specs.List.{range_with_len}
use Rattle.sse_model.specs.Positions.{block_text}
use Rattle.two_level.specs.Laid.{laid}
use Rattle.leakage_plaintexts.proofs.laid_texts.push_blocks_of.Given as goal

abbrev pub invariant-loop-i : goal.invariant-loop-i
invariant-loop-i l = l.texts ≡ l.initial.texts ++ map (λ i. block_text i (laid l.shape l.ranks l.ids)) (range_with_len 0 l.i)
