use Rattle.std.proofs.Common.{◌≡◌, ◌++◌, map, take}
use Rattle.sse_frames.specs.Frames.{joined}
use Rattle.leakage_frames.proofs.entry.append_blocks.Given as goal

abbrev pub invariant-loop-block : goal.invariant-loop-block
invariant-loop-block l = l.out ≡ l.fn.out ++ joined (map (λ block. block.text) (take l.block-index l.blocks))
