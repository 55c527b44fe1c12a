use Rattle.std.proofs.Common.{◌≡◌, ℕ, List, ◌++◌, map, drop}
use Rattle.list_packing.specs.Parts.{parts}
use Rattle.sse_frames.specs.Frames.{FrameText}
use Rattle.leakage_frames.specs.MadeFrames.{part_frame, part_frames, then_updates}
use Rattle.leakage_frames.proofs.passed.Passing.parts.Given as goal

abbrev pub invariant-loop-i : goal.invariant-loop-i
invariant-loop-i l = (rest : List (ℕ → FrameText))
    → then_updates l.self (map (part_frame l.section l.width) (drop l.i (parts l.size l.items)) ++ rest) ≡ then_updates l.fn.self (part_frames l.section l.width l.size l.items ++ rest)
