-- The answer to bytes that aren't one whole frame.
use Rattle.std.specs.Prelude.{ℕ, Bool, List, Result, Ok, Err}
use Rattle.sse_frames.specs.declared.fault.FrameFault.{FrameFault}
use Rattle.sse_frames.specs.declared.fault.FrameFault.TheVariants.{BadLength, BadKind, BadBody}
use Rattle.sse_frames.specs.Frames.{IsFrame}

-- the reason of BadFrame: 1 for a length that is out of range or isn't that of the bytes, 2 for an unknown kind, 3 for
-- another field
abbrev pub bad_reason : Result Bool FrameFault → ℕ
bad_reason (Ok whole) = 1
bad_reason (Err (BadLength n)) = 1
bad_reason (Err (BadKind byte)) = 2
bad_reason (Err (BadBody place)) = 3

-- the bytes aren't those of one frame
abbrev pub IsNoFrame : List ℕ → Type 0
IsNoFrame bytes = IsFrame bytes → ⊥
