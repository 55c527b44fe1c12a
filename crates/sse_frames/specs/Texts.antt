-- The text printed for bytes that are no frame or no reply.
use Rattle.std.specs.Prelude.{ℕ, List, ◌++◌, codes, decimal}
use Rattle.sse_frames.specs.declared.fault.FrameFault.{FrameFault}
use Rattle.sse_frames.specs.declared.fault.FrameFault.TheVariants.{BadLength, BadKind, BadBody}

abbrev pub frame_fault_text : FrameFault → List ℕ
frame_fault_text (BadLength n) = codes "a body of " ++ decimal n ++ codes " bytes is empty or above the limit"
frame_fault_text (BadKind byte) = codes "byte " ++ decimal byte ++ codes " is no kind of frame or reply"
frame_fault_text (BadBody place) = codes "the body is not valid at byte " ++ decimal place ++ codes " from 0"
