-- The fault that an unexpected reply is.
use Rattle.std.specs.Prelude.{◌≡◌, ℕ, List}
use Rattle.sse_frames.specs.ReadOutcomes.{IsReply}
use Rattle.sse_frames.specs.Replies.{ReplyText, Clash, NoMemory, StoreFault}
use Rattle.client_replies.specs.declared.reply_fault.ReplyFault.{ReplyFault}
use Rattle.client_replies.specs.declared.reply_fault.ReplyFault.TheVariants as faults

-- the fault that a reply reports where it isn't one that is expected
abbrev pub fault_told : ReplyText → ReplyFault
fault_told (Clash what place) = faults.Clash what place
fault_told NoMemory = faults.NoMemory
fault_told StoreFault = faults.StoreFault
fault_told _ = faults.BadReply

-- the bytes report this fault: they are its reply; BadReply where they are no reply, or one that reports nothing else
abbrev pub IsFaultOf : List ℕ → ReplyFault → Type 0
IsFaultOf bytes (faults.Clash what place) = IsReply (Clash what place) bytes
IsFaultOf bytes faults.NoMemory = IsReply NoMemory bytes
IsFaultOf bytes faults.StoreFault = IsReply StoreFault bytes
IsFaultOf bytes faults.BadReply = (text : ReplyText) → IsReply text bytes → fault_told text ≡ faults.BadReply
IsFaultOf bytes faults.OutOfMemory = ⊥
