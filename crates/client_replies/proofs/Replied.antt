-- Bytes are one reply at most, and that reply says which fault they are.
use Rattle.std.proofs.Common.{◌≡◌, ℕ, List, [], ◌++◌, refl, sym, ap, ◌∙◌}
use Rattle.sse_frames.specs.Replies.{ReplyText, Next, Took, Number, Clash, Page, BadList, NoMemory, StoreFault, BadFrame, OutOfPlace}
use Rattle.sse_frames.specs.ReadOutcomes.{IsReply}
use Rattle.sse_frames.proofs.ReplyBytesLaws.{one_reply}
use Rattle.client_replies.specs.declared.reply_fault.ReplyFault.{ReplyFault}
use Rattle.client_replies.specs.declared.reply_fault.ReplyFault.TheVariants as faults
use Rattle.client_replies.specs.Faults.{fault_told, IsFaultOf}

-- bytes are one reply at most
pub same_reply : (r s : ReplyText) (bytes : List ℕ) → IsReply r bytes → IsReply s bytes → r ≡ s
same_reply r s bytes is_r is_s =
    (one_reply r s [] [] is_r.grammar is_s.grammar (ap (λ (x : List ℕ). x ++ []) (sym is_r.spelled ∙ is_s.spelled))).0

nothing_else : (r : ReplyText) (bytes : List ℕ) → IsReply r bytes → fault_told r ≡ faults.BadReply → (s : ReplyText) → IsReply s bytes → fault_told s ≡ faults.BadReply
nothing_else r bytes is e s is_s = sym (ap fault_told (same_reply r s bytes is is_s)) ∙ e

-- bytes that are a reply report its fault
pub IsFaultOf-fault_told : (r : ReplyText) (bytes : List ℕ) → IsReply r bytes → IsFaultOf bytes (fault_told r)
IsFaultOf-fault_told (Next q) bytes is = nothing_else (Next q) bytes is refl
IsFaultOf-fault_told (Took q) bytes is = nothing_else (Took q) bytes is refl
IsFaultOf-fault_told (Number q) bytes is = nothing_else (Number q) bytes is refl
IsFaultOf-fault_told (Clash what place) bytes is = is
IsFaultOf-fault_told (Page last ids) bytes is = nothing_else (Page last ids) bytes is refl
IsFaultOf-fault_told BadList bytes is = nothing_else BadList bytes is refl
IsFaultOf-fault_told NoMemory bytes is = is
IsFaultOf-fault_told StoreFault bytes is = is
IsFaultOf-fault_told (BadFrame reason) bytes is = nothing_else (BadFrame reason) bytes is refl
IsFaultOf-fault_told OutOfPlace bytes is = nothing_else OutOfPlace bytes is refl

-- the fault that bytes report is that of the reply that they are
pub fault_told-IsFaultOf : (fault : ReplyFault) (bytes : List ℕ) → IsFaultOf bytes fault → (text : ReplyText) → IsReply text bytes → fault ≡ fault_told text
fault_told-IsFaultOf (faults.Clash what place) bytes is text reply = ap fault_told (same_reply (Clash what place) text bytes is reply)
fault_told-IsFaultOf faults.NoMemory bytes is text reply = ap fault_told (same_reply NoMemory text bytes is reply)
fault_told-IsFaultOf faults.StoreFault bytes is text reply = ap fault_told (same_reply StoreFault text bytes is reply)
fault_told-IsFaultOf faults.BadReply bytes is text reply = sym (is text reply)
fault_told-IsFaultOf faults.OutOfMemory bytes is text reply = absurd is
