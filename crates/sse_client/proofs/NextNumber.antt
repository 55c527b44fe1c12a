-- The number of a reply, by its bytes.
use Rattle.std.proofs.Common.{◌≡◌, ℕ, List}
use Rattle.std.specs.Prelude.{IfSome}
use Rattle.sse_frames.specs.Replies.{ReplyText, Next, Took, Number, Clash, Page, BadList, NoMemory, StoreFault, BadFrame, OutOfPlace, reply_bytes}
use Rattle.sse_client.specs.Progress.{next_number}

-- the bytes of a Next reply are those of its number
pub next_spelled : (r : ReplyText) (bytes : List ℕ) → bytes ≡ reply_bytes r → IfSome (next_number r) (λ q. bytes ≡ reply_bytes (Next q))
next_spelled (Next q) bytes e = e
next_spelled (Took q) bytes e = tt
next_spelled (Number q) bytes e = tt
next_spelled (Clash what place) bytes e = tt
next_spelled (Page last ids) bytes e = tt
next_spelled BadList bytes e = tt
next_spelled NoMemory bytes e = tt
next_spelled StoreFault bytes e = tt
next_spelled (BadFrame reason) bytes e = tt
next_spelled OutOfPlace bytes e = tt
