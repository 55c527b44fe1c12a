-- The owner's number and the body of a frame as a record of a journal.
use Rattle.std.proofs.Common.{◌≡◌, ℕ, ◌+◌, ◌≤◌, List, length, refl, sym, ap, subst, arith, length-append}
use Rattle.std.specs.Int.{w64, to_be_bytes}
use Rattle.sse_frames.specs.Frames.{FrameText, InGrammar, body_of}
use Rattle.sse_frames.proofs.FrameBytesLaws.{length-body_of}
use Rattle.sse_journal.specs.Files.{IsPayload}
use Rattle.sse_owners.specs.Owned.{owned, record_of}

pub payload_of : (owner : ℕ) (text : FrameText) → InGrammar text → IsPayload (record_of (owned owner text))
payload_of owner text is =
    let len = length-body_of text is in
    let most : length (body_of text) ≤ 541705 = len.most in
    let eight : length (to_be_bytes w64 owner) ≡ 8 = refl in
    let all : length (record_of (owned owner text)) ≡ length (to_be_bytes w64 owner) + length (body_of text) = length-append (to_be_bytes w64 owner) (body_of text) in
    record { some = omega (arith, all, eight); limit = omega (arith, all, eight, most) }

pub record_most : (owner : ℕ) (text : FrameText) (bytes : List ℕ) → InGrammar text → bytes ≡ record_of (owned owner text) → length bytes ≤ 541713
record_most owner text bytes is are =
    let len = length-body_of text is in
    let most : length (body_of text) ≤ 541705 = len.most in
    let eight : length (to_be_bytes w64 owner) ≡ 8 = refl in
    let all : length (record_of (owned owner text)) ≡ length (to_be_bytes w64 owner) + length (body_of text) = length-append (to_be_bytes w64 owner) (body_of text) in
    omega (arith, ap length are, all, eight, most)

pub payload_is : (owner : ℕ) (text : FrameText) (bytes : List ℕ) → InGrammar text → bytes ≡ record_of (owned owner text) → IsPayload bytes
payload_is owner text bytes is are = subst IsPayload (sym are) (payload_of owner text is)
