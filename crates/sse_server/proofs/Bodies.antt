-- The body of a frame as a record of a journal.
use Rattle.std.proofs.Common.{◌≡◌, ℕ, ◌≤◌, ◌++◌, List, [], length, drop, refl, arith}
use Rattle.sse_frames.specs.Frames.{FrameText, InGrammar, body_of, frame_bytes}
use Rattle.sse_frames.proofs.Heads.{length-frame_bytes}
use Rattle.sse_frames.proofs.FrameBytesLaws.{length-body_of}
use Rattle.sse_journal.specs.Files.{IsPayload}

pub payload_of : (text : FrameText) → InGrammar text → IsPayload (body_of text)
payload_of text is =
    let len = length-body_of text is in
    let most : length (body_of text) ≤ 541705 = len.most in
    record { some = len.some; limit = omega arith }

-- a buffer that was empty, with a frame written after
pub spelled_most : (text : FrameText) (bytes begun : List ℕ) → InGrammar text → begun ≡ [] → bytes ≡ begun ++ frame_bytes text → length bytes ≤ 541709
spelled_most text bytes begun is none are = rw (are, none) (length-frame_bytes text is)

pub spelled_body : (text : FrameText) (bytes begun : List ℕ) → begun ≡ [] → bytes ≡ begun ++ frame_bytes text → drop 4 bytes ≡ body_of text
spelled_body text bytes begun none are = rw (are, none) refl
