-- The bytes of a frame are its head and its lists.
use Rattle.std.proofs.Common.{◌≡◌, ℕ, ◌+◌, ◌*◌, ◌≤◌, List, ◌++◌, length, refl, sym, ap, ◌∙◌, length-append, arith}
use Rattle.std.specs.List.{flat_map}
use Rattle.sse_frames.specs.declared.frame.Frame.{Frame}
use Rattle.sse_frames.specs.declared.frame.Frame.TheVariants as frames
use Rattle.sse_frames.specs.Frames.{FrameText, Hello, SetupBegin, SetupDict, SetupArray, SetupEnd, AddFrame, DeleteFrame, SearchFrame, be32, entry_bytes, joined, body_of, frame_bytes, InGrammar}
use Rattle.sse_frames.specs.FrameViews.{frame_view}
use Rattle.sse_frames.specs.Sizes.{HasSizes}
use Rattle.sse_frames.specs.Heads.{head_of, lists_of, lists_in}
use Rattle.sse_frames.proofs.Joined.{sizes_of, length-joined}
use Rattle.sse_frames.proofs.FrameBytesLaws.{length-entry_bytes, length-body_of}
use Rattle.sse_frames.proofs.Chunks.{joined-items_in, entry_bytes-entries_in}

-- the length of the body of each kind
frame_bytes-is : (text : FrameText) → InGrammar text → frame_bytes text ≡ head_of text ++ lists_of text
frame_bytes-is Hello is = refl
frame_bytes-is (SetupBegin q b big m a) is = refl
frame_bytes-is (SetupDict q width entries) is =
    let body = body_of (SetupDict q width entries) in
    let len : length body ≡ 9 + length entries * (16 + width) = omega (arith, length-entry_bytes width entries is.each) in
    ap (λ (n : ℕ). be32 n ++ body) len
frame_bytes-is (SetupArray q width blocks) is =
    let body = body_of (SetupArray q width blocks) in
    let len : length body ≡ 9 + length blocks * width = omega (arith, length-joined width blocks (sizes_of width blocks is.each)) in
    ap (λ (n : ℕ). be32 n ++ body) len
frame_bytes-is (SetupEnd q) is = refl
frame_bytes-is (AddFrame q entries numbers) is =
    let body = body_of (AddFrame q entries numbers) in
    let len : length body ≡ 9 + length entries * 24 + length numbers * 16 =
    omega (arith, length-append (flat_map entry_bytes entries) (joined numbers), length-entry_bytes 8 entries is.each, length-joined 16 numbers (sizes_of 16 numbers is.each_number)) in
    ap (λ (n : ℕ). be32 n ++ body) len
frame_bytes-is (DeleteFrame q numbers) is =
    let body = body_of (DeleteFrame q numbers) in
    let len : length body ≡ 7 + length numbers * 16 = omega (arith, length-joined 16 numbers (sizes_of 16 numbers is.each_number)) in
    ap (λ (n : ℕ). be32 n ++ body) len
frame_bytes-is (SearchFrame token) is =
    let body = body_of (SearchFrame token) in
    let len : length body ≡ 161 = omega (arith, is.size_is) in
    ap (λ (n : ℕ). be32 n ++ body) len

lists_of-frame_view : (frame : Frame) → InGrammar (frame_view frame) → HasSizes frame → lists_of (frame_view frame) ≡ lists_in frame
lists_of-frame_view frames.Hello is sizes = refl
lists_of-frame_view (frames.SetupBegin q b big m a) is sizes = refl
lists_of-frame_view (frames.SetupDict q width entries) is sizes = entry_bytes-entries_in width entries.now sizes
lists_of-frame_view (frames.SetupArray q width blocks) is sizes = joined-items_in width blocks.now (omega (arith, is.block.1, is.block.3)) sizes
lists_of-frame_view (frames.SetupEnd q) is sizes = refl
lists_of-frame_view (frames.Add q entries numbers) is sizes =
    let first = entry_bytes-entries_in 8 entries.now sizes.whole_entries in
    let second = joined-items_in 16 numbers.now (omega arith) sizes.whole_numbers in
    λ i. first i ++ second i
lists_of-frame_view (frames.Delete q numbers) is sizes = joined-items_in 16 numbers.now (omega arith) sizes
lists_of-frame_view (frames.Search token) is sizes = refl

-- a head and two lists that are written for a frame of the code
pub written : (frame : Frame) (head first second : List ℕ) → InGrammar (frame_view frame) → HasSizes frame → head ≡ head_of (frame_view frame) → first ++ second ≡ lists_in frame → head ++ (first ++ second) ≡ frame_bytes (frame_view frame)
written frame head first second is sizes head_is lists_are =
    ap (λ (x : List ℕ). x ++ (first ++ second)) head_is
    ∙ ap (λ (x : List ℕ). head_of (frame_view frame) ++ x) (lists_are ∙ sym (lists_of-frame_view frame is sizes))
    ∙ sym (frame_bytes-is (frame_view frame) is)

-- a frame of the grammar has at most 541,709 bytes
pub length-frame_bytes : (text : FrameText) → InGrammar text → length (frame_bytes text) ≤ 541709
length-frame_bytes text is = let len = length-body_of text is in let most : length (body_of text) ≤ 541705 = len.most in omega arith
