-- A reply that is spelled so has no fault.
use Rattle.std.proofs.Common.{◌≡◌, ℕ, ◌+◌, ◌*◌, ◌≤◌, Bool, true, false, List, [], ◌∷◌, ◌++◌, length, get_or, drop, None, Ok, refl, sym, ap, ◌∙◌, arith}
use Rattle.std.specs.Prelude.{if◌then◌else◌}
use Rattle.std.specs.Int.{w16, w32}
use Rattle.std.specs.List.{flat_map}
use Rattle.std.proofs.lemmas.List.{append-nil}
use Rattle.sse_frames.specs.Frames.{be64}
use Rattle.sse_frames.specs.Replies.{ReplyText, Next, Took, Number, Clash, Page, BadList, NoMemory, StoreFault, BadFrame, OutOfPlace, reply_body, reply_bytes, IsPage, InReplies}
use Rattle.sse_frames.specs.Fields.{number_at, byte_field, range_field, id_fields, end_field, first_fault}
use Rattle.sse_frames.specs.Tables.{number_field, any_field, least_ids, page_fields, reply_fields}
use Rattle.sse_frames.specs.ReadOutcomes.{fault_in, or_fault, outcome, reply_outcome}
use Rattle.sse_frames.proofs.Stands.{stands_then, no_fault-append, range_stands, byte_stands, end_stands, ids_no_fault}
use Rattle.sse_frames.proofs.InFront.{front-spelled}
use Rattle.sse_frames.proofs.FrameBytesLaws.{back16, back32}
use Rattle.sse_frames.proofs.ReplyBytesLaws.{length-reply_body}
use Rattle.sse_frames.proofs.Pages.{length-be64s}

last_most : (last : Bool) → (if last then 1 else 0) ≤ 1
last_most true = omega arith
last_most false = omega arith

-- a page has enough identifiers
least_is : (last : Bool) (n : ℕ) → (last ≡ false → n ≡ 8192) → least_ids (if last then 1 else 0) ≤ n
least_is true n full = omega arith
least_is false n full = let is : n ≡ 8192 = full refl in omega (arith, is)

page_no_fault : (last : Bool) (ids : List ℕ) (body : List ℕ) → IsPage last ids → body ≡ reply_body (Page last ids)
    → get_or body 1 0 ≡ (if last then 1 else 0) → number_at w16 2 body ≡ length ids
    → first_fault (page_fields (get_or body 1 0) (number_at w16 2 body)) body ≡ None
page_no_fault last ids body is body_is last_byte n_is =
    let byte : ℕ = if last then 1 else 0 in
    let rest : drop 4 body ≡ flat_map be64 ids ++ [] = ap (drop 4) body_is ∙ sym (append-nil (flat_map be64 ids)) in
    let long : length body ≡ length (reply_body (Page last ids)) = ap length body_is in
    let end : length body ≡ 4 + length ids * 8 = omega (arith, long, length-be64s ids) in
    let four : 4 ≤ length body = omega arith in
    let tail = id_fields (length ids) 4 ++ end_field (4 + length ids * 8) ∷ [] in
    let ends = stands_then (end_field (4 + length ids * 8)) [] body (end_stands (4 + length ids * 8) body end) refl in
    let all : first_fault (page_fields byte (length ids)) body ≡ None =
    stands_then (byte_field 0 1 1) (range_field w16 (least_ids byte) 8192 2 ∷ tail) body (byte_stands 0 1 1 byte body (omega arith) last_byte (omega arith) (last_most last))
    (stands_then (range_field w16 (least_ids byte) 8192 2) tail body (range_stands w16 (least_ids byte) 8192 2 (length ids) body (omega arith) n_is (least_is last (length ids) is.full) is.most)
    (no_fault-append (id_fields (length ids) 4) (end_field (4 + length ids * 8) ∷ []) body (ids_no_fault ids 4 body [] rest is.each) ends)) in
    ap (λ (l : ℕ). first_fault (page_fields l (number_at w16 2 body)) body) last_byte ∙ ap (λ (n : ℕ). first_fault (page_fields byte n) body) n_is ∙ all

-- the body of a reply of the grammar has no fault
pub fault_in-reply_body : (reply : ReplyText) → InReplies reply → fault_in (reply_fields (reply_body reply)) (reply_body reply) ≡ None
unfolding number_at
fault_in-reply_body (Next q) is =
    stands_then (any_field 1) (end_field 5 ∷ []) (reply_body (Next q)) (range_stands w32 0 0xffffffff 1 q (reply_body (Next q)) (omega arith) (back32 q is) (omega arith) (omega (arith, is))) refl
fault_in-reply_body (Took q) is =
    stands_then number_field (end_field 5 ∷ []) (reply_body (Took q)) (range_stands w32 0 0xfffffffe 1 q (reply_body (Took q)) (omega arith) (back32 q (omega (arith, is))) (omega arith) (omega (arith, is))) refl
fault_in-reply_body (Number q) is =
    stands_then (any_field 1) (end_field 5 ∷ []) (reply_body (Number q)) (range_stands w32 0 0xffffffff 1 q (reply_body (Number q)) (omega arith) (back32 q is) (omega arith) (omega (arith, is))) refl
fault_in-reply_body (Clash what place) is =
    stands_then (byte_field 1 3 1) (any_field 2 ∷ end_field 6 ∷ []) (reply_body (Clash what place)) (byte_stands 1 3 1 what (reply_body (Clash what place)) (omega arith) refl is.0 is.1)
    (stands_then (any_field 2) (end_field 6 ∷ []) (reply_body (Clash what place)) (range_stands w32 0 0xffffffff 2 place (reply_body (Clash what place)) (omega arith) (back32 place is.2) (omega arith) (omega (arith, is.2))) refl)
fault_in-reply_body (Page last ids) is = page_no_fault last ids (reply_body (Page last ids)) is refl refl (back16 (length ids) (omega (arith, is.most)))
fault_in-reply_body BadList is = refl
fault_in-reply_body NoMemory is = refl
fault_in-reply_body StoreFault is = refl
fault_in-reply_body (BadFrame reason) is =
    stands_then (byte_field 1 3 1) (end_field 2 ∷ []) (reply_body (BadFrame reason)) (byte_stands 1 3 1 reason (reply_body (BadFrame reason)) (omega arith) refl is.0 is.1) refl
fault_in-reply_body OutOfPlace is = refl

-- bytes that begin with a reply of the grammar are read
pub reply_outcome-reply_bytes : (reply : ReplyText) (rest : List ℕ) → InReplies reply → reply_outcome (reply_bytes reply ++ rest) ≡ Ok true
reply_outcome-reply_bytes reply rest is =
    let len = length-reply_body reply is in
    ap (outcome reply_fields) (front-spelled 65540 (reply_body reply) rest len.some len.most (omega arith))
    ∙ ap or_fault (fault_in-reply_body reply is)
