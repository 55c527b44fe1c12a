-- A page that is written: its head, then its identifiers.
use Rattle.std.proofs.Common.{◌≡◌, ℕ, zero, suc, ◌+◌, ◌*◌, ◌/◌, Bool, List, [], ◌∷◌, ◌++◌, map, length, drop, refl, sym, ap, ◌∙◌, length-append, arith}
use Rattle.std.specs.Prelude.{if◌then◌else◌}
use Rattle.std.specs.Int.{w64, from_be_bytes}
use Rattle.std.specs.List.{flat_map}
use Rattle.std.proofs.lemmas.List.{length-drop, nil_from_length}
use Rattle.std.proofs.Math.Nat.{mul-div_cancel}
use Rattle.sse_frames.specs.Frames.{be16, be32, be64}
use Rattle.sse_frames.specs.Replies.{Page, reply_bytes, page_head}
use Rattle.sse_frames.specs.FrameViews.{numbers_in}
use Rattle.sse_frames.specs.Sizes.{AreIds}
use Rattle.sse_frames.proofs.Cut.{AreBytes, then64}
use Rattle.sse_frames.proofs.Ids.{ids_at, ids_at-suc, length-ids_at}
use Rattle.sse_frames.proofs.Chunks.{items_are}

pub length-be64s : (ids : List ℕ) → length (flat_map be64 ids) ≡ length ids * 8
length-be64s [] = refl
length-be64s (id ∷ ids) = let more = length-be64s ids in omega (arith, length-append (be64 id) (flat_map be64 ids))

-- the bytes of a page are its head and its identifiers
pub page_spelled : (last : Bool) (ids : List ℕ) → reply_bytes (Page last ids) ≡ page_head last (length ids) ++ flat_map be64 ids
page_spelled last ids =
    let len : suc (suc (suc (suc (length (flat_map be64 ids))))) ≡ 4 + length ids * 8 = omega (arith, length-be64s ids) in
    ap (λ (n : ℕ). be32 n ++ (0x85 ∷ (if last then 1 else 0) ∷ be16 (length ids) ++ flat_map be64 ids)) len

-- identifiers that are read are written again
pub ids_again : (count place : ℕ) (body : List ℕ) → AreBytes body → length body ≡ place + count * 8 → flat_map be64 (ids_at count place body) ≡ drop place body
ids_again zero place body bytes e = sym (nil_from_length (drop place body) (omega (arith, e, length-drop place body)))
ids_again (suc count) place body bytes e =
    ap (flat_map be64) (ids_at-suc count place body)
    ∙ sym (then64 place body (flat_map be64 (ids_at count (place + 8) body)) bytes (omega arith) (sym (ids_again count (place + 8) body bytes (omega (arith, e)))))

-- the bytes of the identifiers that are seen
pub be64-numbers_in : (last : Bool) (ids : List ℕ) → AreBytes ids → AreIds last ids → flat_map be64 (numbers_in ids) ≡ ids
be64-numbers_in last ids bytes are =
    ap (λ (pieces : List (List ℕ)). flat_map be64 (map (from_be_bytes w64) pieces)) (items_are 8 are.count ids (omega arith) are.whole)
    ∙ ids_again are.count 0 ids bytes (omega (arith, are.whole))

pub length-numbers_in : (last : Bool) (ids : List ℕ) (are : AreIds last ids) → length (numbers_in ids) ≡ length ids / 8
length-numbers_in last ids are =
    ap (λ (pieces : List (List ℕ)). length (map (from_be_bytes w64) pieces)) (items_are 8 are.count ids (omega arith) are.whole)
    ∙ length-ids_at are.count 0 ids
    ∙ sym (ap (λ (l : ℕ). l / 8) are.whole ∙ mul-div_cancel are.count (omega arith))
