-- The bodies whose fields stand are those of the replies that are read from them.
use Rattle.std.proofs.Common.{◌≡◌, ℕ, zero, suc, ◌+◌, ◌*◌, ◌≤◌, false, List, [], ◌∷◌, ◌++◌, map, length, get_or, drop, refl, sym, ap, ◌∙◌, arith}
use Rattle.std.specs.Prelude.{nat_eq, if◌then◌else◌}
use Rattle.std.specs.Int.{w16, w32, w64, from_be_bytes}
use Rattle.std.specs.List.{flat_map}
use Rattle.std.proofs.lemmas.List.{length-drop}
use Rattle.sse_frames.specs.Frames.{be16, be32, be64}
use Rattle.sse_frames.specs.Replies.{Page, reply_body}
use Rattle.sse_frames.specs.FrameViews.{numbers_in}
use Rattle.sse_frames.specs.Fields.{number_at}
use Rattle.sse_frames.specs.Tables.{least_ids}
use Rattle.sse_frames.proofs.Cut.{AreBytes, then16, then32, then_kind, then_byte, at_end}
use Rattle.sse_frames.proofs.Chunks.{items_are}
use Rattle.sse_frames.proofs.Ids.{ids_at}

-- a kind and a number of four bytes
pub number_body : (kind : ℕ) (body : List ℕ) → AreBytes body → get_or body 0 0 ≡ kind → length body ≡ 5 → body ≡ kind ∷ be32 (number_at w32 1 body)
number_body kind body bytes is end =
    then_kind kind body _ is (omega (arith, end)) (then32 1 body [] bytes (omega (arith, end)) (at_end 5 body end))

-- a kind, a byte and a number of four bytes
pub clash_body : (kind : ℕ) (body : List ℕ) → AreBytes body → get_or body 0 0 ≡ kind → length body ≡ 6 → body ≡ kind ∷ get_or body 1 0 ∷ be32 (number_at w32 2 body)
clash_body kind body bytes is end =
    then_kind kind body _ is (omega (arith, end))
    (then_byte body _ (omega (arith, end))
    (then32 2 body [] bytes (omega (arith, end)) (at_end 6 body end)))

-- the identifiers that are seen in the rest of a body of so many
pub ids_are : (count : ℕ) (body : List ℕ) → length body ≡ 4 + count * 8 → numbers_in (drop 4 body) ≡ ids_at count 4 body
ids_are count body end =
    ap (map (from_be_bytes w64)) (items_are 8 count (drop 4 body) (omega arith) (omega (arith, end, length-drop 4 body)))

last_byte : (last : ℕ) → last ≤ 1 → (if nat_eq last 1 then 1 else 0) ≡ last
last_byte zero le = refl
last_byte (suc zero) le = refl
last_byte (suc (suc n)) le = absurd (omega arith)

pub page_body : (body : List ℕ) → AreBytes body → get_or body 0 0 ≡ 0x85 → (count : ℕ) → number_at w16 2 body ≡ count → get_or body 1 0 ≤ 1
    → length body ≡ 4 + count * 8 → (ids : List ℕ) → length ids ≡ count → drop 4 body ≡ flat_map be64 ids
    → body ≡ reply_body (Page (nat_eq (get_or body 1 0) 1) ids)
page_body body bytes kind count n last end ids len joined =
    then_kind 0x85 body _ kind (omega (arith, end))
    (then_byte body _ (omega (arith, end))
    (then16 2 body _ bytes (omega (arith, end)) joined))
    ∙ ap (λ (b : ℕ). 0x85 ∷ b ∷ be16 (number_at w16 2 body) ++ flat_map be64 ids) (sym (last_byte (get_or body 1 0) last))
    ∙ ap (λ (k : ℕ). 0x85 ∷ (if nat_eq (get_or body 1 0) 1 then 1 else 0) ∷ be16 k ++ flat_map be64 ids) (n ∙ sym len)

-- a page that isn't the last is full
pub is_full : (last count : ℕ) → last ≤ 1 → least_ids last ≤ count → count ≤ 8192 → nat_eq last 1 ≡ false → count ≡ 8192
is_full zero count le least most e = omega arith
is_full (suc zero) count le least most e = absurd cc
is_full (suc (suc n)) count le least most e = absurd (omega arith)
