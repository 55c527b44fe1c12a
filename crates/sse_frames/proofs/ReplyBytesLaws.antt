-- A reply of the grammar is read off its body again, so no two have the same bytes.
use Rattle.std.proofs.Common.{◌≡◌, ℕ, ◌≤◌, Bool, true, false, List, [], ◌∷◌, ◌++◌, map, length, drop, refl, sym, ap, ◌∙◌, append_assoc, arith}
use Rattle.std.specs.Prelude.{nat_eq, ◌==◌, if◌then◌else◌, slice_index}
use Rattle.std.specs.Int.{w32, w64, from_be_bytes}
use Rattle.std.specs.List.{flat_map, AllByRecursion}
use Rattle.std.proofs.lemmas.Nat.{from_be_bytes-to_be_bytes_8}
use Rattle.sse_frames.specs.Frames.{be32, be64, joined}
use Rattle.sse_frames.specs.Replies.{ReplyText, Next, Took, Number, Clash, Page, BadList, NoMemory, StoreFault, BadFrame, OutOfPlace, reply_body, reply_bytes, IsIdentifier, InReplies}
use Rattle.sse_frames.specs.FrameViews.{numbers_in}
use Rattle.sse_frames.specs.Fields.{number_at}
use Rattle.sse_frames.proofs.Joined.{EachHas, items_in-joined}
use Rattle.sse_frames.proofs.Pages.{length-be64s}
use Rattle.sse_frames.proofs.FrameBytesLaws.{back32, be32_apart, same_front}

joined-be64s : (ids : List ℕ) → flat_map be64 ids ≡ joined (map be64 ids)
joined-be64s [] = refl
joined-be64s (id ∷ ids) = ap (λ (rest : List ℕ). be64 id ++ rest) (joined-be64s ids)

each_has_eight : (ids : List ℕ) → EachHas 8 (map be64 ids)
each_has_eight [] = tt
each_has_eight (id ∷ ids) = (refl, each_has_eight ids)

ids_back : (ids : List ℕ) → AllByRecursion IsIdentifier ids → map (from_be_bytes w64) (map be64 ids) ≡ ids
ids_back [] all = refl
ids_back (id ∷ ids) all =
    ap (λ (n : ℕ). n ∷ map (from_be_bytes w64) (map be64 ids)) (from_be_bytes-to_be_bytes_8 id all.0.1) ∙ ap (λ (ns : List ℕ). id ∷ ns) (ids_back ids all.1)

-- identifiers are cut out of their joined bytes
pub numbers_in-be64s : (ids : List ℕ) → AllByRecursion IsIdentifier ids → numbers_in (flat_map be64 ids) ≡ ids
numbers_in-be64s ids all =
    ap numbers_in (joined-be64s ids) ∙ ap (map (from_be_bytes w64)) (items_in-joined 8 (map be64 ids) (omega arith) (each_has_eight ids)) ∙ ids_back ids all

-- the reply that a body spells, by its kind byte
abbrev pub reply_in : List ℕ → ReplyText
reply_in body =
    if slice_index body 0 == 0x81 then Next (number_at w32 1 body)
    else if slice_index body 0 == 0x82 then Took (number_at w32 1 body)
    else if slice_index body 0 == 0x83 then Number (number_at w32 1 body)
    else if slice_index body 0 == 0x84 then Clash (slice_index body 1) (number_at w32 2 body)
    else if slice_index body 0 == 0x85 then Page (nat_eq (slice_index body 1) 1) (numbers_in (drop 4 body))
    else if slice_index body 0 == 0x86 then BadList
    else if slice_index body 0 == 0x87 then NoMemory
    else if slice_index body 0 == 0x88 then StoreFault
    else if slice_index body 0 == 0x89 then BadFrame (slice_index body 1)
    else OutOfPlace

last_back : (last : Bool) → nat_eq (if last then 1 else 0) 1 ≡ last
last_back true = refl
last_back false = refl

-- a reply of the grammar is the one that its body spells
pub reply_in-reply_body : (reply : ReplyText) → InReplies reply → reply_in (reply_body reply) ≡ reply
unfolding number_at
reply_in-reply_body (Next q) is = ap (λ (n : ℕ). Next n) (back32 q is)
reply_in-reply_body (Took q) is = ap (λ (n : ℕ). Took n) (back32 q (omega (arith, is)))
reply_in-reply_body (Number q) is = ap (λ (n : ℕ). Number n) (back32 q is)
reply_in-reply_body (Clash what place) is = ap (λ (n : ℕ). Clash what n) (back32 place is.2)
reply_in-reply_body (Page last ids) is =
    ap (λ (b : Bool). Page b (numbers_in (flat_map be64 ids))) (last_back last) ∙ ap (λ (ns : List ℕ). Page last ns) (numbers_in-be64s ids is.each)
reply_in-reply_body BadList is = refl
reply_in-reply_body NoMemory is = refl
reply_in-reply_body StoreFault is = refl
reply_in-reply_body (BadFrame reason) is = refl
reply_in-reply_body OutOfPlace is = refl

-- a body has at least its kind byte, and at most those of a full page
pub record HasReplyLength (body : List ℕ) : Type 0 where
  pub some : 1 ≤ length body
  pub most : length body ≤ 65540

pub length-reply_body : (reply : ReplyText) → InReplies reply → HasReplyLength (reply_body reply)
length-reply_body (Next q) is = record { some = omega arith; most = omega arith }
length-reply_body (Took q) is = record { some = omega arith; most = omega arith }
length-reply_body (Number q) is = record { some = omega arith; most = omega arith }
length-reply_body (Clash what place) is = record { some = omega arith; most = omega arith }
length-reply_body (Page last ids) is = record { some = omega arith; most = omega (arith, length-be64s ids, is.most) }
length-reply_body BadList is = record { some = omega arith; most = omega arith }
length-reply_body NoMemory is = record { some = omega arith; most = omega arith }
length-reply_body StoreFault is = record { some = omega arith; most = omega arith }
length-reply_body (BadFrame reason) is = record { some = omega arith; most = omega arith }
length-reply_body OutOfPlace is = record { some = omega arith; most = omega arith }

-- no reply of the grammar begins another, so bytes begin with one reply at most
pub one_reply : (r s : ReplyText) (x y : List ℕ) → InReplies r → InReplies s → reply_bytes r ++ x ≡ reply_bytes s ++ y → (r ≡ s) × (x ≡ y)
one_reply r s x y in_r in_s e =
    let len_r = length-reply_body r in_r in
    let len_s = length-reply_body s in_s in
    let apart = be32_apart (length (reply_body r)) (length (reply_body s)) (reply_body r ++ x) (reply_body s ++ y) (omega (arith, len_r.most)) (omega (arith, len_s.most))
    (sym (append_assoc (be32 (length (reply_body r))) (reply_body r) x) ∙ e ∙ append_assoc (be32 (length (reply_body s))) (reply_body s) y) in
    let same = same_front (reply_body r) (reply_body s) x y apart.0 apart.1 in
    (sym (reply_in-reply_body r in_r) ∙ ap reply_in same.0 ∙ reply_in-reply_body s in_s, same.1)
