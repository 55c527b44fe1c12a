-- The pages of an answer are read off the bytes of the replies that came.
use Rattle.std.proofs.Common.{◌≡◌, ℕ, false, List, [], ◌∷◌, ◌++◌, map, refl, sym, ap, ◌∙◌}
use Rattle.std.specs.Prelude.{flat_map}
use Rattle.std.specs.List.{AllByRecursion}
use Rattle.std.proofs.lemmas.List.{append-nil}
use Rattle.list_packing.specs.Parts.{parts}
use Rattle.sse_frames.proofs.Replied.{joined-pages, InReplies-pages}
use Rattle.sse_frames.proofs.ReplyBytesLaws.{one_reply}
use Rattle.sse_frames.specs.Replies.{ReplyText, Page, reply_bytes, IsIdentifier, InReplies}
use Rattle.sse_frames.specs.SentParts.{page_each, pages_of, pages, page_ids}

-- Pages end at their last one.

each_front : (x y : List ℕ) (ps qs : List (List ℕ)) (a b : List ReplyText) → page_each x ps ++ a ≡ page_each y qs ++ b → (page_each x ps ≡ page_each y qs) × (a ≡ b)
each_front x y [] [] a b e =
    let same : x ≡ y = cc in
    let rest : a ≡ b = cc in
    (cc, rest)
each_front x y [] (q ∷ qs) a b e = absurd cc
each_front x y (p ∷ ps) [] a b e = absurd cc
each_front x y (p ∷ ps) (q ∷ qs) a b e =
    let same : x ≡ y = cc in
    let rest : page_each p ps ++ a ≡ page_each q qs ++ b = cc in
    let later = each_front p q ps qs a b rest in
    ((λ i. Page false (same i) ∷ later.0 i), later.1)

parts_front : (ps qs : List (List ℕ)) (a b : List ReplyText) → pages_of ps ++ a ≡ pages_of qs ++ b → (pages_of ps ≡ pages_of qs) × (a ≡ b)
parts_front [] [] a b e = each_front [] [] [] [] a b e
parts_front [] (q ∷ qs) a b e = each_front [] q [] qs a b e
parts_front (p ∷ ps) [] a b e = each_front p [] ps [] a b e
parts_front (p ∷ ps) (q ∷ qs) a b e = each_front p q ps qs a b e

-- no answer's pages begin another's, so replies begin with one answer at most
pub one_answer : (xs ys : List ℕ) (a b : List ReplyText) → pages xs ++ a ≡ pages ys ++ b → (xs ≡ ys) × (a ≡ b)
one_answer xs ys a b e =
    let both = parts_front (parts 8192 xs) (parts 8192 ys) a b e in
    (sym (joined-pages xs) ∙ ap (flat_map page_ids) both.0 ∙ joined-pages ys, both.1)

-- The same of bytes.

-- where the bytes of replies begin the bytes of others, the replies begin the others
pub replies_back : (rs ss : List ReplyText) (rest : List (List ℕ)) → AllByRecursion InReplies rs → AllByRecursion InReplies ss → map reply_bytes rs ++ rest ≡ map reply_bytes ss
    → (more : List ReplyText) × (rs ++ more ≡ ss) × (rest ≡ map reply_bytes more)
replies_back [] ss rest in_rs in_ss e = (ss, refl, e)
replies_back (r ∷ rs) [] rest in_rs in_ss e = absurd cc
replies_back (r ∷ rs) (s ∷ ss) rest in_rs in_ss e =
    let first : reply_bytes r ≡ reply_bytes s = cc in
    let behind : map reply_bytes rs ++ rest ≡ map reply_bytes ss = cc in
    let same = (one_reply r s [] [] in_rs.0 in_ss.0 (ap (λ bytes. bytes ++ []) first)).0 in
    let later = replies_back rs ss rest in_rs.1 in_ss.1 behind in
    (later.0, (λ i. same i ∷ later.1 i), later.2)

-- the bytes of an answer's pages begin those of one answer, and nothing is left behind them
pub pages_back : (xs ys : List ℕ) (rest : List (List ℕ)) → AllByRecursion IsIdentifier xs → AllByRecursion IsIdentifier ys → map reply_bytes (pages xs) ++ rest ≡ map reply_bytes (pages ys)
    → (xs ≡ ys) × (rest ≡ [])
pages_back xs ys rest are_xs are_ys e =
    let read = replies_back (pages xs) (pages ys) rest (InReplies-pages xs are_xs) (InReplies-pages ys are_ys) e in
    let same = one_answer xs ys read.0 [] (read.1 ∙ sym (append-nil (pages ys))) in
    (same.0, read.2 ∙ ap (map reply_bytes) same.1)
