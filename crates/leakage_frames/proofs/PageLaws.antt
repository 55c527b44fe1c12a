-- The pages of an answer, one after the other.
use Rattle.std.proofs.Common.{◌≡◌, ℕ, ◌<◌, ◌≤◌, ◌≢◌, ◌==◌, Bool, true, false, List, [], ◌∷◌, ◌++◌, length, map, drop, refl, sym, ap, eqb-true, ◌∙◌, arith}
use Rattle.std.proofs.lemmas.Bool.{eqb-false}
use Rattle.std.proofs.lemmas.List.{at_drop_all, drop_more}
use Rattle.sse_frames.specs.Exchange.{Received}
use Rattle.sse_frames.specs.Frames.{SearchFrame, frame_bytes}
use Rattle.sse_frames.specs.Replies.{ReplyText, Page, reply_bytes}
use Rattle.sse_frames.specs.SentParts.{page_each, pages_of, pages}
use Rattle.leakage_frames.specs.Steps.{passed_bytes, bytes_of}

-- the pages of these parts, the last one marked; none where there is no part
abbrev pub paged : List (List ℕ) → List ReplyText
paged [] = []
paged (ids ∷ others) = page_each ids others

-- whether there is no part
abbrev pub is_none : List (List ℕ) → Bool
is_none [] = true
is_none (ids ∷ others) = false

pub paged-cons : (ids : List ℕ) (others : List (List ℕ)) → paged (ids ∷ others) ≡ Page (is_none others) ids ∷ paged others
paged-cons ids [] = refl
paged-cons ids (more ∷ others) = refl

-- where there is a part they are the pages
pub paged-pages : (parts : List (List ℕ)) → 0 < length parts → pages_of parts ≡ paged parts
paged-pages [] some = absurd (omega (arith, some))
paged-pages (ids ∷ others) some = refl

-- there is no part from a place on exactly where it is behind the last
pub is_none-drop : (parts : List (List ℕ)) (k n : ℕ) → k ≤ length parts → n ≡ length parts → (k == n) ≡ is_none (drop k parts)
is_none-drop parts k n within count = by (k == n) refl
  where
    by : (b : Bool) → (k == n) ≡ b → (k == n) ≡ is_none (drop k parts)
    by true is =
        let end : k ≡ n = eqb-true k n is in
        is ∙ sym (at_drop_all is_none parts k (omega (arith, end, count)))
    by false is =
        let apart : k ≢ n = eqb-false k n is in
        let inside : k < length parts = omega (arith, apart, count, within) in
        is ∙ sym (ap is_none (drop_more parts k [] inside))

received-bytes : (replies : List ReplyText) → map passed_bytes (map Received replies ++ []) ≡ map reply_bytes replies
received-bytes [] = refl
received-bytes (reply ∷ replies) = ap (λ (rest : List (List ℕ)). reply_bytes reply ∷ rest) (received-bytes replies)

-- a search with the pages of its answer
pub bytes_of-search : (token found : List ℕ) → bytes_of (found ∷ []) (SearchFrame token ∷ []) ≡ frame_bytes (SearchFrame token) ∷ map reply_bytes (pages found)
bytes_of-search token found = ap (λ (rest : List (List ℕ)). frame_bytes (SearchFrame token) ∷ rest) (received-bytes (pages found))
