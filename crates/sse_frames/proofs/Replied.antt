-- The pages of an answer: together they are the answer, and each is a page of the grammar.
use Rattle.std.proofs.Common.{◌≡◌, ℕ, zero, suc, ◌+◌, ◌*◌, ◌<◌, ◌≤◌, List, [], ◌∷◌, ◌++◌, length, take, drop, refl, ap, ◌∙◌, arith}
use Rattle.std.specs.Int.{div_ceil}
use Rattle.std.specs.List.{flat_map, AllByRecursion}
use Rattle.std.specs.Simd.{first_chunks}
use Rattle.std.proofs.lemmas.Grind.{div_ceil_times}
use Rattle.std.proofs.lemmas.List.{length-take, length-drop}
use Rattle.list_packing.specs.Parts.{parts}
use Rattle.list_packing.proofs.PartsLemmas.{joined-parts}
use Rattle.sse_frames.specs.Replies.{IsIdentifier, InReplies}
use Rattle.sse_frames.specs.SentParts.{page_each, pages_of, pages, page_ids}

joined_each : (ids : List ℕ) (others : List (List ℕ)) → flat_map page_ids (page_each ids others) ≡ flat_map (λ part. part) (ids ∷ others)
joined_each ids [] = refl
joined_each ids (more ∷ others) = ap (λ (rest : List ℕ). ids ++ rest) (joined_each more others)

joined_of : (ps : List (List ℕ)) → flat_map page_ids (pages_of ps) ≡ flat_map (λ part. part) ps
joined_of [] = refl
joined_of (p ∷ ps) = joined_each p ps

-- the identifiers of the pages are the answer
pub joined-pages : (ids : List ℕ) → flat_map page_ids (pages ids) ≡ ids
joined-pages ids = joined_of (parts 8192 ids) ∙ joined-parts 8192 ids (omega arith)

all_take : (P : ℕ → Type 0) (n : ℕ) (xs : List ℕ) → AllByRecursion P xs → AllByRecursion P (take n xs)
all_take P zero xs all = tt
all_take P (suc n) [] all = tt
all_take P (suc n) (x ∷ xs) all = (all.0, all_take P n xs all.1)

all_drop : (P : ℕ → Type 0) (n : ℕ) (xs : List ℕ) → AllByRecursion P xs → AllByRecursion P (drop n xs)
all_drop P zero xs all = all
all_drop P (suc n) [] all = tt
all_drop P (suc n) (x ∷ xs) all = all_drop P n xs all.1

-- all pages but the last are full
pages_stand : (n : ℕ) (ids : List ℕ) → n * 8192 < length ids → length ids ≤ suc n * 8192 → AllByRecursion IsIdentifier ids
    → AllByRecursion InReplies (page_each (take 8192 ids) (first_chunks 8192 n (drop 8192 ids)))
pages_stand zero ids above within all =
    (record { most = omega (arith, length-take 8192 ids); full = λ e. absurd cc; each = all_take IsIdentifier 8192 ids all }, tt)
pages_stand (suc n) ids above within all =
    let left = length-drop 8192 ids in (
      record { most = omega (arith, length-take 8192 ids); full = λ e. omega (arith, length-take 8192 ids, above); each = all_take IsIdentifier 8192 ids all },
      pages_stand n (drop 8192 ids) (omega (arith, left, above)) (omega (arith, left, within)) (all_drop IsIdentifier 8192 ids all),
    )

pages_from : (count : ℕ) (ids : List ℕ) → length ids ≤ count * 8192 → count * 8192 < length ids + 8192 → AllByRecursion IsIdentifier ids
    → AllByRecursion InReplies (pages_of (first_chunks 8192 count ids))
pages_from zero ids within above all = (record { most = omega arith; full = λ e. absurd cc; each = tt }, tt)
pages_from (suc n) ids within above all = pages_stand n ids (omega (arith, above)) within all

-- each page of identifiers is in the grammar
pub InReplies-pages : (ids : List ℕ) → AllByRecursion IsIdentifier ids → AllByRecursion InReplies (pages ids)
InReplies-pages ids all =
    let times = div_ceil_times (length ids) 8192 (omega arith) in
    pages_from (div_ceil (length ids) 8192) ids times.0 times.1 all
