-- Pages that come one after the other: full ones and then the last are the pages of one answer, and each page of an answer may stand there.
use Rattle.std.proofs.Common.{◌≡◌, ℕ, zero, suc, ◌+◌, ◌*◌, ◌<◌, ◌≤◌, Bool, true, false, List, [], ◌∷◌, ◌++◌, length, take, drop, map, refl, sym, ap, subst, ◌∙◌, length-take, length-drop, arith}
use Rattle.std.specs.Prelude.{flat_map}
use Rattle.std.specs.Int.{div_ceil}
use Rattle.std.specs.List.{AllByRecursion}
use Rattle.std.specs.Simd.{first_chunks}
use Rattle.std.proofs.lemmas.Grind.{div_ceil_times}
use Rattle.std.proofs.lemmas.List.Concat.{flat_map-append}
use Rattle.std.proofs.lemmas.List.{append-nil}
use Rattle.client_replies.proofs.PagesTaken.{AreTaken, pages-taken}
use Rattle.sse_frames.specs.Replies.{ReplyText, Next, Took, Number, Clash, Page, BadList, NoMemory, StoreFault, BadFrame, OutOfPlace, IsPage}
use Rattle.sse_frames.specs.SentParts.{page_each, pages_of, pages}

abbrev pub joined : List (List ℕ) → List ℕ
joined took = flat_map (λ ids. ids) took

-- Full pages, and then the last.

-- pages that aren't the last
abbrev pub full_pages : List (List ℕ) → List ReplyText
full_pages took = map (λ ids. Page false ids) took

each_last : (first : List ℕ) (took : List (List ℕ)) (ids : List ℕ) → page_each first (took ++ ids ∷ []) ≡ Page false first ∷ (full_pages took ++ Page true ids ∷ [])
each_last first [] ids = refl
each_last first (next ∷ took) ids = ap (λ x. Page false first ∷ x) (each_last next took ids)

pages_of_last : (took : List (List ℕ)) (ids : List ℕ) → pages_of (took ++ ids ∷ []) ≡ full_pages took ++ Page true ids ∷ []
pages_of_last [] ids = refl
pages_of_last (first ∷ took) ids = each_last first took ids

pub joined-push : (took : List (List ℕ)) (ids : List ℕ) → joined (took ++ ids ∷ []) ≡ joined took ++ ids
joined-push took ids = flat_map-append (λ x. x) took (ids ∷ []) ∙ ap (λ x. joined took ++ x) (append-nil ids)

are_taken : (first : List ℕ) (took : List (List ℕ)) (ids : List ℕ) → AllByRecursion (IsPage false) (first ∷ took) → length ids ≤ 8192 → 1 ≤ length ids → AreTaken first (took ++ ids ∷ [])
are_taken first [] ids each most some = (each.0.full refl, some, most)
are_taken first (next ∷ took) ids each most some = (each.0.full refl, omega (arith, each.1.0.full refl), are_taken next took ids each.1 most some)

-- full pages and then the last one, which may be empty only where it is the first, are those of what they hold
pub pages-full : (took : List (List ℕ)) (ids : List ℕ) → AllByRecursion (IsPage false) took → length ids ≤ 8192 → (1 ≤ length took → 1 ≤ length ids) → pages (joined took ++ ids) ≡ full_pages took ++ Page true ids ∷ []
pages-full [] ids each most some = ap pages (sym (append-nil ids)) ∙ pages-taken ids [] most
pages-full (first ∷ took) ids each most some =
    ap pages (sym (joined-push (first ∷ took) ids)) ∙ pages-taken first (took ++ ids ∷ []) (are_taken first took ids each most (some (omega arith))) ∙ pages_of_last (first ∷ took) ids

-- A page of an answer.

abbrev IsSomePage : ReplyText → Type 0
IsSomePage (Page last ids) = 1 ≤ length ids
IsSomePage _ = ⊥

some_pages : (n : ℕ) (ids : List ℕ) → n * 8192 < length ids → AllByRecursion IsSomePage (page_each (take 8192 ids) (first_chunks 8192 n (drop 8192 ids)))
some_pages zero ids above = (omega (arith, length-take 8192 ids), tt)
some_pages (suc n) ids above = (omega (arith, length-take 8192 ids), some_pages n (drop 8192 ids) (omega (arith, length-drop 8192 ids)))

-- what holds of all holds of each
pub at_place : (P : ReplyText → Type 0) (rs : List ReplyText) (r : ReplyText) (more : List ReplyText) → AllByRecursion P (rs ++ r ∷ more) → P r
at_place P [] r more all = all.0
at_place P (s ∷ rs) r more all = at_place P rs r more all.1

-- a reply is a page, and not empty unless none stands before it
abbrev pub IsPageBehind : ℕ → ReplyText → Type 0
IsPageBehind before r = (last : Bool) × (ids : List ℕ) × (r ≡ Page last ids) × (1 ≤ before → 1 ≤ length ids)

some_page : (before : ℕ) (r : ReplyText) → IsSomePage r → IsPageBehind before r
some_page before (Next q) some = absurd some
some_page before (Took q) some = absurd some
some_page before (Number q) some = absurd some
some_page before (Clash what place) some = absurd some
some_page before (Page last ids) some = (last, ids, refl, λ _. some)
some_page before BadList some = absurd some
some_page before NoMemory some = absurd some
some_page before StoreFault some = absurd some
some_page before (BadFrame reason) some = absurd some
some_page before OutOfPlace some = absurd some

only_page : (rs : List ReplyText) (r : ReplyText) (more : List ReplyText) → rs ++ r ∷ more ≡ Page true [] ∷ [] → IsPageBehind (length rs) r
only_page [] r more e = let same : r ≡ Page true [] = cc in (true, [], same, λ before. absurd (omega (arith, before)))
only_page (s ∷ []) r more e = absurd cc
only_page (s ∷ t ∷ rs) r more e = absurd cc

page_in : (count : ℕ) (ids : List ℕ) (rs : List ReplyText) (r : ReplyText) (more : List ReplyText) → count * 8192 < length ids + 8192 → rs ++ r ∷ more ≡ pages_of (first_chunks 8192 count ids)
    → IsPageBehind (length rs) r
page_in zero ids rs r more above e = only_page rs r more e
page_in (suc n) ids rs r more above e =
    some_page (length rs) r (at_place IsSomePage rs r more (subst (AllByRecursion IsSomePage) (sym e) (some_pages n ids (omega (arith, above)))))

-- each reply among an answer's pages is a page, and not empty after another
pub page-pages : (ids : List ℕ) (rs : List ReplyText) (r : ReplyText) (more : List ReplyText) → rs ++ r ∷ more ≡ pages ids → IsPageBehind (length rs) r
page-pages ids rs r more e = page_in (div_ceil (length ids) 8192) ids rs r more (div_ceil_times (length ids) 8192 (omega arith)).1 e
