-- The pages of a list, one by one, and what their bytes say of those to come.
use Rattle.std.proofs.Common.{◌≡◌, ◌≢◌, ℕ, suc, ◌-◌, ◌/◌, ◌<◌, ◌≤◌, Bool, true, false, not, ◌&&◌, ◌==◌, slice_index, List, [], ◌∷◌, ◌++◌, length, take, drop, get_or, map, refl, sym, ap, ◌∙◌, subst, arith, length-append}
use Rattle.std.specs.Prelude.{IfSome, IsTrue, ◌↔◌, if◌then◌else◌}
use Rattle.std.specs.List.{All}
use Rattle.std.proofs.lemmas.Bool.{true≢false}
use Rattle.std.proofs.lemmas.Grind.{get_or_default_zero}
use Rattle.std.proofs.lemmas.List.{append-nil, length-drop, length-take-le, take_all}
use Rattle.std.proofs.lemmas.List.Elements.{recursion_from_All}
use Rattle.std.proofs.Math.Seq.{take-append_seam, drop-append_seam}
use Rattle.std.specs.Int.{div_ceil}
use Rattle.std.specs.Simd.{first_chunks}
use Rattle.keyed_fn.specs.KeyedFn.{KeyedFn}
use Rattle.sse_frames.specs.Replies.{ReplyText, Page, IsPage, IsIdentifier, reply_bytes}
use Rattle.server_core.specs.Refusal.{is_nil}
use Rattle.server_core.specs.State.{ServerState}
use Rattle.server_core.specs.Walk.{contents_of, rest_of}
use Rattle.sse_frames.specs.SentParts.{page_each, pages_of, pages}
use Rattle.server_core.specs.declared.answer.Answer.{Answer}
use Rattle.server_core.specs.declared.answer.Answer.TheVariants as answers
use Rattle.server_core.specs.Views.{answer_replies}
use Rattle.sse_link.specs.declared.due.Due.{Due}
use Rattle.sse_link.specs.declared.due.Due.TheVariants as dues
use Rattle.sse_link.specs.Due.{waiting, first_of, is_more, behind_first, IsOpenPage, IsDue, CanWrite}

-- a list of more than a page has a full page first
pub pages-more : (ids : List ℕ) → 8192 < length ids → pages ids ≡ Page false (take 8192 ids) ∷ pages (drop 8192 ids)
pages-more ids more =
    let rest = length-drop 8192 ids in
    let later : div_ceil (length (drop 8192 ids)) 8192 ≡ suc ((length (drop 8192 ids) - 1) / 8192) = omega (arith, rest) in
    let count : div_ceil (length ids) 8192 ≡ suc (suc ((length (drop 8192 ids) - 1) / 8192)) = omega (arith, rest) in
    ap (λ n. pages_of (first_chunks 8192 n ids)) count ∙ sym (ap (λ n. Page false (take 8192 ids) ∷ pages_of (first_chunks 8192 n (drop 8192 ids))) later)

-- a list of at most a page is one page
pub pages-last : (ids : List ℕ) → length ids ≤ 8192 → pages ids ≡ Page true ids ∷ []
pages-last [] few = refl
pages-last (id ∷ ids) few =
    let count : div_ceil (length (id ∷ ids)) 8192 ≡ 1 = omega arith in
    ap (λ n. pages_of (first_chunks 8192 n (id ∷ ids))) count ∙ ap (λ xs. Page true xs ∷ []) (take_all 8192 (id ∷ ids) few)

pages_each_some : (ids : List ℕ) (others : List (List ℕ)) → is_nil (page_each ids others) ≡ false
pages_each_some ids [] = refl
pages_each_some ids (more ∷ others) = refl

pages_of_some : (parts : List (List ℕ)) → is_nil (pages_of parts) ≡ false
pages_of_some [] = refl
pages_of_some (ids ∷ others) = pages_each_some ids others

-- there is always a page
pub is_nil-pages : (ids : List ℕ) → is_nil (pages ids) ≡ false
is_nil-pages ids = pages_of_some _

-- the kind byte of a page, and after it the flag of one that isn't the last
abbrev has_open_flag : List ℕ → Bool
has_open_flag reply = slice_index reply 4 == 0x85 && slice_index reply 5 == 0

-- the last page leaves nothing due
pub last_page : (ids : List ℕ) → IsOpenPage (reply_bytes (Page true ids)) → ⊥
last_page ids is = true≢false (sym (ap has_open_flag is.is.spelled))

-- numbers of 64 bits, none of them 0, are a page: no more than one has, and as many where it isn't the last
pub page_of : (is_last : Bool) (ids : List ℕ) → length ids ≤ 8192 → (is_last ≡ false → length ids ≡ 8192) → All (λ id. 0 < id) ids → ((k : ℕ) → get_or ids k 0 < 18446744073709551616) → IsPage is_last ids
page_of is_last ids most full some fit = record {
  most = most;
  full = full;
  each = recursion_from_All IsIdentifier ids
      (λ k d below.
      let same : get_or ids k d ≡ get_or ids k 0 = get_or_default_zero ids k d below in
      let positive : 0 < get_or ids k 0 = some k 0 below in
      let fits = fit k in
      (omega arith, omega arith));
}

-- its bytes say whether others follow
pub open_page : (is_last : Bool) (ids bytes : List ℕ) → IsPage is_last ids → bytes ≡ reply_bytes (Page is_last ids) → IsTrue (not is_last) ↔ IsOpenPage bytes
open_page true ids bytes page are = (λ more. absurd (true≢false (sym more)), λ is. absurd (last_page ids (subst IsOpenPage are is)))
open_page false ids bytes page are = (λ more. record { ids = ids; is = record { grammar = page; spelled = are } }, λ is. refl)

-- identifiers that fill a page where others follow are the first page of all
pages-front : (xs ys : List ℕ) (is_over : Bool) → length xs ≤ 8192 → (is_over ≡ true → ys ≡ []) → (is_over ≡ false → ys ≢ []) → (is_over ≡ false → length xs ≡ 8192)
    → pages (xs ++ ys) ≡ Page is_over xs ∷ (if is_over then [] else pages ys)
pages-front xs ys true most over more full = ap (λ l. pages (xs ++ l)) (over refl) ∙ ap pages (append-nil xs) ∙ pages-last xs most
pages-front xs [] false most over more full = absurd (more refl refl)
pages-front xs (y ∷ ys) false most over more full =
    let long = full refl in
    let front : take 8192 (xs ++ y ∷ ys) ≡ xs = ap (λ n. take n (xs ++ y ∷ ys)) (sym long) ∙ take-append_seam xs (y ∷ ys) in
    let others : drop 8192 (xs ++ y ∷ ys) ≡ y ∷ ys = ap (λ n. drop n (xs ++ y ∷ ys)) (sym long) ∙ drop-append_seam xs (y ∷ ys) in
    pages-more (xs ++ y ∷ ys) (omega (arith, length-append xs (y ∷ ys), long)) ∙ (λ i. Page false (front i) ∷ pages (others i))

-- a reply that waits can be written
pub CanWrite-waiting : (f : KeyedFn) (s : ServerState) (due : Due) (page : List ℕ) → IsDue f s due page → not (is_nil (map reply_bytes (waiting f s due page))) ≡ true → CanWrite due page
CanWrite-waiting f s dues.Nothing page is some = absurd (true≢false (sym some))
CanWrite-waiting f s (dues.Single reply) page is some = is
CanWrite-waiting f s (dues.Pages count walk) page is some = is.front

-- after the first reply wait the others
pub waiting-first : (f : KeyedFn) (s : ServerState) (due due' : Due) (page page' bytes : List ℕ) → length page ≡ 8192 → IsDue f s due page → CanWrite due page → IfSome (first_of due page) (λ reply. bytes ≡ reply_bytes reply)
    → waiting f s due' page' ≡ behind_first f s due → map reply_bytes (waiting f s due page) ≡ bytes ∷ map reply_bytes (waiting f s due' page')
waiting-first f s dues.Nothing due' page page' bytes long is can first rest = absurd can
waiting-first f s (dues.Single reply) due' page page' bytes long is can first rest = λ i. sym first i ∷ map reply_bytes (sym rest i)
waiting-first f s (dues.Pages count walk) due' page page' bytes long is can first rest =
    let size : length (take count page) ≡ count = length-take-le count page is.front.room in
    ap (map reply_bytes)
    (pages-front (take count page) (rest_of f (contents_of s) walk) walk.is_over (omega (arith, size, long, is.front.room)) is.walk_is.over is.walk_is.more (λ more. size ∙ is.front.full more ∙ long))
    ∙ (λ i. sym first i ∷ map reply_bytes (sym rest i))

-- where there are any
pub is_more-behind_first : (f : KeyedFn) (s : ServerState) (due : Due) → not (is_nil (behind_first f s due)) ≡ is_more due
is_more-behind_first f s dues.Nothing = refl
is_more-behind_first f s (dues.Single reply) = refl
is_more-behind_first f s (dues.Pages count walk) = by walk.is_over
  where
    by : (b : Bool) → not (is_nil (if b then [] else pages (rest_of f (contents_of s) walk))) ≡ not b
    by true = refl
    by false = ap not (is_nil-pages (rest_of f (contents_of s) walk))

is_nil-map : (rs : List ReplyText) → is_nil (map reply_bytes rs) ≡ is_nil rs
is_nil-map [] = refl
is_nil-map (r ∷ rs) = refl

pub is_more-waiting : (f : KeyedFn) (s : ServerState) (due due' : Due) (page' : List ℕ) → waiting f s due' page' ≡ behind_first f s due → not (is_nil (map reply_bytes (waiting f s due' page'))) ≡ is_more due
is_more-waiting f s due due' page' rest = ap not (is_nil-map (waiting f s due' page') ∙ ap is_nil rest) ∙ is_more-behind_first f s due

-- each answer has a reply
pub is_nil-answer_replies : (f : KeyedFn) (s : ServerState) (answer : Answer) (page : List ℕ) → is_nil (answer_replies f s answer page) ≡ false
is_nil-answer_replies f s (answers.Next q) page = refl
is_nil-answer_replies f s (answers.Took q) page = refl
is_nil-answer_replies f s (answers.Number next) page = refl
is_nil-answer_replies f s (answers.Clash what place) page = refl
is_nil-answer_replies f s (answers.Found count walk) page = is_nil-pages _
is_nil-answer_replies f s answers.BadList page = refl
is_nil-answer_replies f s answers.NoMemory page = refl
is_nil-answer_replies f s answers.OutOfPlace page = refl
