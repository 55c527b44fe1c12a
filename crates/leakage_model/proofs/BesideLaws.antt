-- Pairs with rising identifiers beside them: which are listed, what is sent, and what one more changes.
use Rattle.std.proofs.Common.{◌≡◌, ℕ, zero, suc, ◌+◌, ◌-◌, ◌<◌, ◌≤◌, Bool, true, false, cond, ◌||◌, inl, inr, List, [], ◌∷◌, ◌++◌, length, find, get_or, nat_eq, refl, sym, ap, ◌∙◌, subst, arith, Some}
use Rattle.std.specs.Prelude.{if◌then◌else◌, slice_get, slice_index, slice_set, ◌==◌}
use Rattle.std.specs.List.{AllByRecursion, IsDistinct, list_any}
use Rattle.std.specs.List.Sorted.{IsStrictlyIncreasing}
use Rattle.std.specs.Option.{option_and_then, option_map, option_or}
use Rattle.std.proofs.lemmas.Bool.{true≢false, cases_lt, eqb-true, eq-eqb, ne_eqb, or_parts, or_from}
use Rattle.std.proofs.lemmas.List.{append_assoc, get_or_append_left, get_or-append_right, length_push, map-append}
use Rattle.std.proofs.lemmas.List.Folds.{list_any-append}
use Rattle.leakage_frames.specs.Views.{origin_view}
use Rattle.sse_simulator.specs.Leaks.{ListedLeak, Origin}
use Rattle.leakage_model.proofs.PairEntries.{IsSent, sent-absent}
use Rattle.leakage_model.specs.Pairs.{pair_with, pairs_beside}
use Rattle.leakage_model.specs.WordFacts.{listed_with, lists, new_pair, number_among, sent_among, sent_pair}
use Rattle.leakage_model.specs.declared.pair.Pair.{Pair}

-- of two lists in a row
pub lists-append : (id : ℕ) (xs ys : List ListedLeak) → lists id (xs ++ ys) ≡ (lists id xs || lists id ys)
lists-append id xs ys = list_any-append (λ (p : ListedLeak). id == p.id) xs ys

pub sent-append : (id : ℕ) (there : Origin) (revoked : Bool) (xs ys : List ListedLeak) → sent_among id there revoked (xs ++ ys) ≡ sent_among id there revoked xs ++ sent_among id there revoked ys
sent-append id there revoked xs ys = map-append (λ (p : ListedLeak). if id == p.id then sent_pair there revoked p else p) xs ys

-- the number of a pair that isn't among the first is that among the others
pub number-append : (id : ℕ) (xs ys : List ListedLeak) → lists id xs ≡ false → number_among id (xs ++ ys) ≡ number_among id ys
number-append id [] ys none = refl
number-append id (x ∷ xs) ys none =
    let parts = or_parts (id == x.id) (lists id xs) none in
    ap (λ b. option_and_then (λ (p : ListedLeak). p.number) (cond b (Some x) (find (λ (p : ListedLeak). id == p.id) (xs ++ ys)))) parts.0 ∙ number-append id xs ys parts.1

-- a pair is listed where its identifier stands
pub lists-beside : (id : ℕ) (ids : List ℕ) (ps : List Pair) → length ps ≡ length ids → lists id (pairs_beside ids ps) ≡ list_any (nat_eq id) ids
lists-beside id [] ps long = refl
lists-beside id (x ∷ ids) [] long = absurd (cc)
lists-beside id (x ∷ ids) (p ∷ ps) long = ap (λ b. nat_eq id x || b) (lists-beside id ids ps (omega (arith, long)))

pub length-beside : (ids : List ℕ) (ps : List Pair) → length ps ≡ length ids → length (pairs_beside ids ps) ≡ length ids
length-beside [] ps long = refl
length-beside (x ∷ ids) [] long = absurd (cc)
length-beside (x ∷ ids) (p ∷ ps) long = ap (λ n. suc n) (length-beside ids ps (omega (arith, long)))

-- one more goes last
pub beside-push : (ids : List ℕ) (ps : List Pair) (id : ℕ) (p : Pair) → length ps ≡ length ids → pairs_beside (ids ++ id ∷ []) (ps ++ p ∷ []) ≡ pairs_beside ids ps ++ pair_with id p ∷ []
beside-push [] [] id p long = refl
beside-push [] (q ∷ ps) id p long = absurd (cc)
beside-push (x ∷ ids) [] id p long = absurd (cc)
beside-push (x ∷ ids) (q ∷ ps) id p long = ap (λ (rest : List ListedLeak). pair_with x q ∷ rest) (beside-push ids ps id p (omega (arith, long)))

-- the pair at a place
pub beside-get : (ids : List ℕ) (ps : List Pair) (i id : ℕ) (p : Pair) (rest : List ListedLeak) → slice_get ids i ≡ Some id → slice_get ps i ≡ Some p → slice_get (pairs_beside ids ps ++ rest) i ≡ Some (pair_with id p)
beside-get [] ps i id p rest at with_it = absurd (cc)
beside-get (x ∷ ids) [] i id p rest at with_it = absurd (cc)
beside-get (x ∷ ids) (q ∷ ps) zero id p rest at with_it =
    let same : x ≡ id = cc in
    let own : q ≡ p = cc in
    λ i. Some (pair_with (same i) (own i))
beside-get (x ∷ ids) (q ∷ ps) (suc i) id p rest at with_it = beside-get ids ps i id p rest at with_it

-- those behind the first rise too
rising_tail : (x : ℕ) (ids : List ℕ) → IsStrictlyIncreasing (x ∷ ids) → IsStrictlyIncreasing ids
rising_tail x ids rising k within =
    subst (λ n. slice_index ids k < slice_index (x ∷ ids) n) (let e : suc k + 1 ≡ suc (k + 1) = omega arith in e) (rising (suc k) (omega (arith, within)))

-- the first of rising identifiers is below each other
first_below : (x : ℕ) (ids : List ℕ) → IsStrictlyIncreasing (x ∷ ids) → (k : ℕ) → k < length ids → x < slice_index ids k
first_below x ids rising zero within = rising 0 (omega (arith, within))
first_below x ids rising (suc k) within =
    let before = first_below x ids rising k (omega (arith, within)) in
    let step : slice_index ids k < slice_index ids (suc k) = subst (λ n. slice_index ids k < slice_index ids n) (let e : k + 1 ≡ suc k = omega arith in e) (rising_tail x ids rising k (omega (arith, within))) in
    omega (arith, before, step)

all_differ : (x : ℕ) (ids : List ℕ) → ((k : ℕ) → k < length ids → x < slice_index ids k) → AllByRecursion (λ k. nat_eq x k ≡ false) ids
all_differ x [] below = tt
all_differ x (y ∷ ids) below =
    let first : x < y = below 0 (omega arith) in
    (ne_eqb x y (λ e. omega (arith, first, e)), all_differ x ids (λ k within. below (suc k) (omega (arith, within))))

-- rising identifiers differ
pub rising-differ : (ids : List ℕ) → IsStrictlyIncreasing ids → IsDistinct nat_eq ids
unfolding IsDistinct
rising-differ [] rising = tt
rising-differ (x ∷ ids) rising = (all_differ x ids (first_below x ids rising), rising-differ ids (rising_tail x ids rising))

none_here : (id : ℕ) (ids : List ℕ) → AllByRecursion (λ k. nat_eq id k ≡ false) ids → list_any (nat_eq id) ids ≡ false
none_here id [] all = refl
none_here id (x ∷ ids) all = or_from (nat_eq id x) (list_any (nat_eq id) ids) all.0 (none_here id ids all.1)

-- an identifier that stands there
pub stands_there : (ids : List ℕ) (i id : ℕ) → slice_get ids i ≡ Some id → list_any (nat_eq id) ids ≡ true
stands_there [] i id at = absurd (cc)
stands_there (x ∷ ids) zero id at =
    let same : x ≡ id = cc in
    ap (λ b. b || list_any (nat_eq id) ids) (eq-eqb id x (sym same))
stands_there (x ∷ ids) (suc i) id at = ap (λ b. nat_eq id x || b) (stands_there ids i id at) ∙ or_true (nat_eq id x)
  where
    or_true : (b : Bool) → (b || true) ≡ true
    or_true true = refl
    or_true false = refl

-- the pair at a place is sent, and no other
pub sent-beside : (ids : List ℕ) (ps : List Pair) (i id : ℕ) (old new : Pair) (there : Origin) (revoked : Bool) → IsDistinct nat_eq ids → length ps ≡ length ids
    → slice_get ids i ≡ Some id → slice_get ps i ≡ Some old → IsSent old new there revoked
    → pairs_beside ids (slice_set ps i new) ≡ sent_among id there revoked (pairs_beside ids ps)
unfolding IsDistinct
sent-beside [] ps i id old new there revoked apart long at was sent = absurd (cc)
sent-beside (x ∷ ids) [] i id old new there revoked apart long at was sent = absurd (cc)
sent-beside (x ∷ ids) (q ∷ ps) zero id old new there revoked apart long at was sent =
    let same : x ≡ id = cc in
    let own : q ≡ old = cc in
    let none : lists id (pairs_beside ids ps) ≡ false =
    lists-beside id ids ps (omega (arith, long)) ∙ ap (λ n. list_any (nat_eq n) ids) (sym same) ∙ none_here x ids apart.0 in
    (λ j. record {
      id = x;
      origin = origin_view ((sent.origin ∙ ap (λ (p : Pair). p.origin) (sym own)) j);
      number = (sent.number ∙ ap (λ (p : Pair). option_or (option_map origin_view p.number) (Some there)) (sym own)) j;
      revoked = sent.revoked j;
    } ∷ sym (sent-absent id there revoked (pairs_beside ids ps) none) j)
    ∙ ap (λ (b : Bool). (if b then sent_pair there revoked (pair_with x q) else pair_with x q) ∷ sent_among id there revoked (pairs_beside ids ps)) (sym (eq-eqb id x (sym same)))
sent-beside (x ∷ ids) (q ∷ ps) (suc i) id old new there revoked apart long at was sent =
    let other : nat_eq id x ≡ false = differs in
    ap (λ (rest : List ListedLeak). pair_with x q ∷ rest) (sent-beside ids ps i id old new there revoked apart.1 (omega (arith, long)) at was sent)
    ∙ ap (λ (b : Bool). (if b then sent_pair there revoked (pair_with x q) else pair_with x q) ∷ sent_among id there revoked (pairs_beside ids ps)) (sym other)
  where
    differs : nat_eq id x ≡ false
    differs = by (nat_eq id x) refl
      where
        by : (b : Bool) → nat_eq id x ≡ b → b ≡ false
        by true is = absurd (true≢false (sym (stands_there ids i x (at ∙ ap (λ n. Some n) (eqb-true id x is))) ∙ none_here x ids apart.0))
        by false is = refl

-- its number is that of the pair at the place
pub number-beside : (ids : List ℕ) (ps : List Pair) (i id : ℕ) (p : Pair) (rest : List ListedLeak) → IsDistinct nat_eq ids → slice_get ids i ≡ Some id → slice_get ps i ≡ Some p
    → number_among id (pairs_beside ids ps ++ rest) ≡ option_map origin_view p.number
unfolding IsDistinct
number-beside [] ps i id p rest apart at with_it = absurd (cc)
number-beside (x ∷ ids) [] i id p rest apart at with_it = absurd (cc)
number-beside (x ∷ ids) (q ∷ ps) zero id p rest apart at with_it =
    let same : x ≡ id = cc in
    let own : q ≡ p = cc in
    ap (λ (b : Bool). option_and_then (λ (l : ListedLeak). l.number) (cond b (Some (pair_with x q)) (find (λ (l : ListedLeak). id == l.id) (pairs_beside ids ps ++ rest)))) (eq-eqb id x (sym same))
    ∙ ap (λ (l : Pair). option_map origin_view l.number) own
number-beside (x ∷ ids) (q ∷ ps) (suc i) id p rest apart at with_it =
    ap (λ (b : Bool). option_and_then (λ (l : ListedLeak). l.number) (cond b (Some (pair_with x q)) (find (λ (l : ListedLeak). id == l.id) (pairs_beside ids ps ++ rest)))) (differs (nat_eq id x) refl)
    ∙ number-beside ids ps i id p rest apart.1 at with_it
  where
    differs : (b : Bool) → nat_eq id x ≡ b → b ≡ false
    differs true is = absurd (true≢false (sym (stands_there ids i x (at ∙ ap (λ n. Some n) (eqb-true id x is))) ∙ none_here x ids apart.0))
    differs false is = refl

-- what is sent stays listed, and nothing else is
pub lists-sent : (x id : ℕ) (there : Origin) (revoked : Bool) (ps : List ListedLeak) → lists x (sent_among id there revoked ps) ≡ lists x ps
lists-sent x id there revoked [] = refl
lists-sent x id there revoked (p ∷ ps) = by (id == p.id) (lists-sent x id there revoked ps)
  where
    by : (b : Bool) → lists x (sent_among id there revoked ps) ≡ lists x ps → lists x ((if b then sent_pair there revoked p else p) ∷ sent_among id there revoked ps) ≡ lists x (p ∷ ps)
    by true had = ap (λ b. (x == p.id) || b) had
    by false had = ap (λ b. (x == p.id) || b) had

-- where another identifier is listed, one that wasn't isn't
pub lists-with : (x id : ℕ) (there : Origin) (ps : List ListedLeak) → nat_eq x id ≡ false → lists x ps ≡ false → lists x (listed_with id there ps) ≡ false
lists-with x id there ps other none = by (lists id ps)
  where
    by : (b : Bool) → lists x (if b then sent_among id there false ps else ps ++ new_pair id there ∷ []) ≡ false
    by true = lists-sent x id there false ps ∙ none
    by false = lists-append x ps (new_pair id there ∷ []) ∙ or_from (lists x ps) (lists x (new_pair id there ∷ [])) none (or_from (x == id) false other refl)

-- an identifier that stands among these is none that doesn't
pub other_than : (x id : ℕ) (ids : List ℕ) → list_any (nat_eq x) ids ≡ true → list_any (nat_eq id) ids ≡ false → nat_eq x id ≡ false
other_than x id ids here none = by (nat_eq x id) refl
  where
    by : (b : Bool) → nat_eq x id ≡ b → b ≡ false
    by true is = absurd (true≢false (sym here ∙ ap (λ n. list_any (nat_eq n) ids) (eqb-true x id is) ∙ none))
    by false is = refl

-- an identifier above the last of rising ones is above all

above_all : (ids : List ℕ) (id : ℕ) → IsStrictlyIncreasing ids → (0 < length ids → slice_index ids (length ids - 1) < id) → (back k : ℕ) → k + suc back ≡ length ids → slice_index ids k < id
above_all ids id rising above zero k here = subst (λ n. slice_index ids n < id) (let at : length ids - 1 ≡ k = omega (arith, here) in at) (above (omega (arith, here)))
above_all ids id rising above (suc back) k here =
    let next = above_all ids id rising above back (k + 1) (omega (arith, here)) in
    let step = rising k (omega (arith, here)) in
    omega (arith, next, step)

-- so it isn't among them, and they rise with it
pub none-above : (ids : List ℕ) (id : ℕ) → IsStrictlyIncreasing ids → (0 < length ids → slice_index ids (length ids - 1) < id) → list_any (nat_eq id) ids ≡ false
none-above ids id rising above = go ids (λ k within. above_all ids id rising above (length ids - suc k) k (omega (arith, within)))
  where
    go : (xs : List ℕ) → ((k : ℕ) → k < length xs → slice_index xs k < id) → list_any (nat_eq id) xs ≡ false
    go [] all = refl
    go (x ∷ xs) all =
        let below : x < id = all 0 (omega arith) in
        or_from (nat_eq id x) (list_any (nat_eq id) xs) (ne_eqb id x (λ e. omega (arith, below, e))) (go xs (λ k within. all (suc k) (omega (arith, within))))

pub rising-push : (ids : List ℕ) (id : ℕ) → IsStrictlyIncreasing ids → (0 < length ids → slice_index ids (length ids - 1) < id) → IsStrictlyIncreasing (ids ++ id ∷ [])
rising-push ids id rising above k within =
    elim (cases_lt (k + 1) (length ids)) [
      | inl more ↦
          subst (λ n. n < slice_index (ids ++ id ∷ []) (k + 1)) (sym (get_or_append_left ids (id ∷ []) 0 k (omega (arith, more))))
          (subst (λ n. slice_index ids k < n) (sym (get_or_append_left ids (id ∷ []) 0 (k + 1) more)) (rising k more))
      | inr last ↦
          let end : length ids ≡ k + 1 = omega (arith, within, length_push ids id, last) in
          subst (λ n. n < slice_index (ids ++ id ∷ []) (k + 1)) (sym (get_or_append_left ids (id ∷ []) 0 k (omega (arith, end))))
          (subst (λ n. slice_index ids k < n) (sym (get_or-append_right ids (id ∷ []) (k + 1) (k + 1) 0 end (omega arith) ∙ ap (λ n. get_or (id ∷ []) n 0) (let z : k + 1 - (k + 1) ≡ 0 = omega arith in z)))
          (subst (λ n. slice_index ids n < id) (let z : length ids - 1 ≡ k = omega (arith, end) in z) (above (omega (arith, end)))))
    ]

-- rising identifiers don't fall
pub rising_order : (ids : List ℕ) → IsStrictlyIncreasing ids → (i j : ℕ) → i ≤ j → j < length ids → get_or ids i 0 ≤ get_or ids j 0
rising_order ids rising i j le within = subst (λ n. get_or ids i 0 ≤ get_or ids n 0) (let at : i + (j - i) ≡ j = omega (arith, le) in at) (go (j - i) (omega (arith, le, within)))
  where
    go : (gap : ℕ) → i + gap < length ids → get_or ids i 0 ≤ get_or ids (i + gap) 0
    go zero here = subst (λ n. get_or ids i 0 ≤ get_or ids n 0) (let at : i ≡ i + 0 = omega arith in at) (omega arith)
    go (suc gap) here =
        let before : get_or ids i 0 ≤ get_or ids (i + gap) 0 = go gap (omega (arith, here)) in
        let step : get_or ids (i + gap) 0 < get_or ids (i + gap + 1) 0 = rising (i + gap) (omega (arith, here)) in
        subst (λ n. get_or ids i 0 ≤ get_or ids n 0) (let at : i + gap + 1 ≡ i + suc gap = omega arith in at) (omega (arith, before, step))

module _ (ids : List ℕ) (fr : List Pair) (es : List ListedLeak) (id : ℕ) where
  -- Of an identifier that stands among the first.

  pub lists-at : (i : ℕ) → length fr ≡ length ids → slice_get ids i ≡ Some id → lists id (pairs_beside ids fr ++ es) ≡ true
  lists-at i long at = lists-append id (pairs_beside ids fr) es ∙ ap (λ b. b || lists id es) (lists-beside id ids fr long ∙ stands_there ids i id at)

  pub sent-at : (i : ℕ) (old new : Pair) (there : Origin) (revoked : Bool) → IsStrictlyIncreasing ids → length fr ≡ length ids → slice_get ids i ≡ Some id → slice_get fr i ≡ Some old
      → IsSent old new there revoked → lists id es ≡ false → pairs_beside ids (slice_set fr i new) ++ es ≡ sent_among id there revoked (pairs_beside ids fr ++ es)
  sent-at i old new there revoked rising long at was sent none =
      (λ j. sent-beside ids fr i id old new there revoked (rising-differ ids rising) long at was sent j ++ sym (sent-absent id there revoked es none) j)
      ∙ sym (sent-append id there revoked (pairs_beside ids fr) es)

  -- Of one that doesn't.

  module _ (long : length fr ≡ length ids) (none : list_any (nat_eq id) ids ≡ false) where
    unlisted : lists id (pairs_beside ids fr) ≡ false
    unlisted = lists-beside id ids fr long ∙ none

    pub lists-behind : lists id (pairs_beside ids fr ++ es) ≡ lists id es
    unfolding unlisted
    lists-behind = lists-append id (pairs_beside ids fr) es ∙ ap (λ b. b || lists id es) unlisted

    pub number-behind : number_among id (pairs_beside ids fr ++ es) ≡ number_among id es
    number-behind = number-append id (pairs_beside ids fr) es unlisted

    pub sent-behind : (there : Origin) (revoked : Bool) → pairs_beside ids fr ++ sent_among id there revoked es ≡ sent_among id there revoked (pairs_beside ids fr ++ es)
    sent-behind there revoked =
        ap (λ ps. ps ++ sent_among id there revoked es) (sym (sent-absent id there revoked (pairs_beside ids fr) unlisted)) ∙ sym (sent-append id there revoked (pairs_beside ids fr) es)

    pub listed-behind : (there : Origin) → pairs_beside ids fr ++ listed_with id there es ≡ listed_with id there (pairs_beside ids fr ++ es)
    listed-behind there = by (lists id es) ∙ ap (λ (b : Bool). if b then sent_among id there false (pairs_beside ids fr ++ es) else (pairs_beside ids fr ++ es) ++ new_pair id there ∷ []) (sym lists-behind)
      where
        by : (b : Bool) → pairs_beside ids fr ++ (if b then sent_among id there false es else es ++ new_pair id there ∷ [])
            ≡ (if b then sent_among id there false (pairs_beside ids fr ++ es) else (pairs_beside ids fr ++ es) ++ new_pair id there ∷ [])
        by true = sent-behind there false
        by false = sym (append_assoc (pairs_beside ids fr) es (new_pair id there ∷ []))

-- what stands behind a list stands there in two of them
pub get-behind : {A : Type 0} (xs ys : List A) (i : ℕ) → slice_get (xs ++ ys) (length xs + i) ≡ slice_get ys i
get-behind [] ys i = ap (slice_get ys) (let e : 0 + i ≡ i = omega arith in e)
get-behind (x ∷ xs) ys i = ap (slice_get (x ∷ xs ++ ys)) (let e : suc (length xs) + i ≡ suc (length xs + i) = omega arith in e) ∙ get-behind xs ys i
