-- Rising numbers: which there are decides the list. A sort and then a removal of repeats make them.
use Rattle.std.proofs.Common.{◌≡◌, ℕ, zero, suc, ◌<◌, ◌≤◌, Bool, true, false, cond, ◌||◌, ◌&&◌, inl, inr, List, [], ◌∷◌, ◌++◌, length, get_or, filter, refl, sym, ap, ◌∙◌, subst, arith, eqb-true, nat_le, nat_eq}
use Rattle.std.specs.Prelude.{if◌then◌else◌}
use Rattle.std.specs.List.{AllByRecursion, concat, dedup, dedup_from}
use Rattle.std.specs.List.Sorted.{IsNonDecreasing}
use Rattle.std.proofs.lemmas.Bool.{true≢false, eq-eqb, eqb-false, ne_eqb, leb-true, leb-false, or_cases}
use Rattle.std.proofs.lemmas.Cmp.{nat_eq_equiv}
use Rattle.std.proofs.lemmas.List.Folds.{list_any-append}
use Rattle.client_registry.proofs.LiveLaws.{among}
use Rattle.client_registry.proofs.OrderLaws.{among-filter, among-in_order}
use Rattle.client_registry.specs.Live.{in_order, insert_in_order}
use Rattle.bool_search.specs.Chosen.{chosen, has_in, holds}
use Rattle.bool_search.specs.Grammar.{Tree, Word, Within, And, Not, Or, tree_by}
use Rattle.bool_search.specs.Joined.{Above, Chooses, IsRising, has, takes}
use Rattle.bool_search.specs.declared.join.Join.{Join}
use Rattle.bool_search.specs.declared.join.Join.TheVariants as joins

or_true : (x y : Bool) → x ≡ true → (x || y) ≡ true
or_true x y e = ap (λ b. b || y) e

or_later : (x y : Bool) → y ≡ true → (x || y) ≡ true
or_later true y e = refl
or_later false y e = e

or_none : (x y : Bool) → x ≡ false → y ≡ false → (x || y) ≡ false
or_none x y e f = ap (λ b. b || y) e ∙ f

or_again : (x y : Bool) → (x || y) ≡ (x || (x || y))
or_again true y = refl
or_again false y = refl

and_left : (x y : Bool) → (x && y) ≡ true → x ≡ true
and_left true y e = refl
and_left false y e = e

and_implied : (x y : Bool) → (x ≡ true → y ≡ true) → (x && y) ≡ x
and_implied true y so = so refl
and_implied false y so = refl

-- All of a list.

pub all_map : (P Q : ℕ → Type 0) → ((n : ℕ) → P n → Q n) → (ns : List ℕ) → AllByRecursion P ns → AllByRecursion Q ns
all_map P Q f [] all = tt
all_map P Q f (n ∷ ns) all = (f n all.0, all_map P Q f ns all.1)

pub all_push : (P : ℕ → Type 0) (ns : List ℕ) (m : ℕ) → AllByRecursion P ns → P m → AllByRecursion P (ns ++ m ∷ [])
all_push P [] m all p = (p, tt)
all_push P (n ∷ ns) m all p = (all.0, all_push P ns m all.1 p)

all_from : (P : ℕ → Type 0) (ns : List ℕ) → ((k : ℕ) → k < length ns → P (get_or ns k 0)) → AllByRecursion P ns
all_from P [] at = tt
all_from P (n ∷ ns) at = (at 0 (omega arith), all_from P ns (λ k lt. at (suc k) (omega (arith, lt))))

all_filter : (P : ℕ → Type 0) (p : ℕ → Bool) (ns : List ℕ) → AllByRecursion P ns → AllByRecursion P (filter p ns)
all_filter P p [] all = tt
all_filter P p (n ∷ ns) all = by (p n) (all_filter P p ns all.1)
  where
    by : (b : Bool) → AllByRecursion P (filter p ns) → AllByRecursion P (cond b (n ∷ filter p ns) (filter p ns))
    by true h = (all.0, h)
    by false h = h

all_insert : (P : ℕ → Type 0) (m : ℕ) (ns : List ℕ) → P m → AllByRecursion P ns → AllByRecursion P (insert_in_order m ns)
all_insert P m [] p all = (p, tt)
all_insert P m (n ∷ ns) p all = by (nat_le m n) (all_insert P m ns p all.1)
  where
    by : (b : Bool) → AllByRecursion P (insert_in_order m ns) → AllByRecursion P (if b then m ∷ n ∷ ns else n ∷ insert_in_order m ns)
    by true h = (p, all)
    by false h = (all.0, h)

-- Rising.

pub head_has : (n : ℕ) (ns : List ℕ) → has n (n ∷ ns) ≡ true
head_has n ns = or_true (nat_eq n n) (has n ns) (eq-eqb n n refl)

pub above_none : (n : ℕ) (ns : List ℕ) → Above n ns → has n ns ≡ false
above_none n [] above = refl
above_none n (m ∷ ms) above = or_none (nat_eq n m) (has n ms) (ne_eqb n m (λ e. absurd (omega (arith, above.0, e)))) (above_none n ms above.1)

above_has : (n m : ℕ) (ns : List ℕ) → Above n ns → has m ns ≡ true → n < m
above_has n m [] above h = absurd (true≢false (sym h))
above_has n m (k ∷ ks) above h = elim (or_cases (nat_eq m k) (has m ks) h) [
  | inl e ↦ subst (λ j. n < j) (sym (eqb-true m k e)) above.0
  | inr later ↦ above_has n m ks above.1 later
]

pub above_more : (n m : ℕ) (ns : List ℕ) → n < m → Above m ns → Above n ns
above_more n m ns less above = all_map (λ k. m < k) (λ k. n < k) (λ k lt. omega (arith, less, lt)) ns above

pub rising_push : (ns : List ℕ) (m : ℕ) → IsRising ns → AllByRecursion (λ n. n < m) ns → IsRising (ns ++ m ∷ [])
rising_push [] m rising below = (tt, tt)
rising_push (n ∷ ns) m rising below = (all_push (λ k. n < k) ns m rising.0 below.0, rising_push ns m rising.1 below.1)

rising_filter : (p : ℕ → Bool) (ns : List ℕ) → IsRising ns → IsRising (filter p ns)
rising_filter p [] rising = tt
rising_filter p (n ∷ ns) rising = by (p n) (rising_filter p ns rising.1)
  where
    by : (b : Bool) → IsRising (filter p ns) → IsRising (cond b (n ∷ filter p ns) (filter p ns))
    by true h = (all_filter (λ k. n < k) p ns rising.0, h)
    by false h = h

rising_same : (ns ms : List ℕ) → IsRising ns → IsRising ms → ((q : ℕ) → has q ns ≡ has q ms) → ns ≡ ms
rising_same [] [] a b same = refl
rising_same [] (m ∷ ms) a b same = absurd (true≢false (sym (head_has m ms) ∙ sym (same m)))
rising_same (n ∷ ns) [] a b same = absurd (true≢false (sym (head_has n ns) ∙ same n))
rising_same (n ∷ ns) (m ∷ ms) a b same = λ i. heads i ∷ rising_same ns ms a.1 b.1 tails i
  where
    heads : n ≡ m
    heads = elim (or_cases (nat_eq n m) (has n ms) (sym (same n) ∙ head_has n ns)) [
      | inl e ↦ eqb-true n m e
      | inr later ↦ (elim (or_cases (nat_eq m n) (has m ns) (same m ∙ head_has m ms)) [
        | inl e ↦ sym (eqb-true m n e)
        | inr also ↦ (let up : m < n = above_has m n ms b.0 later in let down : n < m = above_has n m ns a.0 also in absurd (omega (arith, up, down)))
      ])
    ]

    tails : (q : ℕ) → has q ns ≡ has q ms
    tails q = by (nat_eq q n) refl
      where
        by : (e : Bool) → nat_eq q n ≡ e → has q ns ≡ has q ms
        by true e =
            let first : q ≡ n = eqb-true q n e in
            above_none q ns (subst (λ k. Above k ns) (sym first) a.0) ∙ sym (above_none q ms (subst (λ k. Above k ms) (sym (first ∙ heads)) b.0))
        by false e = sym (ap (λ t. t || has q ns) e) ∙ same q ∙ ap (λ t. t || has q ms) (ap (nat_eq q) (sym heads) ∙ e)

among_has : (q : ℕ) (ns : List ℕ) → among q ns ≡ has q ns
among_has q [] = refl
among_has q (n ∷ ns) = ap (λ t. t || among q ns) (nat_eq_equiv.symm n q) ∙ ap (λ t. nat_eq q n || t) (among_has q ns)

has_filter : (p : ℕ → Bool) (q : ℕ) (ns : List ℕ) → has q (filter p ns) ≡ (p q && has q ns)
has_filter p q ns = sym (among_has q (filter p ns)) ∙ among-filter p q ns ∙ ap (λ t. p q && t) (among_has q ns)

-- Not falling.

abbrev IsClimbing : List ℕ → Type 0
IsClimbing [] = Unit {0}
IsClimbing (n ∷ ns) = AllByRecursion (λ m. n ≤ m) ns × IsClimbing ns

climbing_from : (ns : List ℕ) → IsNonDecreasing ns → IsClimbing ns
climbing_from [] up = tt
climbing_from (n ∷ ns) up = (all_from (λ m. n ≤ m) ns (λ k lt. up 0 (suc k) 0 (omega arith) (omega (arith, lt))), climbing_from ns (λ i j d le lt. up (suc i) (suc j) d (omega (arith, le)) (omega (arith, lt))))

climbing_insert : (m : ℕ) (ns : List ℕ) → IsClimbing ns → IsClimbing (insert_in_order m ns)
climbing_insert m [] climbing = (tt, tt)
climbing_insert m (n ∷ ns) climbing = by (nat_le m n) refl (climbing_insert m ns climbing.1)
  where
    by : (b : Bool) → nat_le m n ≡ b → IsClimbing (insert_in_order m ns) → IsClimbing (if b then m ∷ n ∷ ns else n ∷ insert_in_order m ns)
    by true e h = let le : m ≤ n = leb-true m n e in ((le, all_map (λ k. n ≤ k) (λ k. m ≤ k) (λ k more. omega (arith, le, more)) ns climbing.0), climbing)
    by false e h = let lt : n < m = leb-false m n e in (all_insert (λ k. n ≤ k) m ns (omega (arith, lt)) climbing.0, h)

climbing_in_order : (ns : List ℕ) → IsClimbing (in_order ns)
climbing_in_order [] = tt
climbing_in_order (n ∷ ns) = climbing_insert n (in_order ns) (climbing_in_order ns)

-- Without repeats.

above_from : (j k : ℕ) (ns : List ℕ) → j < k → AllByRecursion (λ m. k ≤ m) ns → IsClimbing ns → Above j (dedup_from nat_eq k ns)
above_from j k [] less all climbing = (less, tt)
above_from j k (n ∷ ns) less all climbing = by (nat_eq n k) (above_from j k ns less all.1 climbing.1) (above_from j n ns (omega (arith, less, all.0)) climbing.0 climbing.1)
  where
    by : (b : Bool) → Above j (dedup_from nat_eq k ns) → Above j (dedup_from nat_eq n ns) → Above j (cond b (dedup_from nat_eq k ns) (k ∷ dedup_from nat_eq n ns))
    by true same other = same
    by false same other = (less, other)

rising_from : (k : ℕ) (ns : List ℕ) → AllByRecursion (λ m. k ≤ m) ns → IsClimbing ns → IsRising (dedup_from nat_eq k ns)
rising_from k [] all climbing = (tt, tt)
rising_from k (n ∷ ns) all climbing = by (nat_eq n k) refl (rising_from k ns all.1 climbing.1) (rising_from n ns climbing.0 climbing.1)
  where
    by : (b : Bool) → nat_eq n k ≡ b → IsRising (dedup_from nat_eq k ns) → IsRising (dedup_from nat_eq n ns) → IsRising (cond b (dedup_from nat_eq k ns) (k ∷ dedup_from nat_eq n ns))
    by true e same other = same
    by false e same other = (above_from k n ns (grind (arith, all.0, eqb-false n k e)) climbing.0 climbing.1, other)

has_from : (q k : ℕ) (ns : List ℕ) → has q (dedup_from nat_eq k ns) ≡ (nat_eq q k || has q ns)
has_from q k [] = refl
has_from q k (n ∷ ns) = by (nat_eq n k) refl (has_from q k ns) (has_from q n ns)
  where
    by : (b : Bool) → nat_eq n k ≡ b → has q (dedup_from nat_eq k ns) ≡ (nat_eq q k || has q ns) → has q (dedup_from nat_eq n ns) ≡ (nat_eq q n || has q ns)
        → has q (cond b (dedup_from nat_eq k ns) (k ∷ dedup_from nat_eq n ns)) ≡ (nat_eq q k || (nat_eq q n || has q ns))
    by true e same other = same ∙ or_again (nat_eq q k) (has q ns) ∙ ap (λ m. nat_eq q k || (nat_eq q m || has q ns)) (sym (eqb-true n k e))
    by false e same other = ap (λ t. nat_eq q k || t) other

rising_dedup : (ns : List ℕ) → IsClimbing ns → IsRising (dedup nat_eq ns)
rising_dedup [] climbing = tt
rising_dedup (n ∷ ns) climbing = rising_from n ns climbing.0 climbing.1

pub rising_once : (ns : List ℕ) → IsNonDecreasing ns → IsRising (dedup nat_eq ns)
rising_once ns up = rising_dedup ns (climbing_from ns up)

pub has_once : (q : ℕ) (ns : List ℕ) → has q (dedup nat_eq ns) ≡ has q ns
has_once q [] = refl
has_once q (n ∷ ns) = has_from q n ns

-- The numbers that a query chooses.

takes_holds : (join : Join) (left right : Tree) (has_word : ℕ → Bool) → takes join (holds left has_word) (holds right has_word) ≡ holds (tree_by join left right) has_word
takes_holds joins.And left right has_word = refl
takes_holds joins.Not left right has_word = refl
takes_holds joins.Or left right has_word = refl

pub word_chooses : (lists : List (List ℕ)) (number : ℕ) (list ids : List ℕ) → IsRising ids → ((n : ℕ) → has n ids ≡ has n list) → list ≡ get_or lists number [] → Chooses (Word number) lists ids
word_chooses lists number list ids rising members is = (rising, λ n. members n ∙ ap (has n) is)

pub chooses_by : (join : Join) (left right : Tree) (lists : List (List ℕ)) (ns ms ids : List ℕ) → Chooses left lists ns → Chooses right lists ms → IsRising ids → ((n : ℕ) → has n ids ≡ takes join (has n ns) (has n ms)) → Chooses (tree_by join left right) lists ids
chooses_by join left right lists ns ms ids a b rising members =
    (rising, λ n. members n ∙ ap (λ t. takes join t (has n ms)) (a.1 n) ∙ ap (λ t. takes join (holds left (has_in lists n)) t) (b.1 n) ∙ takes_holds join left right (has_in lists n))

listed : (lists : List (List ℕ)) (number q : ℕ) → has q (get_or lists number []) ≡ true → has q (concat lists) ≡ true
listed [] zero q h = absurd (true≢false (sym h))
listed [] (suc number) q h = absurd (true≢false (sym h))
listed (l ∷ lists) zero q h = list_any-append (nat_eq q) l (concat lists) ∙ or_true (has q l) (has q (concat lists)) h
listed (l ∷ lists) (suc number) q h = list_any-append (nat_eq q) l (concat lists) ∙ or_later (has q l) (has q (concat lists)) (listed lists number q h)

holds_listed : (t : Tree) (lists : List (List ℕ)) (q : ℕ) → holds t (has_in lists q) ≡ true → has q (concat lists) ≡ true
holds_listed (Word number) lists q h = listed lists number q h
holds_listed (Within t) lists q h = holds_listed t lists q h
holds_listed (And left right) lists q h = holds_listed left lists q (and_left (holds left (has_in lists q)) _ h)
holds_listed (Not left right) lists q h = holds_listed left lists q (and_left (holds left (has_in lists q)) _ h)
holds_listed (Or left right) lists q h = elim (or_cases (holds left (has_in lists q)) (holds right (has_in lists q)) h) [
  | inl e ↦ holds_listed left lists q e
  | inr e ↦ holds_listed right lists q e
]

pub chosen_is : (t : Tree) (lists : List (List ℕ)) (ids : List ℕ) → Chooses t lists ids → ids ≡ chosen t lists
chosen_is t lists ids chooses =
    let all = in_order (concat lists) in
    rising_same ids (chosen t lists) chooses.0 (rising_filter (λ q. holds t (has_in lists q)) (dedup nat_eq all) (rising_dedup all (climbing_in_order (concat lists))))
    (λ q. let h = holds t (has_in lists q) in
    let all_has : has q (dedup nat_eq all) ≡ has q (concat lists) = has_once q all ∙ sym (among_has q all) ∙ among-in_order q (concat lists) ∙ among_has q (concat lists) in
    chooses.1 q ∙ sym (has_filter (λ n. holds t (has_in lists n)) q (dedup nat_eq all) ∙ and_implied h (has q (dedup nat_eq all)) (λ e. all_has ∙ holds_listed t lists q e)))
