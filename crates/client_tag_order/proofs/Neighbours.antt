-- Equal tags are neighbours once sorted; the least second of two that are is that of the first clash.
use Rattle.std.proofs.Common.{◌≡◌, ◌≢◌, ℕ, zero, suc, ◌+◌, ◌-◌, ◌<◌, ◌≤◌, Bool, true, false, ◌&&◌, List, [], ◌∷◌, length, take, drop, get_or, Option, None, Some, position, refl, sym, ap, subst, ◌∙◌, arith, zero-add, inl, inr, length-take}
use Rattle.std.specs.Prelude.{bytes_eq, nat_lt, ◌||◌}
use Rattle.std.specs.List.{IsDistinct}
use Rattle.std.proofs.lemmas.Bool.{cond_both, cases_lt, ltb-true}
use Rattle.std.proofs.lemmas.List.{get_or-take, take-append-drop}
use Rattle.std.proofs.lemmas.Slice.Eq.{bytes_eq-Decides}
use Rattle.client_registry.specs.FirstClash.{first_clash}
use Rattle.client_registry.proofs.FirstClashLaws.{first_clash-append}
use Rattle.client_registry.proofs.DistinctLaws.{AreEqualPlaces, IsDistinct-first_clash, first_clash-places, position-at}
use Rattle.sse_frames.specs.Order.{is_below, insert_by, by_bytes}
use Rattle.sse_frames.proofs.Sorted.{Ascends, Ascends-by_bytes, key_below, key_order, length-by_bytes}
use Rattle.client_tag_order.specs.Tagged.{tagged_from}
use Rattle.client_tag_order.specs.declared.tagged.Tagged.{Tagged}
use Rattle.client_tag_order.proofs.InOrder.{key, pos, make, tied_equal, before, InOrder, InOrder-by_bytes, PositionsRise-tagged_from, all_at, sorted_tagged, IsPlaced, sorted-IsPlaced, length-tagged_from, get_or-tagged_from}

-- ---- the first clash has the least second place

distinct_places : (xs : List (List ℕ)) (i j : ℕ) → IsDistinct bytes_eq xs → AreEqualPlaces xs i j → ⊥
distinct_places xs i j apart equal =
    let first : position (bytes_eq (get_or xs i [])) xs ≡ Some i = position-at xs apart i (omega (arith, equal.order, equal.within)) in
    let second : position (bytes_eq (get_or xs j [])) xs ≡ Some j = position-at xs apart j equal.within in
    let both : Some i ≡ Some j = sym first ∙ ap (λ x. position (bytes_eq x) xs) equal.same ∙ second in
    let same : i ≡ j = cc in
    omega (arith, same, equal.order)

some_clash : (xs : List (List ℕ)) (i j : ℕ) → AreEqualPlaces xs i j → (o : Option (ℕ × ℕ)) → first_clash xs ≡ o → (c : ℕ × ℕ) × (first_clash xs ≡ Some c)
some_clash xs i j equal None is = absurd (distinct_places xs i j (IsDistinct-first_clash xs is) equal)
some_clash xs i j equal (Some c) is = (c, is)

-- where two places are equal there is a clash, whose second place isn't after theirs
pub first_clash-least : (xs : List (List ℕ)) (i j : ℕ) → AreEqualPlaces xs i j → (c : ℕ × ℕ) × (first_clash xs ≡ Some c) × (c.1 ≤ j)
first_clash-least xs i j equal =
    let front : List (List ℕ) = take (j + 1) xs in
    let size : length front ≡ j + 1 = omega (arith, length-take (j + 1) xs, equal.within) in
    let here : AreEqualPlaces front i j = record {
      order = equal.order;
      within = omega (arith, size);
      same = get_or-take (j + 1) xs i [] (omega (arith, equal.order)) ∙ equal.same ∙ sym (get_or-take (j + 1) xs j [] (omega arith));
    } in
    let found = some_clash front i j here (first_clash front) refl in
    let places = first_clash-places front found.0.0 found.0.1 found.1 in (
      found.0,
      ap first_clash (sym (take-append-drop (j + 1) xs)) ∙ first_clash-append front (drop (j + 1) xs) found.0 found.1,
      omega (arith, places.within, size),
    )

-- a clash whose second place is the least of all
pub first_clash-is : (xs : List (List ℕ)) (i j : ℕ) → AreEqualPlaces xs i j → ((a b : ℕ) → AreEqualPlaces xs a b → j ≤ b) → first_clash xs ≡ Some (i, j)
first_clash-is xs i j equal least = by found.0.0 found.0.1 found.1 found.2
  where
    found : (c : ℕ × ℕ) × (first_clash xs ≡ Some c) × (c.1 ≤ j)
    found = first_clash-least xs i j equal

    -- no two of three equal places before the least second one
    by : (a b : ℕ) → first_clash xs ≡ Some (a, b) → b ≤ j → first_clash xs ≡ Some (i, j)
    by a b is within =
        let other = first_clash-places xs a b is in
        let second : b ≡ j = omega (arith, within, least a b other) in
        let value : get_or xs a [] ≡ get_or xs i [] = other.same ∙ ap (λ n. get_or xs n []) second ∙ sym equal.same in
        let first : a ≡ i =
        elim (cases_lt a i) [
          | inl lt ↦ absurd (omega (arith, equal.order, least a i (record { order = lt; within = omega (arith, equal.order, equal.within); same = value })))
          | inr ge ↦ elim (cases_lt i a) [
            | inl lt ↦ absurd (omega (arith, other.order, second, least i a (record { order = lt; within = omega (arith, other.order, other.within); same = sym value })))
            | inr ge' ↦ omega arith
          ]
        ] in
        is ∙ (λ r. Some (first r, second r))

-- ---- neighbours

ascends_at : {X : Type 0} (lt : X → X → Bool) (xs : List X) (i j : ℕ) (d : X) → Ascends lt xs → i < j → j < length xs → lt (get_or xs j d) (get_or xs i d) ≡ false
ascends_at lt [] i j d up order within = absurd (omega arith)
ascends_at lt (x ∷ xs) i zero d up order within = absurd (omega arith)
ascends_at lt (x ∷ xs) zero (suc j) d up order within = all_at (λ y. lt y x ≡ false) xs j d up.0 (omega arith)
ascends_at lt (x ∷ xs) (suc i) (suc j) d up order within = ascends_at lt xs i j d up.1 (omega arith) (omega arith)

module _ {X : Type 0} (key : X → List ℕ) where
  -- an element that one before it equals has an equal neighbour
  pub neighbour_equal : (xs : List X) (l k : ℕ) (d : X) → Ascends (key_below key) xs → l < k → k < length xs
      → key (get_or xs l d) ≡ key (get_or xs k d) → key (get_or xs (k - 1) d) ≡ key (get_or xs k d)
  neighbour_equal xs l k d up order within same =
      elim (cases_lt l (k - 1)) [
        | inl lt ↦
            let lower : is_below (key (get_or xs (k - 1) d)) (key (get_or xs k d)) ≡ false =
            ap (is_below (key (get_or xs (k - 1) d))) (sym same) ∙ ascends_at (key_below key) xs l (k - 1) d up lt (omega arith) in
            let upper : is_below (key (get_or xs k d)) (key (get_or xs (k - 1) d)) ≡ false = ascends_at (key_below key) xs (k - 1) k d up (omega arith) within in
            (bytes_eq-Decides (key (get_or xs (k - 1) d)) (key (get_or xs k d))).0 (tied_equal (key (get_or xs (k - 1) d)) (key (get_or xs k d)) lower upper)
        | inr ge ↦
            let e : l ≡ k - 1 = omega arith in
            ap (λ n. key (get_or xs n d)) (sym e) ∙ same
      ]

  insert_here : (x : X) (ys : List X) (d : X) → (k : ℕ) × (k < length (insert_by key x ys)) × (get_or (insert_by key x ys) k d ≡ x)
  insert_here x [] d = (0, omega arith, refl)
  insert_here x (y ∷ ys) d =
      cond_both (key_below key y x) (y ∷ insert_by key x ys) (x ∷ y ∷ ys) (λ zs. (k : ℕ) × (k < length zs) × (get_or zs k d ≡ x))
      (λ e. let found = insert_here x ys d in (suc found.0, omega (arith, found.1), found.2))
      (λ e. (0, omega arith, refl))

  insert_there : (x : X) (ys : List X) (m : ℕ) (d : X) → m < length ys
      → (k : ℕ) × (k < length (insert_by key x ys)) × (get_or (insert_by key x ys) k d ≡ get_or ys m d)
  insert_there x [] m d within = absurd (omega arith)
  insert_there x (y ∷ ys) m d within =
      cond_both (key_below key y x) (y ∷ insert_by key x ys) (x ∷ y ∷ ys) (λ zs. (k : ℕ) × (k < length zs) × (get_or zs k d ≡ get_or (y ∷ ys) m d))
      (λ e. by m within (λ n inside. insert_there x ys n d inside))
      (λ e. (suc m, omega (arith, within), refl))
    where
      by : (n : ℕ) → n < length (y ∷ ys) → ((i : ℕ) → i < length ys → (k : ℕ) × (k < length (insert_by key x ys)) × (get_or (insert_by key x ys) k d ≡ get_or ys i d))
          → (k : ℕ) × (k < length (y ∷ insert_by key x ys)) × (get_or (y ∷ insert_by key x ys) k d ≡ get_or (y ∷ ys) n d)
      by zero inside more = (0, omega arith, refl)
      by (suc i) inside more = let found = more i (omega arith) in (suc found.0, omega (arith, found.1), found.2)

  -- each element has a place once they are sorted
  pub sorted_place : (xs : List X) (i : ℕ) (d : X) → i < length xs → (k : ℕ) × (k < length (by_bytes key xs)) × (get_or (by_bytes key xs) k d ≡ get_or xs i d)
  sorted_place [] i d within = absurd (omega arith)
  sorted_place (x ∷ xs) zero d within = insert_here x (by_bytes key xs) d
  sorted_place (x ∷ xs) (suc i) d within =
      let before = sorted_place xs i d (omega arith) in
      let found = insert_there x (by_bytes key xs) before.0 d before.1 in
      (found.0, found.1, found.2 ∙ before.2)

in_order_at : {X : Type 0} (key : X → List ℕ) (pos : X → ℕ) (xs : List X) (i j : ℕ) (d : X) → InOrder key pos xs → i < j → j < length xs
    → (before key pos (get_or xs j d) (get_or xs i d) ≡ true) × (before key pos (get_or xs i d) (get_or xs j d) ≡ false)
in_order_at key pos [] i j d order less within = absurd (omega arith)
in_order_at key pos (x ∷ xs) i zero d order less within = absurd (omega arith)
in_order_at key pos (x ∷ xs) zero (suc j) d order less within =
    all_at (λ y. (before key pos y x ≡ true) × (before key pos x y ≡ false)) xs j d order.0 (omega arith)
in_order_at key pos (x ∷ xs) (suc i) (suc j) d order less within = in_order_at key pos xs i j d order.1 (omega arith) (omega arith)

not_below_itself : (x : List ℕ) → is_below x x ≡ false
not_below_itself x = by (is_below x x) ((key_order (λ (y : List ℕ). y)).one_way x x)
  where
    by : (b : Bool) → (b ≡ true → b ≡ false) → b ≡ false
    by true f = f refl
    by false f = refl

second_part : (a b c : Bool) → (a || b && c) ≡ true → a ≡ false → c ≡ true
second_part true b c is f = absurd (cc)
second_part false true c is f = is
second_part false false c is f = absurd (cc)

module _ (tags : List (List ℕ)) (d : Tagged) where
  abbrev all : List Tagged
  all = tagged_from 0 tags

  abbrev order : List Tagged
  order = sorted_tagged tags

  pub length-order : length order ≡ length tags
  length-order = length-by_bytes key all ∙ length-tagged_from 0 tags

  abbrev placed : (k : ℕ) → k < length tags → IsPlaced tags (get_or order k d)
  placed k within = all_at (IsPlaced tags) order k d (sorted-IsPlaced tags) (omega (arith, length-order, within))

  key_at : (k : ℕ) (within : k < length tags) → key (get_or order k d) ≡ get_or tags (pos (get_or order k d)) []
  key_at k within = ap key (placed k within).1

  up : (a b : ℕ) → a < b → b < length tags → (before key pos (get_or order b d) (get_or order a d) ≡ true) × (before key pos (get_or order a d) (get_or order b d) ≡ false)
  up a b less within =
      in_order_at key pos order a b d (InOrder-by_bytes key pos all (PositionsRise-tagged_from 0 tags)) less (omega (arith, length-order, within))

  -- of two neighbours with equal keys the first has the lesser position
  pub neighbours_rise : (k : ℕ) → 0 < k → k < length tags → key (get_or order (k - 1) d) ≡ key (get_or order k d) → pos (get_or order (k - 1) d) < pos (get_or order k d)
  neighbours_rise k some within same =
      let x = get_or order (k - 1) d in
      let y = get_or order k d in
      ltb-true (pos x) (pos y) (second_part (is_below (key x) (key y)) (bytes_eq (key x) (key y)) (nat_lt (pos x) (pos y)) (up (k - 1) k (omega arith) within).0
      (ap (λ u. is_below u (key y)) same ∙ not_below_itself (key y)))

  -- where two places are equal, the second one's tag has an equal neighbour
  has_neighbour : (i j : ℕ) → AreEqualPlaces tags i j → (k : ℕ) × (0 < k) × (k < length tags) × (pos (get_or order k d) ≡ j) × (key (get_or order (k - 1) d) ≡ key (get_or order k d))
  has_neighbour i j equal =
      let n = length-tagged_from 0 tags in
      let first = sorted_place key all i d (omega (arith, n, equal.order, equal.within)) in
      let second = sorted_place key all j d (omega (arith, n, equal.within)) in
      let a = first.0 in
      let b = second.0 in
      let one : get_or order a d ≡ make (get_or tags i []) i =
      first.2 ∙ get_or-tagged_from 0 tags i d (omega (arith, equal.order, equal.within)) ∙ ap (make (get_or tags i [])) (zero-add i) in
      let two : get_or order b d ≡ make (get_or tags j []) j =
      second.2 ∙ get_or-tagged_from 0 tags j d equal.within ∙ ap (make (get_or tags j [])) (zero-add j) in
      let at_one : pos (get_or order a d) ≡ i = ap pos one in
      let at_two : pos (get_or order b d) ≡ j = ap pos two in
      let same : key (get_or order a d) ≡ key (get_or order b d) =
      ap key one ∙ equal.same ∙ sym (ap key two) in
      let less : a < b =
      elim (cases_lt a b) [
        | inl lt ↦ lt
        | inr ge ↦ elim (cases_lt b a) [
          | inl lt ↦
              let wrong : pos (get_or order b d) < pos (get_or order a d) =
              ltb-true (pos (get_or order b d)) (pos (get_or order a d)) (second_part (is_below (key (get_or order b d)) (key (get_or order a d))) (bytes_eq (key (get_or order b d)) (key (get_or order a d))) (nat_lt (pos (get_or order b d)) (pos (get_or order a d)))
              (up b a lt (omega (arith, length-order, first.1))).0
              (ap (λ u. is_below u (key (get_or order a d))) (sym same) ∙ not_below_itself (key (get_or order a d)))) in
              absurd (omega (arith, at_one, at_two, equal.order, wrong))
          | inr ge' ↦
              let e : a ≡ b = omega arith in
              let wrong : i ≡ j = sym at_one ∙ ap (λ k. pos (get_or order k d)) e ∙ at_two in
              absurd (omega (arith, wrong, equal.order))
        ]
      ] in
      (b, omega (arith, less), omega (arith, length-order, second.1), at_two, neighbour_equal key order a b d (Ascends-by_bytes key all) less second.1 same)

  -- no equal neighbours, no clash
  pub no_clash : ((k : ℕ) → 0 < k → k < length tags → key (get_or order (k - 1) d) ≢ key (get_or order k d)) → first_clash tags ≡ None
  no_clash apart = by (first_clash tags) refl
    where
      by : (o : Option (ℕ × ℕ)) → first_clash tags ≡ o → first_clash tags ≡ None
      by None is = is
      by (Some c) is = let found = has_neighbour c.0 c.1 (first_clash-places tags c.0 c.1 is) in absurd (apart found.0 found.1 found.2 found.4)

  -- equal neighbours, of which the second has the least position, are the first clash
  pub clash_is : (k : ℕ) → 0 < k → k < length tags → key (get_or order (k - 1) d) ≡ key (get_or order k d)
      → ((m : ℕ) → 0 < m → m < length tags → key (get_or order (m - 1) d) ≡ key (get_or order m d) → pos (get_or order k d) ≤ pos (get_or order m d))
      → first_clash tags ≡ Some (pos (get_or order (k - 1) d), pos (get_or order k d))
  clash_is k some within same least =
      first_clash-is tags (pos (get_or order (k - 1) d)) (pos (get_or order k d))
      (record {
        order = neighbours_rise k some within same;
        within = (placed k within).0;
        same = sym (key_at (k - 1) (omega arith)) ∙ same ∙ key_at k within;
      })
      (λ a b equal. let found = has_neighbour a b equal in subst (λ n. pos (get_or order k d) ≤ n) found.3 (least found.0 found.1 found.2 found.4))
