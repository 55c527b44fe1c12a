-- Items with different keys are sorted the same, in whatever order they come.
use Rattle.std.proofs.Common.{◌≡◌, ◌≢◌, ℕ, ◌+◌, Bool, true, false, List, [], ◌∷◌, ◌++◌, length, filter, refl, sym, ap, ◌∙◌, arith, append_assoc}
use Rattle.std.specs.Prelude.{flat_map, if◌then◌else◌}
use Rattle.std.specs.List.{AllByRecursion}
use Rattle.std.specs.Cmp.Lexicographic.{slice_cmp, nat_list_cmp_total}
use Rattle.std.specs.FinMap.{nat_cmp-IsAntisymmetric, slice_cmp-IsAntisymmetric}
use Rattle.std.specs.Ordering.{nat_cmp, is_lt, ordering_reverse}
use Rattle.std.specs.declared.cmp.Ordering.{Ordering}
use Rattle.std.specs.declared.cmp.Ordering.TheVariants.{Less, Equal, Greater}
use Rattle.std.proofs.lemmas.Bool.{true≢false}
use Rattle.std.proofs.lemmas.List.{append-nil, length-append}
use Rattle.std.proofs.lemmas.List.Elements.{filter-append}
use Rattle.sse_frames.proofs.Sorted.{key_below, key_order}
use Rattle.sse_frames.specs.Order.{is_below, insert_by, by_bytes}
use Rattle.def_relabelling.proofs.InAnyOrder.{AreSame, gathered, gathered_same}

not_less : (r s : Ordering) → r ≡ ordering_reverse s → is_lt r ≡ false → is_lt s ≡ false → r ≡ Equal
not_less Less s e f g = absurd cc
not_less Equal s e f g = refl
not_less Greater Less e f g = absurd cc
not_less Greater Equal e f g = absurd cc
not_less Greater Greater e f g = absurd cc

tied_same : (x y : List ℕ) → is_below x y ≡ false → is_below y x ≡ false → x ≡ y
tied_same x y f g = slice_cmp-IsAntisymmetric nat_cmp-IsAntisymmetric x y (not_less (slice_cmp nat_cmp x y) (slice_cmp nat_cmp y x) (nat_list_cmp_total.antisymm x y) f g)

module _ {X : Type 0} (key : X → List ℕ) where
  -- of two, the one below the other is put in last or first
  in_turn : (x y : X) → key_below key x y ≡ true → key_below key y x ≡ false → (zs : List X) → insert_by key x (insert_by key y zs) ≡ insert_by key y (insert_by key x zs)
  in_turn x y up down [] = ap (λ b. if b then y ∷ x ∷ [] else x ∷ y ∷ []) down ∙ sym (ap (λ b. if b then x ∷ y ∷ [] else y ∷ x ∷ []) up)
  in_turn x y up down (z ∷ zs) = by (key_below key z x) (key_below key z y) refl refl (in_turn x y up down zs)
    where
      by : (zx zy : Bool) → key_below key z x ≡ zx → key_below key z y ≡ zy → insert_by key x (insert_by key y zs) ≡ insert_by key y (insert_by key x zs)
          → insert_by key x (insert_by key y (z ∷ zs)) ≡ insert_by key y (insert_by key x (z ∷ zs))
      by true true e f rest =
          ap (λ b. insert_by key x (if b then z ∷ insert_by key y zs else y ∷ z ∷ zs)) f
          ∙ ap (λ b. if b then z ∷ insert_by key x (insert_by key y zs) else x ∷ z ∷ insert_by key y zs) e
          ∙ ap (λ more. z ∷ more) rest
          ∙ sym (ap (λ b. insert_by key y (if b then z ∷ insert_by key x zs else x ∷ z ∷ zs)) e
          ∙ ap (λ b. if b then z ∷ insert_by key y (insert_by key x zs) else y ∷ z ∷ insert_by key x zs) f)
      by true false e f rest = absurd (true≢false (sym e ∙ (key_order key).chain z y x f down))
      by false true e f rest =
          ap (λ b. insert_by key x (if b then z ∷ insert_by key y zs else y ∷ z ∷ zs)) f
          ∙ ap (λ b. if b then z ∷ insert_by key x (insert_by key y zs) else x ∷ z ∷ insert_by key y zs) e
          ∙ sym (ap (λ b. insert_by key y (if b then z ∷ insert_by key x zs else x ∷ z ∷ zs)) e
          ∙ ap (λ b. if b then x ∷ insert_by key y (z ∷ zs) else y ∷ x ∷ z ∷ zs) up
          ∙ ap (λ b. x ∷ (if b then z ∷ insert_by key y zs else y ∷ z ∷ zs)) f)
      by false false e f rest =
          ap (λ b. insert_by key x (if b then z ∷ insert_by key y zs else y ∷ z ∷ zs)) f
          ∙ ap (λ b. if b then y ∷ insert_by key x (z ∷ zs) else x ∷ y ∷ z ∷ zs) down
          ∙ sym (ap (λ b. insert_by key y (if b then z ∷ insert_by key x zs else x ∷ z ∷ zs)) e
          ∙ ap (λ b. if b then x ∷ insert_by key y (z ∷ zs) else y ∷ x ∷ z ∷ zs) up
          ∙ ap (λ b. x ∷ (if b then z ∷ insert_by key y zs else y ∷ z ∷ zs)) f)

  insert_commutes : (x y : X) → key x ≢ key y → (zs : List X) → insert_by key x (insert_by key y zs) ≡ insert_by key y (insert_by key x zs)
  insert_commutes x y differ zs = by (key_below key x y) (key_below key y x) refl refl
    where
      by : (b c : Bool) → key_below key x y ≡ b → key_below key y x ≡ c → insert_by key x (insert_by key y zs) ≡ insert_by key y (insert_by key x zs)
      by true c e f = in_turn x y e ((key_order key).one_way x y e) zs
      by false true e f = sym (in_turn y x f e zs)
      by false false e f = absurd (differ (tied_same (key x) (key y) e f))

  abbrev insert_all : List X → List X → List X
  insert_all [] zs = zs
  insert_all (x ∷ xs) zs = insert_by key x (insert_all xs zs)

  one_commutes : (x : X) (ys zs : List X) → AllByRecursion (λ y. key x ≢ key y) ys → insert_by key x (insert_all ys zs) ≡ insert_all ys (insert_by key x zs)
  one_commutes x [] zs differ = refl
  one_commutes x (y ∷ ys) zs differ = insert_commutes x y differ.0 (insert_all ys zs) ∙ ap (insert_by key y) (one_commutes x ys zs differ.1)

  all_commute : (xs ys zs : List X) → AllByRecursion (λ x. AllByRecursion (λ y. key x ≢ key y) ys) xs → insert_all xs (insert_all ys zs) ≡ insert_all ys (insert_all xs zs)
  all_commute [] ys zs differ = refl
  all_commute (x ∷ xs) ys zs differ = ap (insert_by key x) (all_commute xs ys zs differ.1) ∙ one_commutes x ys (insert_all xs zs) differ.0

  sorted-append : (xs ys : List X) → by_bytes key (xs ++ ys) ≡ insert_all xs (by_bytes key ys)
  sorted-append [] ys = refl
  sorted-append (x ∷ xs) ys = ap (insert_by key x) (sorted-append xs ys)

  module _ (items : List ℕ → List X) where
    sorted_gathered : (last : List X) (ws : List (List ℕ)) → by_bytes key (flat_map items ws ++ last) ≡ gathered (λ w zs. insert_all (items w) zs) (by_bytes key last) ws
    sorted_gathered last [] = refl
    sorted_gathered last (w ∷ ws) =
        ap (by_bytes key) (append_assoc (items w) (flat_map items ws) last)
        ∙ sorted-append (items w) (flat_map items ws ++ last)
        ∙ ap (insert_all (items w)) (sorted_gathered last ws)

    -- the items of words, where those of different words have different keys, and others behind them
    pub sorted_same-before : (last : List X) (Known : List ℕ → Type 0) → ((v w : List ℕ) → Known v → Known w → (v ≡ w → ⊥) → AllByRecursion (λ x. AllByRecursion (λ y. key x ≢ key y) (items w)) (items v))
        → (ws vs : List (List ℕ)) → AreSame ws vs → AllByRecursion Known ws → AllByRecursion Known vs → by_bytes key (flat_map items ws ++ last) ≡ by_bytes key (flat_map items vs ++ last)
    sorted_same-before last Known differ ws vs s known known2 =
        sorted_gathered last ws
        ∙ gathered_same (λ w zs. insert_all (items w) zs) (by_bytes key last) Known (λ v w k k2 apart zs. all_commute (items v) (items w) zs (differ v w k k2 apart)) ws vs s known known2
        ∙ sym (sorted_gathered last vs)

    -- and with none behind them
    pub sorted_same : (Known : List ℕ → Type 0) → ((v w : List ℕ) → Known v → Known w → (v ≡ w → ⊥) → AllByRecursion (λ x. AllByRecursion (λ y. key x ≢ key y) (items w)) (items v))
        → (ws vs : List (List ℕ)) → AreSame ws vs → AllByRecursion Known ws → AllByRecursion Known vs → by_bytes key (flat_map items ws) ≡ by_bytes key (flat_map items vs)
    sorted_same Known differ ws vs s known known2 =
        ap (by_bytes key) (sym (append-nil (flat_map items ws)))
        ∙ sorted_same-before [] Known differ ws vs s known known2
        ∙ ap (by_bytes key) (append-nil (flat_map items vs))

    -- and as many of them pass
    count_gathered : (p : X → Bool) (ws : List (List ℕ)) → length (filter p (flat_map items ws)) ≡ gathered (λ w n. length (filter p (items w)) + n) 0 ws
    count_gathered p [] = refl
    count_gathered p (w ∷ ws) =
        ap length (filter-append p (items w) (flat_map items ws)) ∙ length-append (filter p (items w)) (filter p (flat_map items ws))
        ∙ ap (λ n. length (filter p (items w)) + n) (count_gathered p ws)

    pub count_same : (p : X → Bool) (ws vs : List (List ℕ)) → AreSame ws vs → length (filter p (flat_map items ws)) ≡ length (filter p (flat_map items vs))
    count_same p ws vs s =
        count_gathered p ws
        ∙ gathered_same (λ w n. length (filter p (items w)) + n) 0 (λ w. Unit {0})
        (λ v w k k2 apart n. let e : length (filter p (items v)) + (length (filter p (items w)) + n) ≡ length (filter p (items w)) + (length (filter p (items v)) + n) = omega arith in e) ws vs s (all_known ws) (all_known vs)
        ∙ sym (count_gathered p vs)
      where
        all_known : (ws : List (List ℕ)) → AllByRecursion (λ w. Unit {0}) ws
        all_known [] = tt
        all_known (w ∷ ws) = (tt, all_known ws)
