-- A stable sort is determined, and by_bytes is one; with different keys it rises strictly.
use Rattle.std.proofs.Common.{◌≡◌, ◌≢◌, ℕ, suc, ◌+◌, ◌<◌, Bool, true, false, not, cond, ◌&&◌, List, [], ◌∷◌, map, length, get_or, refl, sym, ap, subst, ◌∙◌, arith}
use Rattle.std.specs.List.{filter, AllByRecursion}
use Rattle.std.specs.List.Sorted.{IsSortedBy, IsStableBy, IsSortedByKey, IsStableByKey, IsStrictlySortedBy, ties}
use Rattle.std.specs.Cmp.{IsStrictWeakOrder}
use Rattle.std.specs.Cmp.Lexicographic.{slice_cmp, nat_list_cmp_total}
use Rattle.std.specs.Ordering.{nat_cmp, is_lt, ordering_reverse}
use Rattle.std.specs.FinMap.{nat_cmp-IsAntisymmetric, slice_cmp-IsAntisymmetric}
use Rattle.std.specs.declared.cmp.Ordering.{Ordering}
use Rattle.std.specs.declared.cmp.Ordering.TheVariants.{Less, Equal, Greater}
use Rattle.sse_frames.specs.Frames.{Rises}
use Rattle.std.proofs.lemmas.Bool.{cond_both, and_parts, not-true}
use Rattle.std.proofs.lemmas.List.Sorted.{ranks_by, sorted_far}
use Rattle.sse_frames.specs.Order.{is_below, insert_by, by_bytes}

-- no element is below one before it
abbrev pub Ascends : {X : Type 0} → (X → X → Bool) → List X → Type 0
Ascends lt [] = Unit {0}
Ascends lt (x ∷ xs) = AllByRecursion (λ y. lt y x ≡ false) xs × Ascends lt xs

all_from : {X : Type 0} (P : X → Type 0) (xs : List X) → ((j : ℕ) (d : X) → j < length xs → P (get_or xs j d)) → AllByRecursion P xs
all_from P [] all = tt
all_from P (x ∷ xs) all = (all 0 x (omega arith), all_from P xs (λ j d lt. all (suc j) d (omega (arith, lt))))

tail_sorted : {X : Type 0} (lt : X → X → Bool) (x : X) (xs : List X) → IsSortedBy lt (x ∷ xs) → IsSortedBy lt xs
tail_sorted lt x xs sorted k d low high =
    let next : suc k + 1 ≡ suc (k + 1) = omega arith in
    subst (λ (n : ℕ). lt (get_or (x ∷ xs) n d) (get_or xs k d) ≡ false) next (sorted (suc k) d (omega arith) (omega (arith, high)))

Ascends-from_sorted : {X : Type 0} (lt : X → X → Bool) → IsStrictWeakOrder lt → (xs : List X) → IsSortedBy lt xs → Ascends lt xs
Ascends-from_sorted lt order [] sorted = tt
Ascends-from_sorted lt order (x ∷ xs) sorted =
    (all_from (λ y. lt y x ≡ false) xs (λ j d below. sorted_far lt order (x ∷ xs) sorted 0 (suc j) d (omega arith) (omega (arith, below))), Ascends-from_sorted lt order xs (tail_sorted lt x xs sorted))

self_from : (b : Bool) → (b ≡ true → b ≡ false) → b ≡ false
self_from true f = f refl
self_from false f = refl

-- neither is below the other
neither : {X : Type 0} (lt : X → X → Bool) (x y : X) → lt x y ≡ false → lt y x ≡ false → ties lt x y ≡ true
neither lt x y f g = rw (f, g) refl

-- an element ties with itself
ties-self : {X : Type 0} (lt : X → X → Bool) → IsStrictWeakOrder lt → (x : X) → ties lt x x ≡ true
ties-self lt order x = let f = self_from (lt x x) (order.one_way x x) in neither lt x x f f

first_is : (a b : Bool) → (a ≡ false → b ≡ false) → b ≡ true → a ≡ true
first_is true b f e = refl
first_is false b f e = absurd (let g = f refl in cc)

not_both : (a b : Bool) → a ≡ true → (not a && not b) ≡ false
not_both a b e = rw e refl

-- what is below an element ties with none that isn't below that element
none_ties : {X : Type 0} (lt : X → X → Bool) → IsStrictWeakOrder lt → (x y : X) (zs : List X) → lt x y ≡ true → AllByRecursion (λ z. lt z y ≡ false) zs → filter (ties lt x) zs ≡ []
none_ties lt order x y [] below all = refl
none_ties lt order x y (z ∷ zs) below all =
    let under : lt x z ≡ true = first_is (lt x z) (lt x y) (λ f. order.chain x z y f all.0) below in
    let apart : ties lt x z ≡ false = not_both (lt x z) (lt z x) under in
    rw apart (none_ties lt order x y zs below all.1)

decide : (b : Bool) → (b ≡ true → ⊥) → b ≡ false
decide true f = absurd (f refl)
decide false f = refl

-- the first elements of two ascending lists with the same ties tie
not_below : {X : Type 0} (lt : X → X → Bool) → IsStrictWeakOrder lt → (x y : X) (xs ys : List X) → Ascends lt (y ∷ ys) → filter (ties lt x) (x ∷ xs) ≡ filter (ties lt x) (y ∷ ys) → lt x y ≡ false
not_below lt order x y xs ys up same =
    decide (lt x y) (λ below.
    let own : lt y y ≡ false = self_from (lt y y) (order.one_way y y) in
    let none : filter (ties lt x) (y ∷ ys) ≡ [] = none_ties lt order x y (y ∷ ys) below (own, up.0) in
    let here : filter (ties lt x) (x ∷ xs) ≡ x ∷ filter (ties lt x) xs = rw (ties-self lt order x) refl in
    let wrong : x ∷ filter (ties lt x) xs ≡ [] = sym here ∙ same ∙ none in
    absurd cc)

tail_same : {X : Type 0} (b : Bool) (x : X) (xs ys : List X) → cond b (x ∷ xs) xs ≡ cond b (x ∷ ys) ys → xs ≡ ys
tail_same true x xs ys e = cc
tail_same false x xs ys e = e

-- two ascending lists in which the elements that tie stand in one order are one
same_order : {X : Type 0} (lt : X → X → Bool) → IsStrictWeakOrder lt → (xs ys : List X) → Ascends lt xs → Ascends lt ys → IsStableBy lt xs ys → xs ≡ ys
same_order lt order [] [] up up' same = refl
same_order lt order [] (y ∷ ys) up up' same =
    let here : filter (ties lt y) (y ∷ ys) ≡ y ∷ filter (ties lt y) ys = rw (ties-self lt order y) refl in
    let wrong : y ∷ filter (ties lt y) ys ≡ [] = sym here ∙ same y in
    absurd cc
same_order lt order (x ∷ xs) [] up up' same =
    let here : filter (ties lt x) (x ∷ xs) ≡ x ∷ filter (ties lt x) xs = rw (ties-self lt order x) refl in
    let wrong : [] ≡ x ∷ filter (ties lt x) xs = same x ∙ here in
    absurd cc
same_order {X = X} lt order (x ∷ xs) (y ∷ ys) up up' same =
    let tied : ties lt x y ≡ true = neither lt x y (not_below lt order x y xs ys up' (sym (same x))) (not_below lt order y x ys xs up (same y)) in
    let front : x ∷ filter (ties lt x) xs ≡ filter (ties lt x) (x ∷ xs) = rw (ties-self lt order x) refl in
    let back : filter (ties lt x) (y ∷ ys) ≡ y ∷ filter (ties lt x) ys = rw tied refl in
    let both : x ∷ filter (ties lt x) xs ≡ y ∷ filter (ties lt x) ys = front ∙ sym (same x) ∙ back in
    let first : x ≡ y = cc in
    let rest : IsStableBy lt xs ys = λ z. tail_same (ties lt z y) y (filter (ties lt z) ys) (filter (ties lt z) xs)
    (subst (λ (w : X). filter (ties lt z) (y ∷ ys) ≡ filter (ties lt z) (w ∷ xs)) first (same z)) in
    ap (λ (w : X). w ∷ xs) first ∙ ap (λ (zs : List X). y ∷ zs) (same_order lt order xs ys up.1 up'.1 rest)

-- a stable sort is determined
pub one_order : {X : Type 0} (lt : X → X → Bool) → IsStrictWeakOrder lt → (xs ys : List X) → IsSortedBy lt xs → IsSortedBy lt ys → IsStableBy lt xs ys → xs ≡ ys
one_order lt order xs ys sorted sorted' same = same_order lt order xs ys (Ascends-from_sorted lt order xs sorted) (Ascends-from_sorted lt order ys sorted') same

-- the order of keys
abbrev pub key_below : {X : Type 0} → (X → List ℕ) → X → X → Bool
key_below key x y = is_below (key x) (key y)

pub key_order : {X : Type 0} (key : X → List ℕ) → IsStrictWeakOrder (key_below key)
key_order key = ranks_by nat_list_cmp_total key

pub All-insert_by : {X : Type 0} (key : X → List ℕ) (P : X → Type 0) (x : X) (xs : List X) → P x → AllByRecursion P xs → AllByRecursion P (insert_by key x xs)
All-insert_by key P x [] p all = (p, tt)
All-insert_by key P x (y ∷ ys) p all =
    cond_both (key_below key y x) (y ∷ insert_by key x ys) (x ∷ y ∷ ys) (AllByRecursion P) (λ e. (all.0, All-insert_by key P x ys p all.1)) (λ e. (p, all))

-- what holds of each item holds of each after sorting
pub All-by_bytes : {X : Type 0} (key : X → List ℕ) (P : X → Type 0) (xs : List X) → AllByRecursion P xs → AllByRecursion P (by_bytes key xs)
All-by_bytes key P [] all = tt
All-by_bytes key P (x ∷ xs) all = All-insert_by key P x (by_bytes key xs) all.0 (All-by_bytes key P xs all.1)

length-insert_by : {X : Type 0} (key : X → List ℕ) (x : X) (xs : List X) → length (insert_by key x xs) ≡ suc (length xs)
length-insert_by key x [] = refl
length-insert_by key x (y ∷ ys) =
    cond_both (key_below key y x) (y ∷ insert_by key x ys) (x ∷ y ∷ ys) (λ zs. length zs ≡ suc (suc (length ys))) (λ e. ap (λ (n : ℕ). suc n) (length-insert_by key x ys)) (λ e. refl)

pub length-by_bytes : {X : Type 0} (key : X → List ℕ) (xs : List X) → length (by_bytes key xs) ≡ length xs
length-by_bytes key [] = refl
length-by_bytes key (x ∷ xs) = length-insert_by key x (by_bytes key xs) ∙ ap (λ (n : ℕ). suc n) (length-by_bytes key xs)

all_above : {X : Type 0} (lt : X → X → Bool) → IsStrictWeakOrder lt → (x y : X) (zs : List X) → lt y x ≡ false → AllByRecursion (λ z. lt z y ≡ false) zs → AllByRecursion (λ z. lt z x ≡ false) zs
all_above lt order x y [] f all = tt
all_above lt order x y (z ∷ zs) f all = (order.chain z y x all.0 f, all_above lt order x y zs f all.1)

Ascends-insert_by : {X : Type 0} (key : X → List ℕ) (x : X) (xs : List X) → Ascends (key_below key) xs → Ascends (key_below key) (insert_by key x xs)
Ascends-insert_by key x [] up = (tt, tt)
Ascends-insert_by key x (y ∷ ys) up =
    let order = key_order key in
    cond_both (key_below key y x) (y ∷ insert_by key x ys) (x ∷ y ∷ ys) (Ascends (key_below key))
    (λ e. (All-insert_by key (λ z. key_below key z y ≡ false) x ys (order.one_way y x e) up.0, Ascends-insert_by key x ys up.1))
    (λ e. ((e, all_above (key_below key) order x y ys e up.0), up))

-- sorted items ascend
pub Ascends-by_bytes : {X : Type 0} (key : X → List ℕ) (xs : List X) → Ascends (key_below key) (by_bytes key xs)
Ascends-by_bytes key [] = tt
Ascends-by_bytes key (x ∷ xs) = Ascends-insert_by key x (by_bytes key xs) (Ascends-by_bytes key xs)

-- two that tie aren't one below the other
tied_both : {X : Type 0} (lt : X → X → Bool) → IsStrictWeakOrder lt → (z x y : X) → ties lt z x ≡ true → ties lt z y ≡ true → lt y x ≡ false
tied_both lt order z x y f g =
    let a = and_parts (not (lt z x)) (not (lt x z)) f in
    let b = and_parts (not (lt z y)) (not (lt y z)) g in
    order.chain y z x (not-true (lt y z) b.1) (not-true (lt z x) a.0)

passed : {X : Type 0} (s t : Bool) (x y : X) (zs ys : List X) → zs ≡ cond s (x ∷ ys) ys → (s ≡ true → t ≡ true → ⊥)
    → cond t (y ∷ zs) zs ≡ cond s (x ∷ cond t (y ∷ ys) ys) (cond t (y ∷ ys) ys)
passed true true x y zs ys e f = absurd (f refl refl)
passed true false x y zs ys e f = e
passed false true x y zs ys e f = ap (λ rest. y ∷ rest) e
passed false false x y zs ys e f = e

stable-insert_by : {X : Type 0} (key : X → List ℕ) (x : X) (xs : List X) (z : X) → filter (ties (key_below key) z) (insert_by key x xs) ≡ filter (ties (key_below key) z) (x ∷ xs)
stable-insert_by key x [] z = refl
stable-insert_by key x (y ∷ ys) z =
    let lt = key_below key in
    let f = filter (ties lt z) in
    cond_both (lt y x) (y ∷ insert_by key x ys) (x ∷ y ∷ ys) (λ zs. f zs ≡ f (x ∷ y ∷ ys))
    (λ e. passed (ties lt z x) (ties lt z y) x y (f (insert_by key x ys)) (f ys) (stable-insert_by key x ys z)
    (λ s t. let no = tied_both lt (key_order key) z x y s t in let wrong : true ≡ false = sym e ∙ no in cc))
    (λ e. refl)

front_same : {X : Type 0} (s : Bool) (x : X) (xs ys : List X) → xs ≡ ys → cond s (x ∷ xs) xs ≡ cond s (x ∷ ys) ys
front_same s x xs ys e = ap (λ zs. cond s (x ∷ zs) zs) e

-- sorting keeps the order of items that tie
pub stable-by_bytes : {X : Type 0} (key : X → List ℕ) (xs : List X) → IsStableByKey key (slice_cmp nat_cmp) xs (by_bytes key xs)
stable-by_bytes key [] z = refl
stable-by_bytes key (x ∷ xs) z =
    stable-insert_by key x (by_bytes key xs) z
    ∙ front_same (ties (key_below key) z x) x (filter (ties (key_below key) z) (by_bytes key xs)) (filter (ties (key_below key) z) xs) (stable-by_bytes key xs z)

-- what a stable sort by the key makes is by_bytes
pub sorted_is-by_bytes : {X : Type 0} (key : X → List ℕ) (xs ys : List X) → IsSortedByKey key (slice_cmp nat_cmp) ys → IsStableByKey key (slice_cmp nat_cmp) xs ys → ys ≡ by_bytes key xs
sorted_is-by_bytes key xs ys sorted stable =
    same_order (key_below key) (key_order key) ys (by_bytes key xs) (Ascends-from_sorted (key_below key) (key_order key) ys sorted) (Ascends-by_bytes key xs)
    (λ z. stable-by_bytes key xs z ∙ sym (stable z))

-- items that ascend are as sorting leaves them
pub by_bytes-Ascends : {X : Type 0} (key : X → List ℕ) (xs : List X) → Ascends (key_below key) xs → by_bytes key xs ≡ xs
by_bytes-Ascends key xs up = same_order (key_below key) (key_order key) (by_bytes key xs) xs (Ascends-by_bytes key xs) up (λ z. sym (stable-by_bytes key xs z))

-- no two keys are equal
abbrev pub AllDiffer : List (List ℕ) → Type 0
AllDiffer [] = Unit {0}
AllDiffer (x ∷ xs) = AllByRecursion (λ y. x ≢ y) xs × AllDiffer xs

all_map : {X : Type 0} (key : X → List ℕ) (P : List ℕ → Type 0) (xs : List X) → AllByRecursion P (map key xs) → AllByRecursion (λ x. P (key x)) xs
all_map key P [] all = tt
all_map key P (x ∷ xs) all = (all.0, all_map key P xs all.1)

map_all : {X : Type 0} (key : X → List ℕ) (P : List ℕ → Type 0) (xs : List X) → AllByRecursion (λ x. P (key x)) xs → AllByRecursion P (map key xs)
map_all key P [] all = tt
map_all key P (x ∷ xs) all = (all.0, map_all key P xs all.1)

AllDiffer-insert_by : {X : Type 0} (key : X → List ℕ) (x : X) (xs : List X) → AllByRecursion (λ y. key x ≢ key y) xs → AllDiffer (map key xs) → AllDiffer (map key (insert_by key x xs))
AllDiffer-insert_by key x [] apart differ = (tt, tt)
AllDiffer-insert_by key x (y ∷ ys) apart differ =
    cond_both (key_below key y x) (y ∷ insert_by key x ys) (x ∷ y ∷ ys) (λ zs. AllDiffer (map key zs))
    (λ e. (map_all key (λ k. key y ≢ k) (insert_by key x ys) (All-insert_by key (λ z. key y ≢ key z) x ys (λ f. apart.0 (sym f)) (all_map key (λ k. key y ≢ k) ys differ.0)), AllDiffer-insert_by key x ys apart.1 differ.1))
    (λ e. (map_all key (λ k. key x ≢ k) (y ∷ ys) apart, differ))

AllDiffer-by_bytes : {X : Type 0} (key : X → List ℕ) (xs : List X) → AllDiffer (map key xs) → AllDiffer (map key (by_bytes key xs))
AllDiffer-by_bytes key [] differ = tt
AllDiffer-by_bytes key (x ∷ xs) differ =
    AllDiffer-insert_by key x (by_bytes key xs) (All-by_bytes key (λ y. key x ≢ key y) xs (all_map key (λ k. key x ≢ k) xs differ.0)) (AllDiffer-by_bytes key xs differ.1)

less_from : (r s : Ordering) → r ≡ ordering_reverse s → is_lt s ≡ false → (r ≡ Equal → ⊥) → r ≡ Less
less_from Less s e f g = refl
less_from Equal s e f g = absurd (g refl)
less_from Greater Less e f g = absurd cc
less_from Greater Equal e f g = absurd cc
less_from Greater Greater e f g = absurd cc

strictly : (x y : List ℕ) → is_below y x ≡ false → x ≢ y → slice_cmp nat_cmp x y ≡ Less
strictly x y f apart =
    less_from (slice_cmp nat_cmp x y) (slice_cmp nat_cmp y x) (nat_list_cmp_total.antisymm x y) f (λ e. apart (slice_cmp-IsAntisymmetric nat_cmp-IsAntisymmetric x y e))

all_strictly : (x : List ℕ) (ys : List (List ℕ)) → AllByRecursion (λ y. is_below y x ≡ false) ys → AllByRecursion (λ y. x ≢ y) ys → AllByRecursion (λ y. slice_cmp nat_cmp x y ≡ Less) ys
all_strictly x [] up differ = tt
all_strictly x (y ∷ ys) up differ = (strictly x y up.0 differ.0, all_strictly x ys up.1 differ.1)

rises_from : {X : Type 0} (key : X → List ℕ) (xs : List X) → Ascends (key_below key) xs → AllDiffer (map key xs) → Rises (map key xs)
unfolding IsStrictlySortedBy
rises_from key [] up differ = tt
rises_from key (x ∷ xs) up differ = (all_strictly (key x) (map key xs) (map_all key (λ k. is_below k (key x) ≡ false) xs up.0) differ.0, rises_from key xs up.1 differ.1)

-- sorted items with different keys rise strictly
pub Rises-by_bytes : {X : Type 0} (key : X → List ℕ) (xs : List X) → AllDiffer (map key xs) → Rises (map key (by_bytes key xs))
Rises-by_bytes key xs differ = rises_from key (by_bytes key xs) (Ascends-by_bytes key xs) (AllDiffer-by_bytes key xs differ)
