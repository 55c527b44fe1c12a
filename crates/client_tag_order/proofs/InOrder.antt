-- Tags with their positions, sorted: each comes before those after it, and is the tag at its position.
use Rattle.std.proofs.Common.{◌≡◌, ℕ, zero, suc, ◌+◌, ◌<◌, ◌≤◌, Bool, true, false, cond, ◌&&◌, List, [], ◌∷◌, ◌++◌, map, length, get_or, filter, refl, sym, ap, subst, ◌∙◌, arith, zero-add, add-zero}
use Rattle.std.specs.Prelude.{bytes_eq, nat_lt, ◌||◌}
use Rattle.std.specs.List.{AllByRecursion, range_with_len}
use Rattle.std.specs.Cmp.Lexicographic.{slice_cmp, nat_list_cmp_total}
use Rattle.std.specs.Ordering.{nat_cmp, is_lt, ordering_reverse}
use Rattle.std.specs.FinMap.{nat_cmp-IsAntisymmetric, slice_cmp-IsAntisymmetric}
use Rattle.std.specs.declared.cmp.Ordering.{Ordering}
use Rattle.std.specs.declared.cmp.Ordering.TheVariants.{Less, Equal, Greater}
use Rattle.std.proofs.lemmas.Bool.{cond_both, lt-ltb, le-ltb}
use Rattle.std.proofs.lemmas.List.FromFn.{get_or-map-range_with_len}
use Rattle.std.proofs.lemmas.Slice.Eq.{bytes_eq-Decides}
use Rattle.sse_frames.specs.Order.{is_below, insert_by, by_bytes}
use Rattle.sse_frames.proofs.Sorted.{key_below, key_order, All-insert_by, All-by_bytes, length-by_bytes}
use Rattle.client_tag_order.specs.Tagged.{tagged_from}
use Rattle.client_tag_order.specs.declared.tagged.Tagged.{Tagged}

-- ---- two keys

not_less : (r s : Ordering) → r ≡ ordering_reverse s → is_lt r ≡ false → is_lt s ≡ false → r ≡ Equal
not_less Less s e f g = absurd cc
not_less Equal s e f g = refl
not_less Greater Less e f g = absurd cc
not_less Greater Equal e f g = absurd cc
not_less Greater Greater e f g = absurd cc

-- keys of which neither is below the other are equal
pub tied_equal : (x y : List ℕ) → is_below x y ≡ false → is_below y x ≡ false → bytes_eq x y ≡ true
tied_equal x y f g =
    let same : x ≡ y = slice_cmp-IsAntisymmetric nat_cmp-IsAntisymmetric x y (not_less (slice_cmp nat_cmp x y) (slice_cmp nat_cmp y x) (nat_list_cmp_total.antisymm x y) f g) in
    (bytes_eq-Decides x y).1 same

module _ {X : Type 0} (key : X → List ℕ) (pos : X → ℕ) where
  -- whether e comes before x: its key is below, or equal and its position is less
  abbrev pub before : X → X → Bool
  before x e = is_below (key e) (key x) || bytes_eq (key e) (key x) && nat_lt (pos e) (pos x)

  -- each element comes before those after it, and none of them before it
  abbrev pub InOrder : List X → Type 0
  InOrder [] = Unit {0}
  InOrder (x ∷ xs) = AllByRecursion (λ y. (before y x ≡ true) × (before x y ≡ false)) xs × InOrder xs

or_left : (a b : Bool) → a ≡ true → (a || b) ≡ true
or_left a b is = rw is refl

or_both : (a b c : Bool) → (a ≡ false → b ≡ true) → c ≡ true → (a || b && c) ≡ true
or_both true b c f is = refl
or_both false b c f is = rw (f refl, is) refl

or_none : (a b c : Bool) → a ≡ false → c ≡ false → (a || b && c) ≡ false
or_none a true c f g = rw (f, g) refl
or_none a false c f g = rw f refl

or_apart : (a b c : Bool) → a ≡ false → b ≡ false → (a || b && c) ≡ false
or_apart a b c f g = rw (f, g) refl

or_first : (a b : Bool) → (a || b) ≡ false → a ≡ false
or_first true b f = absurd (cc)
or_first false b f = refl

self_not : (b : Bool) → (b ≡ true → b ≡ false) → b ≡ false
self_not true f = f refl
self_not false f = refl

module _ {X : Type 0} (key : X → List ℕ) (pos : X → ℕ) where
  -- an element before another, both ways
  abbrev Precedes : X → X → Type 0
  Precedes x y = (before key pos y x ≡ true) × (before key pos x y ≡ false)

  -- whose key isn't above, and whose position is less
  by_position : (x z : X) → is_below (key z) (key x) ≡ false → pos x < pos z → Precedes x z
  by_position x z over less = (
    or_both (is_below (key x) (key z)) (bytes_eq (key x) (key z)) (nat_lt (pos x) (pos z)) (λ under. tied_equal (key x) (key z) under over) (lt-ltb (pos x) (pos z) less),
    or_none (is_below (key z) (key x)) (bytes_eq (key z) (key x)) (nat_lt (pos z) (pos x)) over (le-ltb (pos z) (pos x) (omega arith)),
  )

  -- whose key is below
  by_key : (y x : X) → is_below (key y) (key x) ≡ true → Precedes y x
  by_key y x under =
      let order = key_order key in
      let other : is_below (key x) (key y) ≡ false = order.one_way y x under in
      let own : is_below (key y) (key y) ≡ false = self_not (is_below (key y) (key y)) (order.one_way y y) in
      let apart : bytes_eq (key x) (key y) ≡ false = decide (bytes_eq (key x) (key y)) (λ same.
      let equal : key x ≡ key y = (bytes_eq-Decides (key x) (key y)).0 same in
      let wrong : true ≡ false = sym under ∙ ap (is_below (key y)) equal ∙ own in cc) in (
        or_left (is_below (key y) (key x)) (bytes_eq (key y) (key x) && nat_lt (pos y) (pos x)) under,
        or_apart (is_below (key x) (key y)) (bytes_eq (key x) (key y)) (nat_lt (pos x) (pos y)) other apart,
      )
    where
      decide : (b : Bool) → (b ≡ true → ⊥) → b ≡ false
      decide true f = absurd (f refl)
      decide false f = refl

  -- an element before all of these positions, in front of the first whose key isn't below its own
  rest_after : (x y : X) (zs : List X) → is_below (key y) (key x) ≡ false → AllByRecursion (λ z. (before key pos z y ≡ true) × (before key pos y z ≡ false)) zs
      → AllByRecursion (λ z. pos x < pos z) zs → AllByRecursion (λ z. (before key pos z x ≡ true) × (before key pos x z ≡ false)) zs
  rest_after x y [] over after less = tt
  rest_after x y (z ∷ zs) over after less =
      let order = key_order key in
      let here : is_below (key z) (key y) ≡ false = or_first (is_below (key z) (key y)) (bytes_eq (key z) (key y) && nat_lt (pos z) (pos y)) after.0.1 in
      (by_position x z (order.chain z y x here over) less.0, rest_after x y zs over after.1 less.1)

  InOrder-insert_by : (x : X) (xs : List X) → AllByRecursion (λ z. pos x < pos z) xs → InOrder key pos xs → InOrder key pos (insert_by key x xs)
  InOrder-insert_by x [] less order = (tt, tt)
  InOrder-insert_by x (y ∷ ys) less order =
      cond_both (key_below key y x) (y ∷ insert_by key x ys) (x ∷ y ∷ ys) (InOrder key pos)
      (λ e. (All-insert_by key (Precedes y) x ys (by_key y x e) order.0, InOrder-insert_by x ys less.1 order.1))
      (λ e. ((by_position x y e less.0, rest_after x y ys e order.0 less.1), order))

  -- positions that rise
  abbrev pub PositionsRise : List X → Type 0
  PositionsRise [] = Unit {0}
  PositionsRise (x ∷ xs) = AllByRecursion (λ z. pos x < pos z) xs × PositionsRise xs

  -- sorted by their keys, each comes before those after it
  pub InOrder-by_bytes : (xs : List X) → PositionsRise xs → InOrder key pos (by_bytes key xs)
  InOrder-by_bytes [] rise = tt
  InOrder-by_bytes (x ∷ xs) rise =
      InOrder-insert_by x (by_bytes key xs) (All-by_bytes key (λ z. pos x < pos z) xs rise.0) (InOrder-by_bytes xs rise.1)

  -- ---- how many come before

  none_before : (x : X) (ys : List X) → AllByRecursion (λ y. (before key pos y x ≡ true) × (before key pos x y ≡ false)) ys → length (filter (before key pos x) ys) ≡ 0
  none_before x [] all = refl
  none_before x (y ∷ ys) all = ap (λ b. length (cond b (y ∷ filter (before key pos x) ys) (filter (before key pos x) ys))) all.0.1 ∙ none_before x ys all.1

  not_itself : (x : X) → before key pos x x ≡ false
  not_itself x =
      let own : is_below (key x) (key x) ≡ false = self_not (is_below (key x) (key x)) ((key_order key).one_way x x) in
      or_none (is_below (key x) (key x)) (bytes_eq (key x) (key x)) (nat_lt (pos x) (pos x)) own (le-ltb (pos x) (pos x) (omega arith))

  precedes_at : (x : X) (ys : List X) (k : ℕ) (d : X) → k < length ys → AllByRecursion (λ y. (before key pos y x ≡ true) × (before key pos x y ≡ false)) ys
      → before key pos (get_or ys k d) x ≡ true
  precedes_at x [] k d within all = absurd (omega arith)
  precedes_at x (y ∷ ys) zero d within all = all.0.0
  precedes_at x (y ∷ ys) (suc k) d within all = precedes_at x ys k d (omega arith) all.1

  -- the element at place k has k before it
  pub count_before : (xs : List X) (k : ℕ) (d : X) → k < length xs → InOrder key pos xs → length (filter (before key pos (get_or xs k d)) xs) ≡ k
  count_before [] k d within order = absurd (omega arith)
  count_before (x ∷ xs) zero d within order =
      ap (λ b. length (cond b (x ∷ filter (before key pos x) xs) (filter (before key pos x) xs))) (not_itself x) ∙ none_before x xs order.0
  count_before (x ∷ xs) (suc k) d within order =
      let y = get_or xs k d in
      ap (λ b. length (cond b (x ∷ filter (before key pos y) xs) (filter (before key pos y) xs))) (precedes_at x xs k d (omega arith) order.0)
      ∙ ap (λ (n : ℕ). suc n) (count_before xs k d (omega arith) order.1)

  -- sorting changes no count
  count-insert_by : (p : X → Bool) (x : X) (xs : List X) → length (filter p (insert_by key x xs)) ≡ length (filter p (x ∷ xs))
  count-insert_by p x [] = refl
  count-insert_by p x (y ∷ ys) =
      cond_both (key_below key y x) (y ∷ insert_by key x ys) (x ∷ y ∷ ys) (λ zs. length (filter p zs) ≡ length (filter p (x ∷ y ∷ ys)))
      (λ e. swapped (p x) (p y) (filter p (insert_by key x ys)) (filter p ys) (count-insert_by p x ys))
      (λ e. refl)
    where
      swapped : (s t : Bool) (zs ys' : List X) → length zs ≡ length (cond s (x ∷ ys') ys')
          → length (cond t (y ∷ zs) zs) ≡ length (cond s (x ∷ cond t (y ∷ ys') ys') (cond t (y ∷ ys') ys'))
      swapped true true zs ys' e = ap (λ (n : ℕ). suc n) e
      swapped true false zs ys' e = e
      swapped false true zs ys' e = ap (λ (n : ℕ). suc n) e
      swapped false false zs ys' e = e

  pub count-by_bytes : (p : X → Bool) (xs : List X) → length (filter p (by_bytes key xs)) ≡ length (filter p xs)
  count-by_bytes p [] = refl
  count-by_bytes p (x ∷ xs) = count-insert_by p x (by_bytes key xs) ∙ again (p x) (filter p (by_bytes key xs)) (filter p xs) (count-by_bytes p xs)
    where
      again : (s : Bool) (zs ys : List X) → length zs ≡ length ys → length (cond s (x ∷ zs) zs) ≡ length (cond s (x ∷ ys) ys)
      again true zs ys e = ap (λ (n : ℕ). suc n) e
      again false zs ys e = e

-- what holds of all holds of the one at k
pub all_at : {X : Type 0} (P : X → Type 0) (xs : List X) (k : ℕ) (d : X) → AllByRecursion P xs → k < length xs → P (get_or xs k d)
all_at P [] k d all within = absurd (omega arith)
all_at P (x ∷ xs) zero d all within = all.0
all_at P (x ∷ xs) (suc k) d all within = all_at P xs k d all.1 (omega arith)

-- ---- tags with their positions

abbrev pub key : Tagged → List ℕ
key e = e.tag

abbrev pub pos : Tagged → ℕ
pos e = e.position

abbrev pub make : List ℕ → ℕ → Tagged
make t i = record { tag = t; position = i }

pub length-tagged_from : (i : ℕ) (ts : List (List ℕ)) → length (tagged_from i ts) ≡ length ts
length-tagged_from i [] = refl
length-tagged_from i (t ∷ ts) = ap (λ (n : ℕ). suc n) (length-tagged_from (i + 1) ts)

pub get_or-tagged_from : (i : ℕ) (ts : List (List ℕ)) (k : ℕ) (d : Tagged) → k < length ts → get_or (tagged_from i ts) k d ≡ make (get_or ts k []) (i + k)
get_or-tagged_from i [] k d within = absurd (omega arith)
get_or-tagged_from i (t ∷ ts) zero d within = let e : i ≡ i + 0 = omega arith in ap (make t) e
get_or-tagged_from i (t ∷ ts) (suc k) d within =
    let e : i + 1 + k ≡ i + suc k = omega arith in
    get_or-tagged_from (i + 1) ts k d (omega arith) ∙ ap (make (get_or ts k [])) e

-- one more tag, at the next position
pub tagged_from-push : (i : ℕ) (ts : List (List ℕ)) (t : List ℕ) → tagged_from i (ts ++ t ∷ []) ≡ tagged_from i ts ++ make t (i + length ts) ∷ []
tagged_from-push i [] t = let e : i ≡ i + 0 = omega arith in ap (λ k. make t k ∷ []) e
tagged_from-push i (u ∷ ts) t =
    let e : i + 1 + length ts ≡ i + suc (length ts) = omega arith in
    ap (λ zs. make u i ∷ zs) (tagged_from-push (i + 1) ts t ∙ ap (λ k. tagged_from (i + 1) ts ++ make t k ∷ []) e)

rise_above : (a i : ℕ) (ts : List (List ℕ)) → a < i → AllByRecursion (λ z. a < pos z) (tagged_from i ts)
rise_above a i [] less = tt
rise_above a i (t ∷ ts) less = (subst (λ n. a < n) (refl) less, rise_above a (i + 1) ts (omega arith))

pub PositionsRise-tagged_from : (i : ℕ) (ts : List (List ℕ)) → PositionsRise key pos (tagged_from i ts)
PositionsRise-tagged_from i [] = tt
PositionsRise-tagged_from i (t ∷ ts) =
    (subst (λ a. AllByRecursion (λ z. a < pos z) (tagged_from (i + 1) ts)) (refl) (rise_above i (i + 1) ts (omega arith)), PositionsRise-tagged_from (i + 1) ts)

module _ (tags : List (List ℕ)) where
  abbrev pub all_tagged : List Tagged
  all_tagged = tagged_from 0 tags

  abbrev pub sorted_tagged : List Tagged
  sorted_tagged = by_bytes key all_tagged

  -- an element that is the tag at its position
  abbrev pub IsPlaced : Tagged → Type 0
  IsPlaced e = (pos e < length tags) × (e ≡ make (get_or tags (pos e) []) (pos e))

  placed_from : (a : ℕ) (ts : List (List ℕ)) → ((k : ℕ) → k < length ts → get_or ts k [] ≡ get_or tags (a + k) []) → a + length ts ≤ length tags
      → AllByRecursion IsPlaced (tagged_from a ts)
  placed_from a [] same within = tt
  placed_from a (t ∷ ts) same within =
      let here : t ≡ get_or tags a [] = same 0 (omega arith) ∙ ap (λ k. get_or tags k []) (add-zero a) in (
        (
          subst (λ n. n < length tags) (refl) (omega (arith, within)),
          ap (λ u. make u a) here ∙ ap (λ n. make (get_or tags n []) n) (refl),
        ),
        placed_from (a + 1) ts (λ k inside. let e : a + suc k ≡ a + 1 + k = omega arith in same (suc k) (omega arith) ∙ ap (λ n. get_or tags n []) e) (omega (arith, within)),
      )

  -- each of the sorted is the tag at its position
  pub sorted-IsPlaced : AllByRecursion IsPlaced sorted_tagged
  sorted-IsPlaced = All-by_bytes key IsPlaced all_tagged (placed_from 0 tags (λ k within. ap (λ n. get_or tags n []) (sym (zero-add k))) (omega arith))

-- ---- what is sorted by these keys

insert_by-map : {X Y : Type 0} (key : X → List ℕ) (key' : Y → List ℕ) (g : X → Y) (x : X) (xs : List X) → key' (g x) ≡ key x
    → AllByRecursion (λ z. key' (g z) ≡ key z) xs → insert_by key' (g x) (map g xs) ≡ map g (insert_by key x xs)
insert_by-map key key' g x [] same all = refl
insert_by-map key key' g x (y ∷ ys) same all =
    (λ r. cond (is_below (all.0 r) (same r)) (g y ∷ insert_by key' (g x) (map g ys)) (g x ∷ g y ∷ map g ys))
    ∙ by (is_below (key y) (key x)) (insert_by-map key key' g x ys same all.1)
  where
    by : (b : Bool) → insert_by key' (g x) (map g ys) ≡ map g (insert_by key x ys)
        → cond b (g y ∷ insert_by key' (g x) (map g ys)) (g x ∷ g y ∷ map g ys) ≡ map g (cond b (y ∷ insert_by key x ys) (x ∷ y ∷ ys))
    by true e = ap (λ zs. g y ∷ zs) e
    by false e = refl

-- sorted and then mapped, or the other way round
pub by_bytes-map : {X Y : Type 0} (key : X → List ℕ) (key' : Y → List ℕ) (g : X → Y) (xs : List X) → AllByRecursion (λ z. key' (g z) ≡ key z) xs
    → by_bytes key' (map g xs) ≡ map g (by_bytes key xs)
by_bytes-map key key' g [] all = refl
by_bytes-map key key' g (x ∷ xs) all =
    ap (insert_by key' (g x)) (by_bytes-map key key' g xs all.1)
    ∙ insert_by-map key key' g x (by_bytes key xs) all.0 (All-by_bytes key (λ z. key' (g z) ≡ key z) xs all.1)

-- the tags alone, once they are sorted with their positions
same_tags : (es : List Tagged) → AllByRecursion (λ z. z.tag ≡ z.tag) es
same_tags [] = tt
same_tags (e ∷ es) = (refl, same_tags es)

tags-tagged_from : (i : ℕ) (ts : List (List ℕ)) → map (λ e. e.tag) (tagged_from i ts) ≡ ts
tags-tagged_from i [] = refl
tags-tagged_from i (t ∷ ts) = ap (λ us. t ∷ us) (tags-tagged_from (i + 1) ts)

pub tags-sorted : (tags : List (List ℕ)) → map (λ e. e.tag) (by_bytes (λ e. e.tag) (tagged_from 0 tags)) ≡ by_bytes (λ tag. tag) tags
tags-sorted tags =
    sym (by_bytes-map (λ (e : Tagged). e.tag) (λ tag. tag) (λ (e : Tagged). e.tag) (tagged_from 0 tags) (same_tags (tagged_from 0 tags)))
    ∙ ap (by_bytes (λ tag. tag)) (tags-tagged_from 0 tags)
