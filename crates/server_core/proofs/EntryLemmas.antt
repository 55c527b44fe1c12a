-- The entries of a frame, one by one, and what adding them makes of a map.
use Rattle.std.proofs.Common.{◌≡◌, ℕ, zero, suc, ◌+◌, ◌*◌, ◌-◌, ◌/◌, ◌%◌, ◌<◌, ◌≤◌, Bool, true, false, cond, not, ◌&&◌, ◌||◌, List, [], ◌∷◌, length, get_or, map, take, drop, Option, Some, None, refl, sym, ap, ◌∙◌, arith}
use Rattle.std.specs.List.{position_from, AllByRecursion}
use Rattle.std.specs.List.Sorted.{IsStrictlySortedBy}
use Rattle.std.specs.Simd.{first_chunks}
use Rattle.std.specs.Ordering.{is_eq, nat_cmp, eq_by_cmp}
use Rattle.std.specs.declared.cmp.Ordering.TheVariants.{Less}
use Rattle.std.specs.Cmp.Lexicographic.{slice_cmp}
use Rattle.std.specs.FinMap as finmap
use Rattle.std.specs.FinSet as set
use Rattle.std.specs.Option.{is_some}
use Rattle.std.proofs.lemmas.Cmp.{nat_list_cmp_total}
use Rattle.std.proofs.lemmas.Nat.{div-mul-add, div-add-mod'}
use Rattle.std.proofs.lemmas.List.{length-map, length-drop, drop-drop, drop-take, take-take}
use Rattle.sse_frames.specs.Frames.{Entry, Rises, labels_of}
use Rattle.sse_frames.specs.FrameViews.{entry_in, entries_in, items_in}
use Rattle.server_tables.specs.Contents.{CellMap, NumberSet}
use Rattle.server_core.specs.Refusal.{first_known}
use Rattle.server_tables.proofs.Places.{turned}

-- one item less in the number, one less in the quotient
div_less : (n k : ℕ) → 0 < k → k ≤ n → n / k ≡ suc ((n - k) / k)
div_less n k pos le =
    let parts = div-add-mod' (n - k) k in
    let whole : n ≡ suc ((n - k) / k) * k + (n - k) % k = omega (arith, parts) in
    ap (λ m. m / k) whole ∙ div-mul-add (suc ((n - k) / k)) k ((n - k) % k) (omega arith)

div_none : (n k : ℕ) → n < k → n / k ≡ 0
div_none n k lt = let none : n ≡ 0 * k + n = omega arith in ap (λ m. m / k) none ∙ div-mul-add 0 k n lt

-- bytes that are fewer than an item's hold none
pub items_in-few : (size : ℕ) (bytes : List ℕ) → length bytes < size → items_in size bytes ≡ []
items_in-few size bytes few = ap (λ n. first_chunks size n bytes) (div_none (length bytes) size few)

-- the first item, and those after it
pub items_in-more : (size : ℕ) (bytes : List ℕ) → 0 < size → size ≤ length bytes → items_in size bytes ≡ take size bytes ∷ items_in size (drop size bytes)
items_in-more size bytes some enough =
    let one_less = div_less (length bytes) size some enough ∙ ap (λ n. suc (n / size)) (sym (length-drop size bytes)) in
    ap (λ n. first_chunks size n bytes) one_less

pub entries_in-few : (width : ℕ) (bytes : List ℕ) → length bytes < 16 + width → entries_in width bytes ≡ []
entries_in-few width bytes few = ap (map entry_in) (items_in-few (16 + width) bytes few)

pub entries_in-more : (width : ℕ) (bytes : List ℕ) → 16 + width ≤ length bytes → entries_in width bytes ≡ entry_in (take (16 + width) bytes) ∷ entries_in width (drop (16 + width) bytes)
entries_in-more width bytes enough = ap (map entry_in) (items_in-more (16 + width) bytes (omega arith) enough)

-- the first entry as its label, its cell and the bytes after it
pub entries_in-parts : (width : ℕ) (bytes label behind cell rest : List ℕ) → 16 ≤ length bytes → label ≡ take 16 bytes → behind ≡ drop 16 bytes → width ≤ length behind → cell ≡ take width behind → rest ≡ drop width behind → entries_in width bytes ≡ record { label = label; text = cell } ∷ entries_in width rest
entries_in-parts width bytes label behind cell rest whole is_label is_behind enough is_cell is_rest =
    let long : 16 + width ≤ length bytes = omega (arith, ap length is_behind, length-drop 16 bytes) in
    let front : take 16 (take (16 + width) bytes) ≡ label = take-take 16 (16 + width) bytes (omega arith) ∙ sym is_label in
    let middle : drop 16 (take (16 + width) bytes) ≡ cell = drop-take 16 width bytes ∙ ap (take width) (sym is_behind) ∙ sym is_cell in
    let back : drop (16 + width) bytes ≡ rest = sym (drop-drop width 16 bytes) ∙ ap (drop width) (sym is_behind) ∙ sym is_rest in
    entries_in-more width bytes long ∙ (λ i. record { label = front i; text = middle i } ∷ entries_in width (back i))

-- no entry's label is known: none of them is
none_known : {A : Type 0} (t : A → Bool) (i : ℕ) (x : A) (xs : List A) → position_from t i (x ∷ xs) ≡ None → (t x ≡ false) × (position_from t (i + 1) xs ≡ None)
none_known t i x xs none =
    elim (t x) as (λ b. t x ≡ b → cond b (Some i) (position_from t (i + 1) xs) ≡ None → (b ≡ false) × (position_from t (i + 1) xs ≡ None)) [
      | true ↦ λ is h. cc
      | false ↦ λ is h. (refl, h)
    ] refl none

-- where it begins to count doesn't matter to that
none_from : {A : Type 0} (t u : A → Bool) (i j : ℕ) (xs : List A) → ((k : ℕ) (d : A) → k < length xs → t (get_or xs k d) ≡ false → u (get_or xs k d) ≡ false) → position_from t i xs ≡ None → position_from u j xs ≡ None
none_from t u i j [] less none = refl
none_from t u i j (x ∷ xs) less none =
    let parts = none_known t i x xs none in
    ap (λ b. cond b (Some j) (position_from u (j + 1) xs)) (less 0 x (omega arith) parts.0) ∙ none_from t u (i + 1) (j + 1) xs (λ k d lt. less (suc k) d (omega arith)) parts.1

-- a label is below all those that rise after it
below_later : (label : List ℕ) (es : List Entry) → AllByRecursion (λ y. slice_cmp nat_cmp label y ≡ Less) (labels_of es) → (k : ℕ) (d : Entry) → k < length es → slice_cmp nat_cmp label (get_or es k d).label ≡ Less
below_later label [] below k d lt = absurd (omega arith)
below_later label (e ∷ es) below zero d lt = below.0
below_later label (e ∷ es) below (suc k) d lt = below_later label es below.1 k d (omega arith)

rises_apart : (x : List ℕ) (xs : List (List ℕ)) → Rises (x ∷ xs) → AllByRecursion (λ y. slice_cmp nat_cmp x y ≡ Less) xs × Rises xs
unfolding IsStrictlySortedBy
rises_apart x xs rises = rises

-- a number differs from all those that rise after it
apart_later : (n : List ℕ) (ns : List (List ℕ)) → AllByRecursion (λ y. slice_cmp nat_cmp n y ≡ Less) ns → (k : ℕ) (d : List ℕ) → k < length ns → eq_by_cmp (slice_cmp nat_cmp) (get_or ns k d) n ≡ false
apart_later n [] below k d lt = absurd (omega arith)
apart_later n (x ∷ xs) below zero d lt = ap is_eq (turned nat_list_cmp_total n x Less below.0)
apart_later n (x ∷ xs) below (suc k) d lt = apart_later n xs below.1 k d (omega arith)

-- of numbers that rise and aren't in a set, the later ones aren't in it either once the first is
pub none_revoked_behind : (s : NumberSet) (n : List ℕ) (ns : List (List ℕ)) → position_from (λ x. set.contains s x) 0 (n ∷ ns) ≡ None → Rises (n ∷ ns) → (set.contains s n ≡ false) × (position_from (λ x. set.contains (set.insert s n) x) 0 ns ≡ None) × Rises ns
none_revoked_behind s n ns none rises =
    let apart = rises_apart n ns rises in
    let parts = none_known (λ x. set.contains s x) 0 n ns none in
    let later = none_from (λ x. set.contains s x) (λ x. set.contains (set.insert s n) x) (0 + 1) 0 ns (λ (k : ℕ) (d : List ℕ) (lt : k < length ns) unknown.
    set.contains-insert nat_list_cmp_total s n (get_or ns k d) ∙ ap (λ b. b || set.contains s (get_or ns k d)) (apart_later n ns apart.0 k d lt) ∙ unknown) parts.1 in
    (parts.0, later, apart.1)

-- of numbers that rise and are in a set, the later ones still are once the first is taken out
pub none_missing_behind : (s : NumberSet) (n : List ℕ) (ns : List (List ℕ)) → position_from (λ x. not (set.contains s x)) 0 (n ∷ ns) ≡ None → Rises (n ∷ ns) → (not (set.contains s n) ≡ false) × (position_from (λ x. not (set.contains (set.remove s n) x)) 0 ns ≡ None) × Rises ns
none_missing_behind s n ns none rises =
    let apart = rises_apart n ns rises in
    let parts = none_known (λ x. not (set.contains s x)) 0 n ns none in
    let later = none_from (λ x. not (set.contains s x)) (λ x. not (set.contains (set.remove s n) x)) (0 + 1) 0 ns (λ (k : ℕ) (d : List ℕ) (lt : k < length ns) unknown.
    ap not (set.contains-remove nat_list_cmp_total s n (get_or ns k d) ∙ ap (λ b. not b && set.contains s (get_or ns k d)) (apart_later n ns apart.0 k d lt)) ∙ unknown) parts.1 in
    (parts.0, later, apart.1)

pub is_none : {A : Type 0} (o : Option A) → is_some o ≡ false → o ≡ None
is_none None h = refl
is_none (Some x) h = cc

-- of entries whose labels rise and aren't known, the later ones aren't known either once the first is there
pub none_known_behind : (m : CellMap) (e : Entry) (es : List Entry) → first_known m (e ∷ es) ≡ None → Rises (labels_of (e ∷ es)) → (finmap.get m e.label ≡ None) × (first_known (finmap.insert m e.label e.text) es ≡ None) × Rises (labels_of es)
none_known_behind m e es none rises =
    let apart = rises_apart e.label (labels_of es) rises in
    let parts = none_known (λ x. finmap.contains_key m x.label) 0 e es none in
    let later = none_from (λ x. finmap.contains_key m x.label) (λ x. finmap.contains_key (finmap.insert m e.label e.text) x.label) (0 + 1) 0 es (λ (k : ℕ) (d : Entry) (lt : k < length es) unknown.
    let above = turned nat_list_cmp_total e.label (get_or es k d).label Less (below_later e.label es apart.0 k d lt) in
    ap is_some (finmap.get-insert nat_list_cmp_total m e.label e.text _ ∙ ap (λ r. cond (is_eq r) (Some e.text) (finmap.get m (get_or es k d).label)) above) ∙ unknown) parts.1 in
    (is_none (finmap.get m e.label) parts.0, later, apart.1)

length-first_chunks : {A : Type 0} (size n : ℕ) (xs : List A) → length (first_chunks size n xs) ≡ n
length-first_chunks size zero xs = refl
length-first_chunks size (suc n) xs = ap suc (length-first_chunks size n (drop size xs))

-- as many items as their size goes into the bytes
pub length-items_in : (size : ℕ) (bytes : List ℕ) → length (items_in size bytes) ≡ length bytes / size
length-items_in size bytes = length-first_chunks size (length bytes / size) bytes

-- as many entries as their size goes into the bytes
pub length-entries_in : (width : ℕ) (bytes : List ℕ) → length (entries_in width bytes) ≡ length bytes / (16 + width)
length-entries_in width bytes = length-map (first_chunks (16 + width) (length bytes / (16 + width)) bytes) entry_in ∙ length-first_chunks (16 + width) (length bytes / (16 + width)) bytes
