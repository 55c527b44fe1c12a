-- Labels and revocation numbers whose fields stand rise.
use Rattle.std.proofs.Common.{◌≡◌, ℕ, zero, suc, ◌+◌, ◌-◌, ◌≤◌, Bool, true, false, ◌||◌, List, [], ◌∷◌, map, take, drop, None, refl, sym, ap, subst, ◌∙◌, arith}
use Rattle.std.specs.List.{AllByRecursion}
use Rattle.std.specs.Simd.{first_chunks}
use Rattle.std.specs.Ordering.{nat_cmp, is_lt}
use Rattle.std.specs.List.Sorted.{IsStrictlySortedBy}
use Rattle.std.specs.Cmp.Lexicographic.{slice_cmp, nat_list_cmp_total}
use Rattle.std.specs.declared.cmp.Ordering.{Ordering}
use Rattle.std.specs.declared.cmp.Ordering.TheVariants.{Less, Equal, Greater}
use Rattle.std.proofs.lemmas.Bool.{and_parts}
use Rattle.std.proofs.lemmas.List.{take-take, take_all, drop-drop}
use Rattle.sse_frames.specs.Frames.{IsBytes, Rises, labels_of}
use Rattle.sse_frames.specs.FrameViews.{items_in, entry_in, entries_in}
use Rattle.sse_frames.specs.Fields.{bytes_at, is_whole, is_above, rising_field, bytes_field, entry_fields, number_fields, first_fault}
use Rattle.sse_frames.proofs.Faults.{stands_first}

Less-from_is_lt : (o : Ordering) → is_lt o ≡ true → o ≡ Less
Less-from_is_lt Less e = refl
Less-from_is_lt Equal e = absurd cc
Less-from_is_lt Greater e = absurd cc

or_false : (a b : Bool) → (a || b) ≡ true → a ≡ false → b ≡ true
or_false true b e f = absurd cc
or_false false b e f = e

-- the order of labels and revocation numbers
abbrev IsBelow : List ℕ → List ℕ → Type 0
IsBelow x y = slice_cmp nat_cmp x y ≡ Less

-- the 16 bytes at the front of each of so many items from a place on
abbrev keys_at : (size count place : ℕ) (body : List ℕ) → List (List ℕ)
keys_at size zero place body = []
keys_at size (suc count) place body = bytes_at place 16 body ∷ keys_at size count (place + size) body

-- each of them is above the one before it; the first, too, unless it is the first of all
abbrev Above : (first : Bool) (size count place : ℕ) (body : List ℕ) → Type 0
Above first size zero place body = Unit {0}
Above first size (suc count) place body =
    (first ≡ false → IsBelow (bytes_at (place - size) 16 body) (bytes_at place 16 body)) × Above false size count (place + size) body

one_above : (first : Bool) (size place : ℕ) (body : List ℕ) → (rising_field first size place).stands body ≡ true → first ≡ false → IsBelow (bytes_at (place - size) 16 body) (bytes_at place 16 body)
one_above first size place body stands later =
    let parts = and_parts (is_whole place 16 body) (first || is_above place size body) stands in
    Less-from_is_lt _ (or_false first (is_above place size body) parts.1 later)

entries_above : (first : Bool) (width count place : ℕ) (body : List ℕ) → first_fault (entry_fields first width count place) body ≡ None → Above first (16 + width) count place body
entries_above first width zero place body e = tt
entries_above first width (suc count) place body e =
    let rest = entry_fields false width count (place + (16 + width)) in
    let label = stands_first (rising_field first (16 + width) place) (bytes_field width (place + 16) ∷ rest) body e in
    let text = stands_first (bytes_field width (place + 16)) rest body label.1 in
    (one_above first (16 + width) place body label.0, entries_above false width count (place + (16 + width)) body text.1)

numbers_above : (first : Bool) (count place : ℕ) (body : List ℕ) → first_fault (number_fields first count place) body ≡ None → Above first 16 count place body
numbers_above first zero place body e = tt
numbers_above first (suc count) place body e =
    let number = stands_first (rising_field first 16 place) (number_fields false count (place + 16)) body e in
    (one_above first 16 place body number.0, numbers_above false count (place + 16) body number.1)

below_all : (x y : List ℕ) (more : List (List ℕ)) → IsBelow x y → AllByRecursion (IsBelow y) more → AllByRecursion (IsBelow x) more
below_all x y [] lt all = tt
below_all x y (z ∷ more) lt all = (nat_list_cmp_total.trans x y z lt all.0, below_all x y more lt all.1)

-- one more in front
Rises-cons : (x y : List ℕ) (more : List (List ℕ)) → IsBelow x y → Rises (y ∷ more) → Rises (x ∷ y ∷ more)
unfolding IsStrictlySortedBy
Rises-cons x y more lt rises = ((lt, below_all x y more lt rises.0), rises)

Rises-one : (x : List ℕ) → Rises (x ∷ [])
unfolding IsStrictlySortedBy
Rises-one x = (tt, tt)

Rises-none : Rises []
unfolding IsStrictlySortedBy
Rises-none = tt

rises_behind : (size count place before : ℕ) (body : List ℕ) → before + size ≡ place → Above false size count place body → Rises (bytes_at before 16 body ∷ keys_at size count place body)
rises_behind size zero place before body behind above = Rises-one _
rises_behind size (suc count) place before body behind above =
    let back : place - size ≡ before = omega arith in
    let lt : IsBelow (bytes_at before 16 body) (bytes_at place 16 body) = subst (λ (p : ℕ). IsBelow (bytes_at p 16 body) (bytes_at place 16 body)) back (above.0 refl) in
    Rises-cons _ _ _ lt (rises_behind size count (place + size) place body refl above.1)

keys_rise : (size count place : ℕ) (body : List ℕ) → Above true size count place body → Rises (keys_at size count place body)
keys_rise size zero place body above = Rises-none
keys_rise size (suc count) place body above = rises_behind size count (place + size) place body refl above.1

keys_are : (size count place : ℕ) (body : List ℕ) → 16 ≤ size → map (take 16) (first_chunks size count (drop place body)) ≡ keys_at size count place body
keys_are size zero place body le = refl
keys_are size (suc count) place body le =
    let first : take 16 (take size (drop place body)) ≡ bytes_at place 16 body = take-take 16 size (drop place body) le in
    let rest : map (take 16) (first_chunks size count (drop size (drop place body))) ≡ keys_at size count (place + size) body =
    ap (λ (bytes : List ℕ). map (take 16) (first_chunks size count bytes)) (drop-drop size place body) ∙ keys_are size count (place + size) body le in
    λ i. first i ∷ rest i

labels_are : (pieces : List (List ℕ)) → labels_of (map entry_in pieces) ≡ map (take 16) pieces
labels_are [] = refl
labels_are (piece ∷ pieces) = ap (λ (labels : List (List ℕ)). take 16 piece ∷ labels) (labels_are pieces)

numbers_are : (pieces : List (List ℕ)) → AllByRecursion (IsBytes 16) pieces → map (take 16) pieces ≡ pieces
numbers_are [] all = refl
numbers_are (piece ∷ pieces) all =
    let first : take 16 piece ≡ piece = take_all 16 piece (omega (arith, all.0.size_is)) in
    let rest = numbers_are pieces all.1 in
    λ i. first i ∷ rest i

-- the labels of entries that are cut out of the body from a place on
pub entries_rise : (width count place : ℕ) (body entries : List ℕ) → first_fault (entry_fields true width count place) body ≡ None → items_in (16 + width) entries ≡ first_chunks (16 + width) count (drop place body)
    → Rises (labels_of (entries_in width entries))
entries_rise width count place body entries none same =
    subst Rises (sym (labels_are (items_in (16 + width) entries) ∙ ap (map (take 16)) same ∙ keys_are (16 + width) count place body (omega arith)))
    (keys_rise (16 + width) count place body (entries_above true width count place body none))

-- revocation numbers that are cut out of the body from a place on
pub numbers_rise : (count place : ℕ) (body numbers : List ℕ) → first_fault (number_fields true count place) body ≡ None → items_in 16 numbers ≡ first_chunks 16 count (drop place body) → AllByRecursion (IsBytes 16) (items_in 16 numbers)
    → Rises (items_in 16 numbers)
numbers_rise count place body numbers none same each =
    subst Rises (sym (sym (numbers_are (items_in 16 numbers) each) ∙ ap (map (take 16)) same ∙ keys_are 16 count place body (omega arith)))
    (keys_rise 16 count place body (numbers_above true count place body none))
