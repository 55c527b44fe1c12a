-- The laws of parts and blocks.
use Rattle.std.proofs.Common.{◌≡◌, ℕ, zero, suc, ◌+◌, ◌-◌, ◌*◌, ◌<◌, ◌≤◌, List, [], ◌∷◌, ◌++◌, length, take, drop, map, replicate, get_or, refl, sym, ap, ◌∙◌, arith, length-append, length-drop, length-take, All, inl, inr}
use Rattle.std.specs.Prelude.{flat_map}
use Rattle.std.specs.Int.{div_ceil}
use Rattle.std.specs.Simd.{first_chunks}
use Rattle.std.proofs.Math.Nat.{lt_of_mul-lt-mul_right, le_of_mul-le-mul_left}
use Rattle.std.proofs.Math.Seq.{take-append_seam, drop-append_seam}
use Rattle.std.proofs.lemmas.List.{get_or_past, length-map, length-replicate, take-append-drop, get_or-map, drop-drop}
use Rattle.std.proofs.lemmas.List.Elements.{All-nil, All-cons, All-take, All-drop, All-append, All-replicate, All-map, All-weaker}
use Rattle.std.proofs.lemmas.Bool.{cases_lt}
use Rattle.std.proofs.lemmas.Grind.{div_ceil_times}
use Rattle.list_packing.specs.Parts.{parts, filled, blocks}

-- ---- the parts are the list

-- chunks that reach to the end of a list, joined, are the list
joined-first_chunks : {X : Type 0} (width count : ℕ) (xs : List X) → length xs ≤ count * width
    → flat_map (λ part. part) (first_chunks width count xs) ≡ xs
joined-first_chunks width zero [] enough = refl
joined-first_chunks width zero (x ∷ xs) enough = absurd (omega arith)
joined-first_chunks width (suc n) xs enough =
    let left : length (drop width xs) ≤ n * width = omega (arith, length-drop width xs) in
    ap (λ later. take width xs ++ later) (joined-first_chunks width n (drop width xs) left) ∙ take-append-drop width xs

-- the parts, joined, are the list
pub joined-parts : {X : Type 0} (width : ℕ) (xs : List X) → 0 < width → flat_map (λ part. part) (parts width xs) ≡ xs
joined-parts width xs some =
    joined-first_chunks width (div_ceil (length xs) width) xs (div_ceil_times (length xs) width some).0

-- ---- how many parts there are

length-first_chunks : {X : Type 0} (width count : ℕ) (xs : List X) → length (first_chunks width count xs) ≡ count
length-first_chunks width zero xs = refl
length-first_chunks width (suc n) xs = ap (λ (k : ℕ). suc k) (length-first_chunks width n (drop width xs))

pub length-parts : {X : Type 0} (width : ℕ) (xs : List X) → length (parts width xs) ≡ div_ceil (length xs) width
length-parts width xs = length-first_chunks width (div_ceil (length xs) width) xs

pub length-blocks : (width : ℕ) (numbers : List ℕ) → length (blocks width numbers) ≡ div_ceil (length numbers) width
length-blocks width numbers = length-map (parts width numbers) (filled width) ∙ length-parts width numbers

quotient-le : (q n width m : ℕ) → q * width < n + width → n ≤ m * width → q ≤ m
quotient-le q n width m below fits = omega (arith, lt_of_mul-lt-mul_right width {m = q} {n = suc m} (omega arith))

-- what fits m parts has at most m
pub div_ceil-le : (n width m : ℕ) → 0 < width → n ≤ m * width → div_ceil n width ≤ m
div_ceil-le n width m some fits = quotient-le (div_ceil n width) n width m (div_ceil_times n width some).1 fits

quotient-eq : (q m width : ℕ) → 0 < width → q ≤ m → m * width ≤ q * width → q ≡ m
quotient-eq q m width some within enough =
    let back : m ≤ q = le_of_mul-le-mul_left {m = m} {n = q} {k = width} (omega arith) some in
    omega arith

-- m full parts are m
pub div_ceil-mul : (m width : ℕ) → 0 < width → div_ceil (m * width) width ≡ m
div_ceil-mul m width some =
    quotient-eq (div_ceil (m * width) width) m width some (div_ceil-le (m * width) width m some (omega arith)) (div_ceil_times (m * width) width some).0

-- ---- what stands in the parts

first_chunks-at : {X : Type 0} (width count i : ℕ) (xs : List X) → i < count
    → get_or (first_chunks width count xs) i [] ≡ take width (drop (i * width) xs)
first_chunks-at width zero i xs within = absurd (omega arith)
first_chunks-at width (suc n) zero xs within =
    let start : 0 ≡ 0 * width = omega arith in
    ap (λ k. take width (drop k xs)) start
first_chunks-at width (suc n) (suc i) xs within =
    let next : width + i * width ≡ suc i * width = omega arith in
    first_chunks-at width n i (drop width xs) (omega arith)
    ∙ ap (take width) (drop-drop (i * width) width xs ∙ ap (λ k. drop k xs) next)

-- part i begins after the i parts before it
pub parts-at : {X : Type 0} (width : ℕ) (xs : List X) (i : ℕ) → i < div_ceil (length xs) width
    → get_or (parts width xs) i [] ≡ take width (drop (i * width) xs)
parts-at width xs i within = first_chunks-at width (div_ceil (length xs) width) i xs within

-- block i is part i, filled up
pub blocks-part : (width : ℕ) (numbers : List ℕ) (i : ℕ) (part : List ℕ) → i < div_ceil (length numbers) width
    → part ≡ get_or (parts width numbers) i [] → get_or (blocks width numbers) i [] ≡ filled width part
blocks-part width numbers i part within is =
    get_or-map (filled width) (parts width numbers) i [] [] (omega (arith, length-parts width numbers, within))
    ∙ ap (filled width) (sym is)

first_chunks-within : {X : Type 0} (width count : ℕ) (xs : List X) → All (λ part. length part ≤ width) (first_chunks width count xs)
first_chunks-within width zero xs = All-nil (λ part. length part ≤ width)
first_chunks-within {X} width (suc n) xs =
    All-cons (λ (part : List X). length part ≤ width) (take width xs) (first_chunks width n (drop width xs)) (omega (arith, length-take width xs))
    (first_chunks-within width n (drop width xs))

-- no part is longer than the width
pub parts-within : {X : Type 0} (width : ℕ) (xs : List X) → All (λ part. length part ≤ width) (parts width xs)
parts-within width xs = first_chunks-within width (div_ceil (length xs) width) xs

pub part-within : {X : Type 0} (width : ℕ) (xs : List X) (i : ℕ) (part : List X) → part ≡ get_or (parts width xs) i [] → length part ≤ width
part-within {X} width xs i part is = rw is (one (parts width xs) i (parts-within width xs))
  where
    one : (ps : List (List X)) (k : ℕ) → All (λ p. length p ≤ width) ps → length (get_or ps k []) ≤ width
    one ps k each =
        elim (cases_lt k (length ps)) [
          | inl lt ↦ each k [] lt
          | inr ge ↦ rw (get_or_past ps k [] ge) (omega arith)
        ]

All-first_chunks : {X : Type 0} (P : X → Type 0) (width count : ℕ) (xs : List X) → All P xs → All (All P) (first_chunks width count xs)
All-first_chunks P width zero xs form = All-nil (All P)
All-first_chunks P width (suc n) xs form =
    All-cons (All P) (take width xs) (first_chunks width n (drop width xs)) (All-take P width xs form)
    (All-first_chunks P width n (drop width xs) (All-drop P width xs form))

-- what holds of each element holds of those of each part
pub All-parts : {X : Type 0} (P : X → Type 0) (width : ℕ) (xs : List X) → All P xs → All (All P) (parts width xs)
All-parts P width xs form = All-first_chunks P width (div_ceil (length xs) width) xs form

pub length-filled : (width : ℕ) (numbers : List ℕ) → length numbers ≤ width → length (filled width numbers) ≡ width
length-filled width numbers fits =
    omega (arith, length-append numbers (replicate (width - length numbers) 0), length-replicate {A = ℕ} (width - length numbers) 0)

pub All-filled : (P : ℕ → Type 0) (width : ℕ) (numbers : List ℕ) → P 0 → All P numbers → All P (filled width numbers)
All-filled P width numbers at_zero form =
    All-append P numbers (replicate (width - length numbers) 0) form (All-replicate P (width - length numbers) 0 at_zero)

-- each block has the width
pub blocks-width : (width : ℕ) (numbers : List ℕ) → All (λ block. length block ≡ width) (blocks width numbers)
blocks-width width numbers =
    All-map (λ block. length block ≡ width) (filled width) (parts width numbers)
    (All-weaker (λ part. length part ≤ width) (λ part. length (filled width part) ≡ width) (λ part fits. length-filled width part fits) (parts width numbers)
    (parts-within width numbers))

pub All-blocks : (P : ℕ → Type 0) (width : ℕ) (numbers : List ℕ) → P 0 → All P numbers → All (All P) (blocks width numbers)
All-blocks P width numbers at_zero form =
    All-map (All P) (filled width) (parts width numbers)
    (All-weaker (All P) (λ part. All P (filled width part)) (λ part each. All-filled P width part at_zero each) (parts width numbers)
    (All-parts P width numbers form))

-- ---- a list made of pieces of one width

length-pieces : {X A : Type 0} (f : X → List A) (width : ℕ) (xs : List X) → ((x : X) → length (f x) ≡ width)
    → length (flat_map f xs) ≡ length xs * width
length-pieces f width [] sized = omega arith
length-pieces f width (x ∷ xs) sized =
    omega (arith, length-append (f x) (flat_map f xs), sized x, length-pieces f width xs sized)

first_chunks-pieces : {X A : Type 0} (f : X → List A) (width : ℕ) (xs : List X) → ((x : X) → length (f x) ≡ width)
    → first_chunks width (length xs) (flat_map f xs) ≡ map f xs
first_chunks-pieces f width [] sized = refl
first_chunks-pieces f width (x ∷ xs) sized =
    let front : take width (f x ++ flat_map f xs) ≡ f x =
    ap (λ k. take k (f x ++ flat_map f xs)) (sym (sized x)) ∙ take-append_seam (f x) (flat_map f xs) in
    let rest : drop width (f x ++ flat_map f xs) ≡ flat_map f xs =
    ap (λ k. drop k (f x ++ flat_map f xs)) (sym (sized x)) ∙ drop-append_seam (f x) (flat_map f xs) in
    rw (front, rest) (ap (λ later. f x ∷ later) (first_chunks-pieces f width xs sized))

-- cut at their width, pieces are themselves
pub parts-flat_map : {X A : Type 0} (f : X → List A) (width : ℕ) (xs : List X) → 0 < width → ((x : X) → length (f x) ≡ width)
    → parts width (flat_map f xs) ≡ map f xs
parts-flat_map f width xs some sized =
    ap (λ count. first_chunks width count (flat_map f xs))
    (ap (λ n. div_ceil n width) (length-pieces f width xs sized) ∙ div_ceil-mul (length xs) width some)
    ∙ first_chunks-pieces f width xs sized
