-- The laws of numbers as bytes.
use Rattle.std.proofs.Common.{◌≡◌, ℕ, zero, suc, ◌+◌, ◌-◌, ◌*◌, ◌/◌, ◌%◌, ◌^◌, ◌<◌, ◌≤◌, List, [], ◌∷◌, ◌++◌, length, take, drop, map, replicate, get_or, slice_index, refl, sym, ap, lit<, ◌∙◌, arith, length-append, All}
use Rattle.std.specs.Int.{w64, to_be_bytes, from_be_bytes, div_ceil}
use Rattle.std.proofs.lemmas.List.{append-nil, length-map, length-take-le, ext_get_or, get_or-take, take-take, drop-take, get_or-map, replicate-append-replicate, take_more}
use Rattle.std.proofs.lemmas.List.Concat.{flat_map-append}
use Rattle.std.proofs.lemmas.List.Elements.{All-head, All-tail}
use Rattle.std.proofs.lemmas.Nat.{from_be_bytes-to_be_bytes_8}
use Rattle.std.proofs.lemmas.Grind.{div_ceil_times}
use Rattle.list_packing.specs.Numbers.{number_bytes, numbers_of}
use Rattle.list_packing.specs.Parts.{parts, filled}
use Rattle.list_packing.proofs.PartsLemmas.{length-parts, parts-flat_map, parts-at, div_ceil-mul}

-- ---- numbers written

pub length-number_bytes : (numbers : List ℕ) → length (number_bytes numbers) ≡ 8 * length numbers
length-number_bytes [] = refl
length-number_bytes (n ∷ ns) = omega (arith, length-append (to_be_bytes w64 n) (number_bytes ns), length-number_bytes ns)

-- the number at i after the bytes of those before it
pub number_bytes-more : (numbers : List ℕ) (i : ℕ) → i < length numbers
    → number_bytes (take (i + 1) numbers) ≡ number_bytes (take i numbers) ++ to_be_bytes w64 (get_or numbers i 0)
number_bytes-more numbers i within =
    ap number_bytes (take_more numbers i 0 within)
    ∙ flat_map-append (to_be_bytes w64) (take i numbers) (get_or numbers i 0 ∷ [])
    ∙ ap (λ bytes. number_bytes (take i numbers) ++ bytes) (append-nil (to_be_bytes w64 (get_or numbers i 0)))

-- zeros as bytes
pub number_bytes-replicate : (n : ℕ) → number_bytes (replicate n 0) ≡ replicate (8 * n) 0
number_bytes-replicate zero = refl
number_bytes-replicate (suc n) =
    let eight_more : 8 + 8 * n ≡ 8 * suc n = omega arith in
    ap (λ bytes. to_be_bytes w64 0 ++ bytes) (number_bytes-replicate n)
    ∙ replicate-append-replicate 8 (8 * n) 0
    ∙ ap (λ k. replicate k 0) eight_more

-- numbers and the zeros after them, as bytes and the zeros after those
pub number_bytes-filled : (width : ℕ) (numbers : List ℕ)
    → number_bytes (filled width numbers) ≡ number_bytes numbers ++ replicate (8 * width - 8 * length numbers) 0
number_bytes-filled width numbers =
    let room : 8 * (width - length numbers) ≡ 8 * width - 8 * length numbers = omega arith in
    flat_map-append (to_be_bytes w64) numbers (replicate (width - length numbers) 0)
    ∙ ap (λ bytes. number_bytes numbers ++ bytes)
    (number_bytes-replicate (width - length numbers) ∙ ap (λ k. replicate k 0) room)

-- ---- numbers read

-- whole numbers, so many
pub length-numbers_of : (bytes : List ℕ) → length bytes % 8 ≡ 0 → length (numbers_of bytes) ≡ length bytes / 8
length-numbers_of bytes whole =
    let eights : length bytes / 8 * 8 ≡ length bytes = omega arith in
    length-map (parts 8 bytes) (from_be_bytes w64) ∙ length-parts 8 bytes
    ∙ ap (λ n. div_ceil n 8) (sym eights) ∙ div_ceil-mul (length bytes / 8) 8 (lit< tt)

-- the number at place i is that of its eight bytes
pub numbers_of-at : (bytes : List ℕ) (i : ℕ) → 8 * i + 8 ≤ length bytes
    → slice_index (numbers_of bytes) i ≡ from_be_bytes w64 (take 8 (drop (8 * i) bytes))
numbers_of-at bytes i within =
    let enough : length bytes ≤ div_ceil (length bytes) 8 * 8 = (div_ceil_times (length bytes) 8 (lit< tt)).0 in
    let there : i < div_ceil (length bytes) 8 = omega (arith, enough) in
    let inside : i < length (parts 8 bytes) = omega (arith, length-parts 8 bytes, there) in
    let times : i * 8 ≡ 8 * i = omega arith in
    get_or-map (from_be_bytes w64) (parts 8 bytes) i [] 0 inside
    ∙ ap (from_be_bytes w64) (parts-at 8 bytes i there ∙ ap (λ k. take 8 (drop k bytes)) times)

read_back : (numbers : List ℕ) → All (λ n. n < 2 ^ 64) numbers → map (from_be_bytes w64) (map (to_be_bytes w64) numbers) ≡ numbers
read_back [] form = refl
read_back (n ∷ ns) form =
    rw (from_be_bytes-to_be_bytes_8 n (All-head (λ m. m < 2 ^ 64) n ns form))
    (ap (λ later. n ∷ later) (read_back ns (All-tail (λ m. m < 2 ^ 64) n ns form)))

-- numbers written as bytes are read back
pub numbers_of-number_bytes : (numbers : List ℕ) → All (λ n. n < 2 ^ 64) numbers → numbers_of (number_bytes numbers) ≡ numbers
numbers_of-number_bytes numbers form =
    ap (map (from_be_bytes w64)) (parts-flat_map (to_be_bytes w64) 8 numbers (lit< tt) (λ n. refl)) ∙ read_back numbers form

-- the first numbers are those of the first bytes
pub numbers_of-take : (bytes : List ℕ) (count : ℕ) → length bytes % 8 ≡ 0 → 8 * count ≤ length bytes
    → numbers_of (take (8 * count) bytes) ≡ take count (numbers_of bytes)
numbers_of-take bytes count whole within =
    let some : length (take (8 * count) bytes) ≡ 8 * count = length-take-le (8 * count) bytes within in
    let eights : length (take (8 * count) bytes) % 8 ≡ 0 = omega (arith, some) in
    let left : length (numbers_of (take (8 * count) bytes)) ≡ count = omega (arith, length-numbers_of (take (8 * count) bytes) eights, some) in
    let right : length (take count (numbers_of bytes)) ≡ count = length-take-le count (numbers_of bytes) (omega (arith, length-numbers_of bytes whole, within)) in
    ext_get_or 0 (numbers_of (take (8 * count) bytes)) (take count (numbers_of bytes)) (left ∙ sym right)
    (λ i inside.
    let before : i < count = omega (arith, left, inside) in
    let end : 8 * count ≡ 8 * i + (8 * count - 8 * i) = omega arith in
    let eight : 8 ≤ 8 * count - 8 * i = omega arith in
    let same : take 8 (drop (8 * i) (take (8 * count) bytes)) ≡ take 8 (drop (8 * i) bytes) =
    ap (λ n. take 8 (drop (8 * i) (take n bytes))) end
    ∙ ap (take 8) (drop-take (8 * i) (8 * count - 8 * i) bytes)
    ∙ take-take 8 (8 * count - 8 * i) (drop (8 * i) bytes) eight in
    numbers_of-at (take (8 * count) bytes) i (omega (arith, some, before))
    ∙ ap (from_be_bytes w64) same
    ∙ sym (numbers_of-at bytes i (omega (arith, within, before)))
    ∙ sym (get_or-take count (numbers_of bytes) i 0 before))
