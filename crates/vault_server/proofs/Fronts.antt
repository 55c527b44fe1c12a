-- Bytes in front of others, and numbers in front.
use Rattle.std.proofs.Common.{◌≡◌, ⊎_elim, ℕ, ◌+◌, ◌*◌, ◌<◌, ◌≤◌, ◌^◌, true, List, [], ◌∷◌, ◌++◌, length, take, drop, refl, sym, ap, ◌∙◌, subst, arith}
use Rattle.std.specs.Prelude.{get_or, nat_le, Result, Ok, Err}
use Rattle.std.specs.Int.{w32, from_be_bytes}
use Rattle.std.proofs.lemmas.Bool.{le-leb}
use Rattle.std.proofs.lemmas.Bool.Decides.{leb_tells}
use Rattle.std.proofs.Math.Dec.{leb}
use Rattle.std.proofs.lemmas.List.{get_or-drop, get_or-take, get_or_past, length-take, length-take-le}
use Rattle.std.proofs.Math.Seq.{take-append_seam, drop-append_seam}
use Rattle.std.proofs.lemmas.Nat.{from_be_bytes-to_be_bytes_4, be_bytes_4}
use Rattle.sse_frames.specs.Frames.{be32, IsBytes}
use Rattle.vault_server.specs.VaultReading.{number_in}

pub front_is : (k : ℕ) (xs ys : List ℕ) → length xs ≡ k → take k (xs ++ ys) ≡ xs
front_is k xs ys e = subst (λ n. take n (xs ++ ys) ≡ xs) e (take-append_seam xs ys)

pub back_is : (k : ℕ) (xs ys : List ℕ) → length xs ≡ k → drop k (xs ++ ys) ≡ ys
back_is k xs ys e = subst (λ n. drop n (xs ++ ys) ≡ ys) e (drop-append_seam xs ys)

pub length-be32 : (n : ℕ) → length (be32 n) ≡ 4
length-be32 n = refl

-- a number in front
pub number_front : (n : ℕ) (rest : List ℕ) → n < 2 ^ 32 → number_in (be32 n ++ rest) ≡ n
number_front n rest small = ap (from_be_bytes w32) (front_is 4 (be32 n) rest (length-be32 n)) ∙ from_be_bytes-to_be_bytes_4 n (omega (arith, small))

pub is_le : (m n : ℕ) → m ≤ n → nat_le m n ≡ true
is_le m n less = le-leb m n less

abbrev pub AreBytes : List ℕ → Type 0
AreBytes bytes = (i : ℕ) → get_or bytes i 0 < 256

pub bytes_behind : (k : ℕ) (xs : List ℕ) → AreBytes xs → AreBytes (drop k xs)
bytes_behind k xs are i = subst (λ b. b < 256) (sym (get_or-drop k xs i 0)) (are (k + i))

pub bytes_before : (k : ℕ) (xs : List ℕ) → AreBytes xs → AreBytes (take k xs)
bytes_before k xs are i =
    ⊎_elim (λ (le : (leb k i ≡ true) × (k ≤ i)).
    subst (λ b. b < 256) (sym (get_or_past (take k xs) i 0 (omega (arith, length-take k xs, le.1)))) (omega arith))
    (λ gt. subst (λ b. b < 256) (sym (get_or-take k xs i 0 gt.1)) (are i)) (leb_tells k i)

-- a number in front is its four bytes
pub number_bytes : (rest : List ℕ) → AreBytes rest → 4 ≤ length rest → be32 (number_in rest) ≡ take 4 rest
number_bytes rest are long = be_bytes_4 (take 4 rest) (number_in rest) (length-take-le 4 rest long) (bytes_before 4 rest are) refl

-- the first k bytes
pub first_bytes : (k : ℕ) (bytes : List ℕ) → AreBytes bytes → k ≤ length bytes → IsBytes k (take k bytes)
first_bytes k bytes are long = record { size_is = length-take-le k bytes long; each = bytes_before k bytes are }

pub ok_inside : {A E : Type 0} (x y : A) → ◌≡◌ {A = Result A E} (Ok x) (Ok y) → x ≡ y
ok_inside x y e = cc

pub no_value : {A E B : Type 0} (fault : E) (x : A) → Err fault ≡ Ok x → B
no_value fault x e = absurd (let no : Err fault ≡ Ok x = e in cc)

pub no_bytes : (xs : List ℕ) → length xs ≡ 0 → xs ≡ []
no_bytes [] e = refl
no_bytes (x ∷ xs) e = absurd (omega (arith, e))

-- a number of four bytes
fits_4 : (bytes : List ℕ) (n : ℕ) → ((i : ℕ) → get_or bytes i 0 < 256) → n ≡ from_be_bytes w32 bytes → n < 2 ^ 32
fits_4 bytes n small is =
    let sum : n ≡ get_or bytes 3 0 + get_or bytes 2 0 * 256 + get_or bytes 1 0 * 65536 + get_or bytes 0 0 * 16777216 = omega (arith, is) in
    omega (arith, sum, small 0, small 1, small 2, small 3)

pub number_fits : (rest : List ℕ) → AreBytes rest → number_in rest < 2 ^ 32
number_fits rest are = fits_4 (take 4 rest) (number_in rest) (bytes_before 4 rest are) refl
