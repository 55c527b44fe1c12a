-- How many bytes the reply in front has: all, of bytes that are one reply; and of a front that is the reply, as many as of the whole.
use Rattle.std.proofs.Common.{◌≡◌, ℕ, zero, suc, ◌+◌, ◌≤◌, ◌<◌, Bool, true, false, ◌||◌, ◌==◌, List, [], ◌∷◌, ◌++◌, length, length-append, take, nat_lt, Some, None, refl, ap, ◌∙◌, subst, arith}
use Rattle.std.specs.Prelude.{Option, if◌then◌else◌, ◌^◌}
use Rattle.std.specs.Int.{w32, from_be_bytes, to_be_bytes}
use Rattle.std.proofs.Math.Seq.{take-append_seam}
use Rattle.std.proofs.lemmas.Bool.{le-ltb, ltb-false, ne_eqb}
use Rattle.std.proofs.lemmas.List.{length-take-le}
use Rattle.std.proofs.lemmas.Nat.{from_be_bytes-to_be_bytes_4}
use Rattle.sized_replies.specs.Sizes.{size_in_front}

-- the length that stands in front is out of range
abbrev is_odd : (most size : ℕ) → Bool
is_odd most size = (size == 0) || nat_lt most size

-- the size by the length of the bytes and the length that stands in front
abbrev size_by : (most len size : ℕ) → Option ℕ
size_by most len size = if nat_lt len 4 then None else if is_odd most size then Some 4 else if nat_lt len (4 + size) then None else Some (4 + size)

chosen : (short odd cut : Bool) (n : ℕ) → short ≡ false → odd ≡ false → cut ≡ false → (if short then None else if odd then Some 4 else if cut then None else Some n) ≡ Some n
chosen short odd cut n a b c = rw (a, b, c) refl

in_range : (most size : ℕ) → 1 ≤ size → size ≤ most → is_odd most size ≡ false
in_range most size some few = (λ i. ne_eqb size 0 (λ e. omega (arith, e, some)) i || nat_lt most size) ∙ le-ltb most size few

whole_size : (most size : ℕ) → 1 ≤ size → size ≤ most → size_by most (4 + size) size ≡ Some (4 + size)
whole_size most size some few =
    chosen (nat_lt (4 + size) 4) (is_odd most size) (nat_lt (4 + size) (4 + size)) (4 + size) (le-ltb (4 + size) 4 (omega arith)) (in_range most size some few) (le-ltb (4 + size) (4 + size) (omega arith))

-- a body in the range with its length is one reply
pub size_in_front-whole : (most : ℕ) (body : List ℕ) → most < 2 ^ 32 → 1 ≤ length body → length body ≤ most → size_in_front most (to_be_bytes w32 (length body) ++ body) ≡ Some (4 + length body)
size_in_front-whole most body low some few =
    let bytes = to_be_bytes w32 (length body) ++ body in
    let first : from_be_bytes w32 (take 4 bytes) ≡ length body =
    ap (from_be_bytes w32) (take-append_seam (to_be_bytes w32 (length body)) body) ∙ from_be_bytes-to_be_bytes_4 (length body) (omega (arith, low, few)) in
    let long : length bytes ≡ 4 + length body = omega (arith, length-append (to_be_bytes w32 (length body)) body) in
    (λ i. size_by most (long i) (first i)) ∙ whole_size most (length body) some few

-- a size that was found is that of the bytes up to there
module _ (top len size n : ℕ) where
  record IsFront : Type 0 where
    least : 4 ≤ n
    most : n ≤ len
    same : size_by top n size ≡ Some n

  inside : (m : ℕ) → Some m ≡ Some n → m ≡ n
  inside m e = cc

  odd_front : is_odd top size ≡ true → 4 ≤ len → 4 ≡ n → IsFront
  odd_front odd enough is = record {
    least = omega (arith, is);
    most = omega (arith, is, enough);
    same = subst (λ (m : ℕ). size_by top m size ≡ Some m) is (rw odd refl);
  }

  whole_front : is_odd top size ≡ false → 4 + size ≤ len → 4 + size ≡ n → IsFront
  whole_front odd enough is = record {
    least = omega (arith, is);
    most = omega (arith, is, enough);
    same = subst (λ (m : ℕ). size_by top m size ≡ Some m) is
        (chosen (nat_lt (4 + size) 4) (is_odd top size) (nat_lt (4 + size) (4 + size)) (4 + size) (le-ltb (4 + size) 4 (omega arith)) odd (le-ltb (4 + size) (4 + size) (omega arith)));
  }

  front : size_by top len size ≡ Some n → IsFront
  front = by (nat_lt len 4) refl (is_odd top size) refl (nat_lt len (4 + size)) refl
    where
      by : (short : Bool) → nat_lt len 4 ≡ short → (odd : Bool) → is_odd top size ≡ odd → (cut : Bool) → nat_lt len (4 + size) ≡ cut
          → (if short then None else if odd then Some 4 else if cut then None else Some (4 + size)) ≡ Some n → IsFront
      by true a odd b cut c e = absurd (let no : None ≡ Some n = e in cc)
      by false a true b cut c e = odd_front b (ltb-false len 4 a) (inside 4 e)
      by false a false b true c e = absurd (let no : None ≡ Some n = e in cc)
      by false a false b false c e = whole_front b (ltb-false len (4 + size) c) (inside (4 + size) e)

-- the bytes of the reply in front are one reply
pub size_in_front-take : (most : ℕ) (bytes : List ℕ) (n : ℕ) → size_in_front most bytes ≡ Some n → size_in_front most (take n bytes) ≡ Some n
size_in_front-take most bytes n e =
    let f = front most (length bytes) (from_be_bytes w32 (take 4 bytes)) n e in
    (λ i. size_by most (length-take-le n bytes f.most i) (from_be_bytes w32 (take-take 4 n bytes f.least i))) ∙ f.same
  where
    take-take : (k n : ℕ) (xs : List ℕ) → k ≤ n → take k (take n xs) ≡ take k xs
    take-take zero n xs few = refl
    take-take (suc k) zero xs few = absurd (omega (arith, few))
    take-take (suc k) (suc n) [] few = refl
    take-take (suc k) (suc n) (x ∷ xs) few = ap (λ rest. x ∷ rest) (take-take k n xs (omega (arith, few)))
