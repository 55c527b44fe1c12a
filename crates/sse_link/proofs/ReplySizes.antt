-- How many bytes the reply in front has: all, of bytes that are one reply; and of a front that is the reply, as many as of the whole.
use Rattle.std.proofs.Common.{◌≡◌, ℕ, zero, suc, ◌+◌, ◌≤◌, Bool, true, false, ◌||◌, ◌==◌, List, [], ◌∷◌, ◌++◌, length, take, nat_lt, Some, None, refl, sym, ap, ◌∙◌, subst, arith}
use Rattle.std.specs.Prelude.{Option, if◌then◌else◌}
use Rattle.std.specs.Int.{w32, from_be_bytes}
use Rattle.std.proofs.Math.Seq.{take-append_seam}
use Rattle.std.proofs.lemmas.Bool.{le-ltb, ltb-false, ne_eqb}
use Rattle.std.proofs.lemmas.List.{length-take-le}
use Rattle.std.proofs.lemmas.Nat.{from_be_bytes-to_be_bytes_4}
use Rattle.sse_frames.specs.Frames.{be32}
use Rattle.sse_frames.specs.Replies.{ReplyText, reply_body, reply_bytes}
use Rattle.sse_link.specs.Scripted.{reply_size}

-- the length that stands in front is out of range
abbrev is_odd : ℕ → Bool
is_odd size = (size == 0) || nat_lt 65540 size

-- the size by the length of the bytes and the length that stands in front
abbrev size_by : (len size : ℕ) → Option ℕ
size_by len size = if nat_lt len 4 then None else if is_odd size then Some 4 else if nat_lt len (4 + size) then None else Some (4 + size)

chosen : (short odd cut : Bool) (n : ℕ) → short ≡ false → odd ≡ false → cut ≡ false → (if short then None else if odd then Some 4 else if cut then None else Some n) ≡ Some n
chosen short odd cut n a b c = rw (a, b, c) refl

in_range : (size : ℕ) → 1 ≤ size → size ≤ 65540 → is_odd size ≡ false
in_range size some most = (λ i. ne_eqb size 0 (λ e. omega (arith, e, some)) i || nat_lt 65540 size) ∙ le-ltb 65540 size most

whole_size : (size : ℕ) → 1 ≤ size → size ≤ 65540 → size_by (4 + size) size ≡ Some (4 + size)
whole_size size some most =
    chosen (nat_lt (4 + size) 4) (is_odd size) (nat_lt (4 + size) (4 + size)) (4 + size) (le-ltb (4 + size) 4 (omega arith)) (in_range size some most) (le-ltb (4 + size) (4 + size) (omega arith))

-- a reply that was written in front of other bytes is one reply
pub one_reply : (r : ReplyText) (n : ℕ) (new rest : List ℕ) → new ≡ reply_bytes r ++ rest → n ≡ length (reply_bytes r) → 5 ≤ n → n ≤ 65544 → reply_size (take n new) ≡ Some n
one_reply r n new rest written len least most =
    let body : ℕ = length (reply_body r) in
    let bytes : take n new ≡ reply_bytes r = (λ i. take (len i) (written i)) ∙ take-append_seam (reply_bytes r) rest in
    let total : n ≡ 4 + body = omega (arith, len) in
    let first : from_be_bytes w32 (take 4 (reply_bytes r)) ≡ body =
    ap (from_be_bytes w32) (take-append_seam (be32 body) (reply_body r)) ∙ from_be_bytes-to_be_bytes_4 body (omega (arith, total, most)) in
    ap reply_size bytes
    ∙ (λ i. size_by ((sym len ∙ total) i) (first i))
    ∙ whole_size body (omega (arith, total, least)) (omega (arith, total, most))
    ∙ ap (λ m. Some m) (sym total)

-- a size that was found is that of the bytes up to there
module _ (len size n : ℕ) where
  record IsFront : Type 0 where
    least : 4 ≤ n
    most : n ≤ len
    same : size_by n size ≡ Some n

  inside : (m : ℕ) → Some m ≡ Some n → m ≡ n
  inside m e = cc

  odd_front : is_odd size ≡ true → 4 ≤ len → 4 ≡ n → IsFront
  odd_front odd enough is = record {
    least = omega (arith, is);
    most = omega (arith, is, enough);
    same = subst (λ (m : ℕ). size_by m size ≡ Some m) is (rw odd refl);
  }

  whole_front : is_odd size ≡ false → 4 + size ≤ len → 4 + size ≡ n → IsFront
  whole_front odd enough is = record {
    least = omega (arith, is);
    most = omega (arith, is, enough);
    same = subst (λ (m : ℕ). size_by m size ≡ Some m) is
        (chosen (nat_lt (4 + size) 4) (is_odd size) (nat_lt (4 + size) (4 + size)) (4 + size) (le-ltb (4 + size) 4 (omega arith)) odd (le-ltb (4 + size) (4 + size) (omega arith)));
  }

  front : size_by len size ≡ Some n → IsFront
  front = by (nat_lt len 4) refl (is_odd size) refl (nat_lt len (4 + size)) refl
    where
      by : (short : Bool) → nat_lt len 4 ≡ short → (odd : Bool) → is_odd size ≡ odd → (cut : Bool) → nat_lt len (4 + size) ≡ cut
          → (if short then None else if odd then Some 4 else if cut then None else Some (4 + size)) ≡ Some n → IsFront
      by true a odd b cut c e = absurd (let no : None ≡ Some n = e in cc)
      by false a true b cut c e = odd_front b (ltb-false len 4 a) (inside 4 e)
      by false a false b true c e = absurd (let no : None ≡ Some n = e in cc)
      by false a false b false c e = whole_front b (ltb-false len (4 + size) c) (inside (4 + size) e)

-- the bytes of the reply in front are one reply
pub reply_size-take : (bytes : List ℕ) (n : ℕ) → reply_size bytes ≡ Some n → reply_size (take n bytes) ≡ Some n
reply_size-take bytes n e =
    let f = front (length bytes) (from_be_bytes w32 (take 4 bytes)) n e in
    (λ i. size_by (length-take-le n bytes f.most i) (from_be_bytes w32 (take-take 4 n bytes f.least i))) ∙ f.same
  where
    take-take : (k n : ℕ) (xs : List ℕ) → k ≤ n → take k (take n xs) ≡ take k xs
    take-take zero n xs few = refl
    take-take (suc k) zero xs few = absurd (omega (arith, few))
    take-take (suc k) (suc n) [] few = refl
    take-take (suc k) (suc n) (x ∷ xs) few = ap (λ rest. x ∷ rest) (take-take k n xs (omega (arith, few)))
