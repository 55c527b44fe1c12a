-- Bytes that were read in pieces.
use Rattle.std.proofs.Common.{◌≡◌, inl, inr, ℕ, ◌+◌, List, ◌++◌, length, length-append, take, None, Some, Ok, Err, arith, refl, sym, ap, subst, ◌∙◌, append_assoc}
use Rattle.std.specs.Prelude.{OnErr, ◌<◌, ◌≤◌, ◌==◌, ◌||◌, Bool, true, false, nat_lt, if◌then◌else◌}
use Rattle.std.specs.Int.{w32, from_be_bytes}
use Rattle.std.proofs.lemmas.Bool.{le-ltb, lt-ltb, ne_eqb}
use Rattle.std.proofs.Math.Seq.{take-append_seam}
use Rattle.std.specs.declared.option.Option.{Option}
use Rattle.std.specs.declared.result.Result.{Result}
use Rattle.std.specs.Io.KnownBytes.{prepend_known}
use Rattle.std.proofs.Math.Seq.{take-append-add, take-append_seam}
use Rattle.sse_outside.specs.Causes.{Rose}
use Rattle.sized_replies.specs.Streams.{EndsInside, IsCutShort, IsDry}

-- a list before another before what is left is both together
prepend_known-twice : (a b : List ℕ) (left : Option (List ℕ)) → prepend_known a (prepend_known b left) ≡ prepend_known (a ++ b) left
prepend_known-twice a b None = refl
prepend_known-twice a b (Some l) = ap Some (sym (append_assoc a b l))

-- one piece and then another
pub both_read : (old mid new : Option (List ℕ)) (a b both : List ℕ) → old ≡ prepend_known a mid → mid ≡ prepend_known b new → both ≡ a ++ b → old ≡ prepend_known both new
both_read old mid new a b both first second is =
    first ∙ ap (prepend_known a) second ∙ prepend_known-twice a b new ∙ ap (λ l. prepend_known l new) (sym is)

-- a piece behind those that were there
pub behind : (done count : ℕ) (front room bytes : List ℕ) → length front ≡ done → front ≡ take done bytes → take (done + count) (front ++ room) ≡ take done bytes ++ take count room
behind done count front room bytes size is =
    ap (λ k. take (k + count) (front ++ room)) (sym size) ∙ take-append-add front room count ∙ ap (λ l. l ++ take count room) is

-- a body behind its head
pub head_and_body : (size : ℕ) (front head body rest : List ℕ) → length head ≡ 4 → front ≡ head → length body ≡ size → take (4 + size) (front ++ (body ++ rest)) ≡ head ++ body
head_and_body size front head body rest four is long =
    ap (λ l. take (4 + size) (l ++ (body ++ rest))) is
    ∙ ap (λ k. take (k + size) (head ++ (body ++ rest))) (sym four)
    ∙ take-append-add head (body ++ rest) size
    ∙ ap (λ k. head ++ take k (body ++ rest)) (sym long)
    ∙ ap (λ l. head ++ l) (take-append_seam body rest)

-- if the count stood still before
pub dry-since : (left : Option (List ℕ)) (faults mid now : ℕ) → mid ≡ faults → IsDry left mid now → IsDry left faults now
dry-since left faults mid now same (inl end) = inl end
dry-since left faults mid now same (inr rose) = inr (subst (λ k. Rose k now) same rose)

-- whichever error it is
pub dry-err : {T E : Type 0} (result : Result T E) (left : Option (List ℕ)) (faults now : ℕ) → IsDry left faults now → OnErr result (IsDry left faults now)
dry-err (Ok x) left faults now dry = _
dry-err (Err e) left faults now dry = dry

-- Why no reply was taken, by why too few bytes were read.

-- too few bytes for the length
pub inside-head : (most : ℕ) (left : Option (List ℕ)) (faults now : ℕ) → IsCutShort 4 left faults now → EndsInside most left faults now
inside-head most None faults now (inl few) = inl tt
inside-head most (Some bytes) faults now (inl few) =
    inl (ap (λ b. if b then None else (if (from_be_bytes w32 (take 4 bytes) == 0) || nat_lt most (from_be_bytes w32 (take 4 bytes)) then Some 4 else (if nat_lt (length bytes) (4 + from_be_bytes w32 (take 4 bytes)) then None else Some (4 + from_be_bytes w32 (take 4 bytes))))) (lt-ltb (length bytes) 4 few))
inside-head most left faults now (inr rose) = inr rose

-- a length in range, and too few bytes after it
size_short : (short odd cut : Bool) (n : ℕ) → odd ≡ false → cut ≡ true → (if short then None else if odd then Some 4 else if cut then None else Some n) ≡ None
size_short true odd cut n in_range few = refl
size_short false odd cut n in_range few = rw (in_range, few) refl

pub inside-body : (most size wanted : ℕ) (old mid : Option (List ℕ)) (head : List ℕ) (faults between now : ℕ) → old ≡ prepend_known head mid → length head ≡ 4 → size ≤ most → (0 < size → from_be_bytes w32 head ≡ size) → wanted ≡ size → between ≡ faults
    → IsCutShort wanted mid between now → EndsInside most old faults now
inside-body most size wanted old mid head faults between now is four few size_is body same (inr rose) = inr (subst (λ k. Rose k now) same rose)
inside-body most size wanted None mid head faults between now is four few size_is body same (inl short) = inl tt
inside-body most size wanted (Some all) None head faults between now is four few size_is body same (inl short) = inl (let no : Some all ≡ None = is in cc)
inside-body most size wanted (Some all) (Some left) head faults between now is four few size_is body same (inl short) =
    let whole : all ≡ head ++ left = cc in
    let front : from_be_bytes w32 (take 4 all) ≡ size =
    ap (λ l. from_be_bytes w32 (take 4 l)) whole ∙ ap (λ k. from_be_bytes w32 (take k (head ++ left))) (sym four) ∙ ap (from_be_bytes w32) (take-append_seam head left) ∙ size_is (omega (arith, body, short)) in
    let long : length all < 4 + size = omega (arith, ap length whole, length-append head left, four, body, short) in
    inl
    (size_short (nat_lt (length all) 4) ((from_be_bytes w32 (take 4 all) == 0) || nat_lt most (from_be_bytes w32 (take 4 all))) (nat_lt (length all) (4 + from_be_bytes w32 (take 4 all))) (4 + from_be_bytes w32 (take 4 all))
    (ap (λ k. (k == 0) || nat_lt most k) front ∙ (λ i. ne_eqb size 0 (λ e. omega (arith, e, body, short)) i || nat_lt most size) ∙ le-ltb most size few)
    (ap (λ k. nat_lt (length all) (4 + k)) front ∙ lt-ltb (length all) (4 + size) long))

-- whichever error it is
pub inside-err : {T E : Type 0} (result : Result T E) (most : ℕ) (left : Option (List ℕ)) (faults now : ℕ) → EndsInside most left faults now → OnErr result (EndsInside most left faults now)
inside-err (Ok x) most left faults now inside = _
inside-err (Err e) most left faults now inside = inside
