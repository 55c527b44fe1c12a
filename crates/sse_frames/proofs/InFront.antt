-- The body in front of bytes, and what is read there.
use Rattle.std.proofs.Common.{◌≡◌, ℕ, ◌+◌, ◌-◌, ◌^◌, ◌<◌, ◌≤◌, false, List, ◌++◌, length, take, drop, Option, Some, Result, Ok, refl, ap, ◌∙◌, length-append, arith}
use Rattle.std.specs.Prelude.{nat_lt}
use Rattle.std.specs.Int.{w32}
use Rattle.std.proofs.lemmas.Bool.{or_from, le-ltb, ne_eqb}
use Rattle.std.proofs.lemmas.List.{take_at}
use Rattle.sse_frames.specs.declared.fault.FrameFault.{FrameFault}
use Rattle.sse_frames.specs.Frames.{be32}
use Rattle.sse_frames.specs.Fields.{number_at}
use Rattle.sse_frames.specs.ReadOutcomes.{front, is_bad_length}
use Rattle.sse_frames.proofs.FrameBytesLaws.{back32}

-- a length in range is that of the body after it
front_is : (limit n : ℕ) (bytes : List ℕ) → number_at w32 0 bytes ≡ n → 1 ≤ n → n ≤ limit → 4 + n ≤ length bytes → front limit bytes ≡ Ok (Some (take n (drop 4 bytes)))
front_is limit n bytes is some most inside =
    let few : nat_lt (length bytes) 4 ≡ false = le-ltb _ _ (omega arith) in
    let good : is_bad_length limit (number_at w32 0 bytes) ≡ false = ap (is_bad_length limit) is ∙ or_from _ _ (ne_eqb n 0 (λ e. absurd (omega (arith, e, some)))) (le-ltb _ _ most) in
    let whole : nat_lt (length bytes - 4) (number_at w32 0 bytes) ≡ false = ap (nat_lt (length bytes - 4)) is ∙ le-ltb _ _ (omega arith) in
    rw (few, good, whole) (ap (λ (k : ℕ). let read : Result (Option (List ℕ)) FrameFault = Ok (Some (take k (drop 4 bytes))) in read) is)

-- a body after its length, whatever follows
pub front-spelled : (limit : ℕ) (body rest : List ℕ) → 1 ≤ length body → length body ≤ limit → limit < 2 ^ 32
    → front limit (be32 (length body) ++ body ++ rest) ≡ Ok (Some body)
unfolding number_at
front-spelled limit body rest some most small =
    let n : number_at w32 0 (be32 (length body) ++ body ++ rest) ≡ length body = back32 (length body) (omega arith) in
    front_is limit (length body) (be32 (length body) ++ body ++ rest) n some most (omega (arith, length-append body rest))
    ∙ ap (λ (b : List ℕ). let read : Result (Option (List ℕ)) FrameFault = Ok (Some b) in read) (take_at body rest (length body) refl)
