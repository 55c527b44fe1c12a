-- A pad is what it encrypts zeros to; and the pads of a list.
use Rattle.std.proofs.Common.{◌≡◌, ℕ, zero, suc, ◌-◌, ◌<◌, List, ◌++◌, length, take, drop, replicate, sym, ap, ◌∙◌, subst, arith, slice_index}
use Rattle.std.specs.Prelude.{bit_xor}
use Rattle.std.specs.Int.Bits.{xor_zero_l}
use Rattle.std.proofs.Math.Seq.{take-append_seam}
use Rattle.std.proofs.lemmas.List.{length-replicate, get_or-replicate}
use Rattle.std.proofs.lemmas.List.FromFn.{fill_by_all}
use Rattle.chacha_stream.specs.Xored.{xored}
use Rattle.keyed_fn.specs.KeyFormulas.{block_pad}
use Rattle.keyed_fn.specs.KeyedFn.{KeyedFn}
use Rattle.sse_model.specs.Names.{block_size}
use Rattle.two_level.specs.Shape.{Shape}
use Rattle.leakage_sheets.specs.ByKeys.{list_pad}

pub xored-zeros : (n : ℕ) (pad : List ℕ) → length pad ≡ n → xored (replicate n 0) pad ≡ pad
xored-zeros n pad long =
    let zeros = replicate n 0 in
    let size : length zeros ≡ n = length-replicate n 0 in
    sym (fill_by_all (λ i. bit_xor (slice_index zeros i) (slice_index pad i)) pad (length zeros) 0 (long ∙ sym size)
    (λ k within. sym (ap (λ z. bit_xor z (slice_index pad k)) (get_or-replicate n k 0 0 (subst (λ m. k < m) size within)) ∙ xor_zero_l (slice_index pad k))))

-- where the length is that of the zeros
pub pad-zeros : (pad : ℕ → List ℕ) (bytes sealed : List ℕ) (n : ℕ) → ((len : ℕ) → length (pad len) ≡ len) → bytes ≡ replicate n 0 → sealed ≡ xored bytes (pad (length bytes)) → sealed ≡ pad n
pad-zeros pad bytes sealed n sizes zeros is =
    let size : length bytes ≡ n = ap length zeros ∙ length-replicate n 0 in
    is ∙ (λ i. xored (zeros i) (pad (size i))) ∙ xored-zeros n (pad n) (sizes n)

-- a list's pad at a number above 0 is a block's
pub list_pad-above : (f : KeyedFn) (s : Shape) (key : List ℕ) (n : ℕ) → 0 < n → list_pad f s key n ≡ block_pad f key (n - 1) (block_size s)
list_pad-above f s key zero some = absurd (omega arith)
list_pad-above f s key (suc i) some = ap (λ k. block_pad f key k (block_size s)) (omega arith)

-- a pad that is written over all of some zeros
pub pad-written : (pad : ℕ → List ℕ) (sealed zeros items : List ℕ) (size n : ℕ) → ((len : ℕ) → length (pad len) ≡ len) → zeros ≡ replicate n 0 → sealed ≡ xored zeros (pad (length zeros)) → size ≡ n
    → take size (sealed ++ drop (length sealed) items) ≡ pad n
pad-written pad sealed zeros items size n sizes are made counted =
    let is : sealed ≡ pad n = pad-zeros pad zeros sealed n sizes are made in
    let long : size ≡ length sealed = counted ∙ sym (sizes n) ∙ ap length (sym is) in
    ap (λ m. take m (sealed ++ drop (length sealed) items)) long ∙ take-append_seam sealed (drop (length sealed) items) ∙ is
