-- The last block of a message, as it is written.
use Rattle.std.proofs.Common.{◌≡◌, ℕ, suc, ◌+◌, ◌-◌, ◌≤◌, List, [], ◌∷◌, ◌++◌, length, take, drop, replicate, ap, sym, ◌∙◌, arith, refl, length-append, length-drop, append_assoc, append-nil}
use Rattle.std.proofs.Math.ListN.{set}
use Rattle.std.proofs.Math.Seq.{set-append_seam, take-append-add}
use Rattle.std.proofs.lemmas.List.{drop_all, take-replicate, length-replicate}
use borrow.Rule.Slice.PartMut.{put_mid}

-- a text in front of zeros, and the byte 0x80 behind it
marked : (text : List ℕ) → length text ≤ 55 → set (text ++ replicate (64 - length text) 0) (length text) 0x80 ≡ text ++ 0x80 ∷ replicate (63 - length text) 0
marked text fits =
    let more : 64 - length text ≡ suc (63 - length text) = omega (arith, fits) in
    ap (λ n. set (text ++ replicate n 0) (length text) 0x80) more ∙ set-append_seam text 0 (replicate (63 - length text) 0) 0x80

-- all but its last eight bytes
marked_front : (text : List ℕ) → length text ≤ 55 → take 56 (text ++ 0x80 ∷ replicate (63 - length text) 0) ≡ text ++ 0x80 ∷ replicate (55 - length text) 0
marked_front text fits =
    let whole : 56 ≡ length text + suc (55 - length text) = omega (arith, fits) in
    ap (λ n. take n (text ++ 0x80 ∷ replicate (63 - length text) 0)) whole
    ∙ take-append-add text (0x80 ∷ replicate (63 - length text) 0) (suc (55 - length text))
    ∙ ap (λ zeros. text ++ 0x80 ∷ zeros) (take-replicate (55 - length text) (63 - length text) 0 (omega (arith, fits)))

append-cons : (x : ℕ) (xs ys : List ℕ) → (x ∷ xs) ++ ys ≡ x ∷ (xs ++ ys)
append-cons x xs ys = refl

pub last_block_is : (text bits : List ℕ) → length text ≤ 55
    → put_mid 56 8 (set (text ++ replicate (64 - length text) 0) (length text) 0x80) bits ≡ text ++ (0x80 ∷ (replicate (55 - length text) 0 ++ bits))
last_block_is text bits fits =
    let block : List ℕ = text ++ 0x80 ∷ replicate (63 - length text) 0 in
    let size : length block ≡ 64 = omega (arith, fits, length-append text (0x80 ∷ replicate (63 - length text) 0), length-replicate {A = ℕ} (63 - length text) 0) in
    let rest : drop 8 (drop 56 block) ≡ [] = drop_all 8 (drop 56 block) (omega (arith, size, length-drop 56 block)) in
    let alone : bits ++ drop 8 (drop 56 block) ≡ bits = ap (λ (xs : List ℕ). bits ++ xs) rest ∙ append-nil bits in
    let written : put_mid 56 8 (set (text ++ replicate (64 - length text) 0) (length text) 0x80) bits ≡ put_mid 56 8 block bits =
    ap (λ (xs : List ℕ). put_mid 56 8 xs bits) (marked text fits) in
    let ends : put_mid 56 8 block bits ≡ take 56 block ++ bits = ap (λ (xs : List ℕ). take 56 block ++ xs) alone in
    let begins : take 56 block ++ bits ≡ (text ++ 0x80 ∷ replicate (55 - length text) 0) ++ bits = ap (λ (xs : List ℕ). xs ++ bits) (marked_front text fits) in
    written ∙ ends ∙ begins ∙ append_assoc text (0x80 ∷ replicate (55 - length text) 0) bits ∙ ap (λ (xs : List ℕ). text ++ xs) (append-cons 0x80 (replicate (55 - length text) 0) bits)
