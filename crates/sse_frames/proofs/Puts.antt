-- Bytes that are written one after the other at the front of a buffer.
use Rattle.std.proofs.Common.{◌≡◌, ℕ, ◌+◌, ◌-◌, ◌≤◌, List, [], ◌++◌, length, take, drop, refl, sym, ap, ◌∙◌, append_assoc, length-append, arith}
use Rattle.std.proofs.lemmas.List.{take_at, drop_at, take_all, drop_all, drop-drop, append-nil, length-drop}
use borrow.Rule.Slice.PartMut.{put_mid}

-- a write at the front of what lies after a place
pub put_behind : (place size : ℕ) (bytes out buf : List ℕ) → place + size ≤ length out → buf ≡ bytes ++ drop size (take (length out - place) (drop place out))
    → put_mid place (length out - place) out buf ≡ take place out ++ bytes ++ drop (place + size) out
put_behind place size bytes out buf inside e =
    let rest = drop place out in
    let all : take (length out - place) rest ≡ rest = take_all (length out - place) rest (omega (arith, length-drop place out)) in
    let none : drop (length out - place) rest ≡ [] = drop_all (length out - place) rest (omega (arith, length-drop place out)) in
    let is : buf ≡ bytes ++ drop (place + size) out = e ∙ ap (λ (x : List ℕ). bytes ++ drop size x) all ∙ ap (λ (x : List ℕ). bytes ++ x) (drop-drop size place out) in
    ap (λ (x : List ℕ). take place out ++ (buf ++ x)) none
    ∙ ap (λ (x : List ℕ). take place out ++ x) (append-nil buf ∙ is)
    ∙ sym (append_assoc (take place out) bytes (drop (place + size) out))

-- bytes written after those that are done
pub put_next : (size : ℕ) (done bytes out now next : List ℕ) → length bytes ≡ size → now ≡ done ++ drop (length done) out → next ≡ take (length done) now ++ bytes ++ drop (length done + size) now
    → next ≡ done ++ bytes ++ drop (length done + size) out
put_next size done bytes out now next len so_far e =
    let front : take (length done) now ≡ done = ap (take (length done)) so_far ∙ take_at done (drop (length done) out) (length done) refl in
    let behind : drop (length done) now ≡ drop (length done) out = ap (drop (length done)) so_far ∙ drop_at done (drop (length done) out) (length done) refl in
    let rest : drop (length done + size) now ≡ drop (length done + size) out = sym (drop-drop size (length done) now) ∙ ap (drop size) behind ∙ drop-drop size (length done) out in
    e ∙ ap (λ (x : List ℕ). x ++ bytes ++ drop (length done + size) now) front ∙ ap (λ (x : List ℕ). done ++ bytes ++ x) rest

-- the same of three
pub put_three : (head first second out one two three : List ℕ) (p q r : ℕ) → p ≡ 0 + length head → one ≡ take 0 out ++ head ++ drop (0 + length head) out
    → q ≡ p + length first → two ≡ take p one ++ first ++ drop (p + length first) one
    → r ≡ q + length second → three ≡ take q two ++ second ++ drop (q + length second) two
    → three ≡ head ++ (first ++ second) ++ drop r out
put_three head first second out one two three p q r p_is one_is q_is two_is r_is three_is =
    let at_head : p ≡ length head = omega (arith, p_is) in
    let at_first : q ≡ length (head ++ first) = omega (arith, q_is, at_head, length-append head first) in
    let at_second : r ≡ length (head ++ first) + length second = omega (arith, r_is, at_first) in
    let zero_at : 0 + length head ≡ length head = omega arith in
    let done_one : one ≡ head ++ drop (length head) out = one_is ∙ ap (λ (n : ℕ). head ++ drop n out) zero_at in
    let done_two : two ≡ head ++ first ++ drop (length head + length first) out =
    put_next (length first) head first out one two refl done_one (two_is ∙ ap (λ (n : ℕ). take n one ++ first ++ drop (n + length first) one) at_head) in
    let so_far : two ≡ head ++ first ++ drop (length (head ++ first)) out = done_two ∙ ap (λ (n : ℕ). head ++ first ++ drop n out) (sym (length-append head first)) in
    put_next (length second) (head ++ first) second out two three refl so_far (three_is ∙ ap (λ (n : ℕ). take n two ++ second ++ drop (n + length second) two) at_first)
    ∙ ap (λ (x : List ℕ). x ++ drop (length (head ++ first) + length second) out) (append_assoc head first second)
    ∙ ap (λ (n : ℕ). head ++ (first ++ second) ++ drop n out) (sym at_second)
