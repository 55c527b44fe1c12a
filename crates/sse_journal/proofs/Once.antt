-- A file gives the records that it holds, and no others.
use Rattle.std.proofs.Common.{◌≡◌, inl, inr, ℕ, ◌<◌, List, [], ◌∷◌, ◌++◌, length, take, drop, refl, sym, ◌∙◌, ap, arith, append_assoc, length-append}
use Rattle.std.specs.Prelude.{All, flat_map}
use Rattle.std.specs.Int.{w32, to_be_bytes, from_be_bytes}
use Rattle.std.proofs.lemmas.Nat.{from_be_bytes-to_be_bytes_4}
use Rattle.std.proofs.lemmas.List.{take_at, drop_at}
use Rattle.std.proofs.lemmas.List.Elements.{All-head, All-tail}
use Rattle.sse_journal.specs.Files.{magic, framed, record_bytes, front, file, IsPayload, IsFileOf, Gives}

pub framed_once : (x y r s : List ℕ) → IsPayload x → IsPayload y → framed x ++ r ≡ framed y ++ s → (x ≡ y) × (r ≡ s)
unfolding framed
framed_once x y r s is_x is_y same = (same_payload, same_rest)
  where
    numbers : to_be_bytes w32 (length x) ≡ to_be_bytes w32 (length y)
    numbers = ap (λ (l : List ℕ). take 4 l) same

    sizes : length x ≡ length y
    sizes = sym (from_be_bytes-to_be_bytes_4 (length x) (omega (arith, is_x.limit))) ∙ ap (from_be_bytes w32) numbers ∙ from_be_bytes-to_be_bytes_4 (length y) (omega (arith, is_y.limit))

    behind : x ++ r ≡ y ++ s
    behind = ap (λ (l : List ℕ). drop 4 l) same

    same_payload : x ≡ y
    same_payload = sym (take_at x r (length x) refl) ∙ ap (λ (l : List ℕ). take (length x) l) behind ∙ take_at y s (length x) (sym sizes)

    same_rest : r ≡ s
    same_rest = sym (drop_at x r (length x) refl) ∙ ap (λ (l : List ℕ). drop (length x) l) behind ∙ drop_at y s (length x) (sym sizes)

pub some_framed : (x r : List ℕ) → framed x ++ r ≡ [] → ⊥
unfolding framed
some_framed x r none = absurd (omega (arith, ap length none))

pub records_once : (xs ys : List (List ℕ)) (g h : ℕ) (t u : List ℕ) → All IsPayload xs → All IsPayload ys → (g ≡ 1 → t ≡ []) → (h ≡ 1 → u ≡ []) → flat_map record_bytes xs ++ g ∷ t ≡ flat_map record_bytes ys ++ h ∷ u → xs ≡ ys
records_once [] [] g h t u are_x are_y unset_g unset_h same = refl
records_once [] (y ∷ ys) g h t u are_x are_y unset_g unset_h same = absurd (some_framed y (flat_map record_bytes ys ++ h ∷ u) (sym (sym (unset_g (ap (λ (l : List ℕ). first l) same)) ∙ ap (λ (l : List ℕ). drop 1 l) same ∙ append_assoc (framed y) (flat_map record_bytes ys) (h ∷ u))))
  where
    first : List ℕ → ℕ
    first [] = 0
    first (a ∷ l) = a
records_once (x ∷ xs) [] g h t u are_x are_y unset_g unset_h same = absurd (some_framed x (flat_map record_bytes xs ++ g ∷ t) (sym (sym (unset_h (sym (ap (λ (l : List ℕ). first l) same))) ∙ sym (ap (λ (l : List ℕ). drop 1 l) same) ∙ append_assoc (framed x) (flat_map record_bytes xs) (g ∷ t))))
  where
    first : List ℕ → ℕ
    first [] = 0
    first (a ∷ l) = a
records_once (x ∷ xs) (y ∷ ys) g h t u are_x are_y unset_g unset_h same =
    let p = framed_once x y _ _ (All-head IsPayload x xs are_x) (All-head IsPayload y ys are_y) behind in
    ap (λ (z : List ℕ). z ∷ xs) p.0 ∙ ap (λ (zs : List (List ℕ)). y ∷ zs) (records_once xs ys g h t u (All-tail IsPayload x xs are_x) (All-tail IsPayload y ys are_y) unset_g unset_h p.1)
  where
    behind : framed x ++ (flat_map record_bytes xs ++ g ∷ t) ≡ framed y ++ (flat_map record_bytes ys ++ h ∷ u)
    behind = sym (append_assoc (framed x) (flat_map record_bytes xs) (g ∷ t)) ∙ ap (λ (l : List ℕ). drop 1 l) same ∙ append_assoc (framed y) (flat_map record_bytes ys) (h ∷ u)

long_file : (payloads : List (List ℕ)) (bytes : List ℕ) → IsFileOf payloads bytes → length bytes < 9 → ⊥
unfolding front
long_file payloads bytes is short = omega (arith, short, ap length is.are, length-append magic (flat_map record_bytes payloads), length-append (magic ++ flat_map record_bytes payloads) (is.commit ∷ is.tail))

behind_magic : (xs ys : List (List ℕ)) (g h : ℕ) (t u : List ℕ) → front xs ++ g ∷ t ≡ front ys ++ h ∷ u → flat_map record_bytes xs ++ g ∷ t ≡ flat_map record_bytes ys ++ h ∷ u
unfolding front
behind_magic xs ys g h t u same = ap (λ (l : List ℕ). drop 8 l) same

-- Promise P114, also here
-- the records that a file gives are determined by it
pub gives_once : (xs ys : List (List ℕ)) (bytes : List ℕ) → Gives xs bytes → Gives ys bytes → xs ≡ ys
gives_once xs ys bytes (inl short) (inl shorter) = short.1 ∙ sym shorter.1
gives_once xs ys bytes (inl short) (inr is) = absurd (long_file ys bytes is short.0)
gives_once xs ys bytes (inr is) (inl short) = absurd (long_file xs bytes is short.0)
gives_once xs ys bytes (inr is) (inr too) = both xs ys bytes is too
  where
    both : (xs ys : List (List ℕ)) (bytes : List ℕ) → IsFileOf xs bytes → IsFileOf ys bytes → xs ≡ ys
    both xs ys bytes is too = records_once xs ys is.commit too.commit is.tail too.tail is.payloads_are too.payloads_are is.unset too.unset (behind_magic xs ys is.commit too.commit is.tail too.tail (sym is.are ∙ too.are))

-- a file that holds these records gives them
pub file_gives : (payloads : List (List ℕ)) → All IsPayload payloads → Gives payloads (file payloads)
file_gives payloads are = inr (record { payloads_are = are; commit = 0; tail = []; are = refl; unset = λ is_set. refl })
