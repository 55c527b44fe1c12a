-- A body is its fields, one after the other: each cut gives a field's bytes and those after it.
use Rattle.std.proofs.Common.{◌≡◌, ℕ, ◌+◌, ◌<◌, ◌≤◌, List, [], ◌∷◌, ◌++◌, length, get_or, take, drop, refl, sym, ap, ◌∙◌, arith}
use Rattle.std.specs.Int.{w16, w32, w64}
use Rattle.std.proofs.lemmas.List.{append-nil, take-append-drop, drop-drop, drop_more, drop_all, length-take, length-drop, get_or-drop, get_or-take, get_or_past}
use Rattle.std.proofs.lemmas.Bool.{cases_lt}
use Rattle.std.proofs.lemmas.Nat.{be_bytes_2, be_bytes_4, be_bytes_8}
use Rattle.std.proofs.Common.{inl, inr}
use Rattle.sse_frames.specs.Frames.{be16, be32, be64}
use Rattle.sse_frames.specs.Fields.{bytes_at, number_at}

-- each is below 256
abbrev pub AreBytes : List ℕ → Type 0
AreBytes bytes = (i : ℕ) → get_or bytes i 0 < 256

pub AreBytes-drop : (n : ℕ) (bytes : List ℕ) → AreBytes bytes → AreBytes (drop n bytes)
AreBytes-drop n bytes h i = rw get_or-drop (h (n + i))

pub AreBytes-take : (n : ℕ) (bytes : List ℕ) → AreBytes bytes → AreBytes (take n bytes)
AreBytes-take n bytes h i =
    elim (cases_lt i n) [
      | inl lt ↦ rw (get_or-take n bytes i 0 lt) (h i)
      | inr le ↦ rw (get_or_past (take n bytes) i 0 (omega (arith, length-take n bytes))) (omega arith)
    ]

pub AreBytes-at : (place size : ℕ) (body : List ℕ) → AreBytes body → AreBytes (bytes_at place size body)
AreBytes-at place size body h = AreBytes-take size (drop place body) (AreBytes-drop place body h)

pub length-bytes_at : (place size : ℕ) (body : List ℕ) → place + size ≤ length body → length (bytes_at place size body) ≡ size
length-bytes_at place size body inside = omega (arith, length-take size (drop place body), length-drop place body)

-- the bytes from a place on are some bytes and those after them
pub cut : (place size : ℕ) (body : List ℕ) → drop place body ≡ bytes_at place size body ++ drop (place + size) body
cut place size body = sym (take-append-drop size (drop place body)) ∙ ap (λ (rest : List ℕ). take size (drop place body) ++ rest) (drop-drop size place body)

-- the number of two bytes at a place, and what comes after it
pub then16 : (place : ℕ) (body rest : List ℕ) → AreBytes body → place + 2 ≤ length body → drop (place + 2) body ≡ rest → drop place body ≡ be16 (number_at w16 place body) ++ rest
unfolding number_at
then16 place body rest bytes inside after =
    let number : be16 (number_at w16 place body) ≡ bytes_at place 2 body = be_bytes_2 (bytes_at place 2 body) (number_at w16 place body) (length-bytes_at place 2 body inside) (AreBytes-at place 2 body bytes) refl in
    cut place 2 body ∙ ap (λ (front : List ℕ). front ++ drop (place + 2) body) (sym number) ∙ ap (λ (more : List ℕ). be16 (number_at w16 place body) ++ more) after

-- the number of four bytes at a place, and what comes after it
pub then32 : (place : ℕ) (body rest : List ℕ) → AreBytes body → place + 4 ≤ length body → drop (place + 4) body ≡ rest → drop place body ≡ be32 (number_at w32 place body) ++ rest
unfolding number_at
then32 place body rest bytes inside after =
    let number : be32 (number_at w32 place body) ≡ bytes_at place 4 body = be_bytes_4 (bytes_at place 4 body) (number_at w32 place body) (length-bytes_at place 4 body inside) (AreBytes-at place 4 body bytes) refl in
    cut place 4 body ∙ ap (λ (front : List ℕ). front ++ drop (place + 4) body) (sym number) ∙ ap (λ (more : List ℕ). be32 (number_at w32 place body) ++ more) after

-- the number of eight bytes at a place, and what comes after it
pub then64 : (place : ℕ) (body rest : List ℕ) → AreBytes body → place + 8 ≤ length body → drop (place + 8) body ≡ rest → drop place body ≡ be64 (number_at w64 place body) ++ rest
unfolding number_at
then64 place body rest bytes inside after =
    let number : be64 (number_at w64 place body) ≡ bytes_at place 8 body = be_bytes_8 (bytes_at place 8 body) (number_at w64 place body) (length-bytes_at place 8 body inside) (AreBytes-at place 8 body bytes) refl in
    cut place 8 body ∙ ap (λ (front : List ℕ). front ++ drop (place + 8) body) (sym number) ∙ ap (λ (more : List ℕ). be64 (number_at w64 place body) ++ more) after

-- the byte after the kind, and what comes after it
pub then_byte : (body rest : List ℕ) → 1 < length body → drop 2 body ≡ rest → drop 1 body ≡ get_or body 1 0 ∷ rest
then_byte body rest inside after = drop_more body 1 0 inside ∙ ap (λ (more : List ℕ). get_or body 1 0 ∷ more) after

-- the kind byte, and what comes after it
pub then_kind : (kind : ℕ) (body rest : List ℕ) → get_or body 0 0 ≡ kind → 0 < length body → drop 1 body ≡ rest → body ≡ kind ∷ rest
then_kind kind body rest is some after = drop_more body 0 0 some ∙ ap (λ (k : ℕ). k ∷ drop 1 body) is ∙ ap (λ (more : List ℕ). kind ∷ more) after

-- nothing comes after the end
pub at_end : (place : ℕ) (body : List ℕ) → length body ≡ place → drop place body ≡ []
at_end place body is = drop_all place body (omega (arith, is))

-- the bytes of a field that goes to the end
pub all_at : (place size : ℕ) (body : List ℕ) → length body ≡ place + size → drop place body ≡ bytes_at place size body
all_at place size body is = cut place size body ∙ rw (at_end (place + size) body is) (append-nil (bytes_at place size body))
