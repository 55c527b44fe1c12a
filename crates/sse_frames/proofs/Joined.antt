-- Items of one size are cut out of their joined bytes.
use Rattle.std.proofs.Common.{◌≡◌, ℕ, ◌*◌, ◌<◌, List, [], ◌∷◌, ◌++◌, length, take, drop, refl, sym, ap, ◌∙◌, append_assoc, length-append, arith}
use Rattle.std.specs.List.{AllByRecursion}
use Rattle.std.specs.Simd.{first_chunks}
use Rattle.std.proofs.lemmas.List.{take_at, drop_at, append-nil}
use Rattle.sse_frames.specs.Frames.{joined, IsBytes}
use Rattle.sse_frames.specs.FrameViews.{items_in}
use Rattle.sse_frames.proofs.Chunks.{items_are}

-- each item has so many bytes
abbrev pub EachHas : ℕ → List (List ℕ) → Type 0
EachHas size items = AllByRecursion (λ item. length item ≡ size) items

pub sizes_of : (size : ℕ) (items : List (List ℕ)) → AllByRecursion (IsBytes size) items → EachHas size items
sizes_of size [] all = tt
sizes_of size (item ∷ items) all = (all.0.size_is, sizes_of size items all.1)

-- the items are cut out of their joined bytes, whatever follows
pub first_chunks-joined : (size : ℕ) (items : List (List ℕ)) (rest : List ℕ) → EachHas size items → first_chunks size (length items) (joined items ++ rest) ≡ items
first_chunks-joined size [] rest all = refl
first_chunks-joined size (item ∷ items) rest all =
    let regrouped : joined (item ∷ items) ++ rest ≡ item ++ (joined items ++ rest) = append_assoc item (joined items) rest in
    let front : take size (joined (item ∷ items) ++ rest) ≡ item = ap (take size) regrouped ∙ take_at item (joined items ++ rest) size all.0 in
    let back : drop size (joined (item ∷ items) ++ rest) ≡ joined items ++ rest = ap (drop size) regrouped ∙ drop_at item (joined items ++ rest) size all.0 in
    ap (λ (x : List ℕ). x ∷ first_chunks size (length items) (drop size (joined (item ∷ items) ++ rest))) front
    ∙ ap (λ (bytes : List ℕ). item ∷ first_chunks size (length items) bytes) back
    ∙ ap (λ (xs : List (List ℕ)). item ∷ xs) (first_chunks-joined size items rest all.1)

pub length-joined : (size : ℕ) (items : List (List ℕ)) → EachHas size items → length (joined items) ≡ length items * size
length-joined size [] all = let none : 0 ≡ 0 * size = omega arith in none
length-joined size (item ∷ items) all = let more = length-joined size items all.1 in omega (arith, length-append item (joined items), all.0)

pub items_in-joined : (size : ℕ) (items : List (List ℕ)) → 0 < size → EachHas size items → items_in size (joined items) ≡ items
items_in-joined size items some all =
    items_are size (length items) (joined items) some (length-joined size items all)
    ∙ ap (first_chunks size (length items)) (sym (append-nil (joined items)))
    ∙ first_chunks-joined size items [] all
