-- What a reader makes of numbers, bytes and blocks.
use Rattle.std.proofs.Common.{◌≡◌, ℕ, suc, ◌+◌, ◌*◌, ◌<◌, List, [], ◌∷◌, ◌++◌, length, get_or, map, length-append, refl, sym, ap, subst, ◌∙◌, arith, add-zero, All, slice_index}
use Rattle.std.specs.Prelude.{Option, Some, option_and_then, flat_map}
use Rattle.std.specs.Int.{div_ceil}
use Rattle.std.proofs.lemmas.List.{get_or_append_left, get_or-append-add}
pub use Rattle.list_packing.proofs.LeadingLemmas.{leading-filled}
pub use Rattle.list_packing.proofs.NumbersLemmas.{length-number_bytes, numbers_of-number_bytes}
use Rattle.list_packing.specs.Parts.{parts, filled, blocks}
use Rattle.list_packing.proofs.PartsLemmas.{joined-parts, length-parts}
use Rattle.two_level.specs.Plan.{CellKind, Identifiers, DataPointers, BlockPointers}
use Rattle.two_level.specs.Planned.{kind_byte}
use Rattle.two_level.specs.Laid.{Laid, cell_bytes}
use Rattle.two_level.specs.Opened.{kind_of, leading, joined, followed}

-- ---- bytes

-- a kind's byte stands for it
pub kind_of-kind_byte : (kind : CellKind) → kind_of (kind_byte kind) ≡ Some kind
kind_of-kind_byte Identifiers = refl
kind_of-kind_byte DataPointers = refl
kind_of-kind_byte BlockPointers = refl

pub length-cell_bytes : (l : Laid) → length (cell_bytes l) ≡ 1 + 8 * length l.numbers
length-cell_bytes l = omega (arith, length-number_bytes l.numbers)

-- ---- numbers and blocks

All_front : (xs ys : List ℕ) → All (λ m. 0 < m) (xs ++ ys) → All (λ m. 0 < m) xs
All_front xs ys form k d within =
    subst (λ (m : ℕ). 0 < m) (get_or_append_left xs ys d k within) (form k d (omega (arith, length-append xs ys)))

All_back : (xs ys : List ℕ) → All (λ m. 0 < m) (xs ++ ys) → All (λ m. 0 < m) ys
All_back xs ys form k d within =
    subst (λ (m : ℕ). 0 < m) (get_or-append-add xs ys k d) (form (length xs + k) d (omega (arith, length-append xs ys)))

-- blocks filled from these pieces, read one after another, give the pieces joined
followed-pieces : (block : ℕ → ℕ → Option (List ℕ)) (first width : ℕ) (ps : List ℕ) (pieces : List (List ℕ))
    → length ps ≡ length pieces
    → ((i : ℕ) → i < length pieces → block (first + i) (slice_index ps i) ≡ Some (get_or (map (filled width) pieces) i []))
    → All (λ m. 0 < m) (flat_map (λ piece. piece) pieces)
    → followed block first ps ≡ Some (flat_map (λ piece. piece) pieces)
followed-pieces block first width [] [] same each form = refl
followed-pieces block first width [] (x ∷ pieces) same each form = absurd (omega arith)
followed-pieces block first width (p ∷ ps) [] same each form = absurd (omega arith)
followed-pieces block first width (p ∷ ps) (x ∷ pieces) same each form =
    let rest : List ℕ = flat_map (λ piece. piece) pieces in
    let here : block first p ≡ Some (filled width x) =
    subst (λ (i : ℕ). block i p ≡ Some (filled width x)) (add-zero first) (each 0 (omega arith)) in
    let read : option_and_then leading (block first p) ≡ Some x =
    ap (option_and_then leading) here ∙ leading-filled width x (All_front x rest form) in
    let later : followed block (first + 1) ps ≡ Some rest =
    followed-pieces block (first + 1) width ps pieces (omega arith)
    (λ i within.
    let place : first + suc i ≡ first + 1 + i = omega arith in
    subst (λ (j : ℕ). block j (slice_index ps i) ≡ Some (get_or (map (filled width) pieces) i [])) place
    (each (suc i) (omega arith)))
    (All_back x rest form) in
    ap (λ o. joined o (followed block (first + 1) ps)) read ∙ ap (joined (Some x)) later

-- numbers packed into blocks, read one after another, are the numbers
pub followed-blocks : (block : ℕ → ℕ → Option (List ℕ)) (first width : ℕ) (ps ns : List ℕ)
    → 0 < width
    → length ps ≡ div_ceil (length ns) width
    → ((i : ℕ) → i < length ps → block (first + i) (slice_index ps i) ≡ Some (get_or (blocks width ns) i []))
    → All (λ m. 0 < m) ns
    → followed block first ps ≡ Some ns
followed-blocks block first width ps ns some count each form =
    let whole : flat_map (λ piece. piece) (parts width ns) ≡ ns = joined-parts width ns some in
    let same : length ps ≡ length (parts width ns) = count ∙ sym (length-parts width ns) in
    followed-pieces block first width ps (parts width ns) same (λ i within. each i (omega arith))
    (subst (λ (ms : List ℕ). All (λ m. 0 < m) ms) (sym whole) form)
    ∙ ap (λ ms. Some ms) whole
