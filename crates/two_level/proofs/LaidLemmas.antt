-- What is laid out: the three layouts, their sizes and their numbers.
use Rattle.std.proofs.Common.{◌≡◌, ℕ, ◌+◌, ◌*◌, ◌<◌, ◌≤◌, Bool, true, false, List, length, take, drop, length-append, length-take, length-drop, zero-add, refl, sym, ap, subst, ◌∙◌, arith, All}
use Rattle.std.specs.Prelude.{Option, Some, None, option_map, nat_le, if◌then◌else◌}
use Rattle.std.specs.Int.{div_ceil}
use Rattle.std.proofs.lemmas.Bool.{leb-true}
use Rattle.std.proofs.lemmas.List.{length-map}
use Rattle.std.proofs.lemmas.List.Elements.{All-nil, All-append, All-take, All-drop, All-map}
use Rattle.std.proofs.lemmas.Option.{same_Some, none-some}
use Rattle.list_packing.specs.Parts.{blocks}
use Rattle.list_packing.proofs.PartsLemmas.{length-blocks, div_ceil-le, length-filled, All-filled, blocks-width, All-blocks}
use Rattle.two_level.specs.Shape.{Shape}
use Rattle.two_level.specs.Plan.{Identifiers, DataPointers, BlockPointers, Plan, plan, block_count}
use Rattle.two_level.specs.Laid.{Laid, laid_as, laid, pointers}

pub length-pointers : (ranks : List ℕ) → length (pointers ranks) ≡ length ranks
length-pointers ranks = length-map ranks (λ rank. rank + 1)

-- the plan, by the answers of its three tests
abbrev pub plan_by : Shape → ℕ → Bool → Bool → Bool → Option Plan
plan_by s n cell one two =
    if cell then Some (record { kind = Identifiers; pointer_blocks = 0; data_blocks = 0 })
    else if one then Some (record { kind = DataPointers; pointer_blocks = 0; data_blocks = div_ceil n s.big })
    else if two then Some (record { kind = BlockPointers; pointer_blocks = div_ceil (div_ceil n s.big) s.big; data_blocks = div_ceil n s.big })
    else None

by_tests : (s : Shape) (ranks ids : List ℕ) (l : Laid) (C : Laid → Type 0) (cell one two : Bool)
    → (cell ≡ true → length ranks ≡ 0 → C (laid_as s Identifiers 0 (pointers ranks) ids))
    → (one ≡ true → length ranks ≡ div_ceil (length ids) s.big → C (laid_as s DataPointers 0 (pointers ranks) ids))
    → ((p d : ℕ) → two ≡ true → div_ceil (length ids) s.big ≡ d → div_ceil d s.big ≡ p → length ranks ≡ p + d
    → C (laid_as s BlockPointers p (pointers ranks) ids))
    → option_map (λ p. laid_as s p.kind p.pointer_blocks (pointers ranks) ids) (plan_by s (length ids) cell one two) ≡ Some l
    → length ranks ≡ block_count (plan_by s (length ids) cell one two)
    → C l
by_tests s ranks ids l C true one two in_cell by_one by_two is count =
    subst C (same_Some _ _ is) (in_cell refl (count ∙ zero-add 0))
by_tests s ranks ids l C false true two in_cell by_one by_two is count =
    subst C (same_Some _ _ is) (by_one refl (count ∙ zero-add _))
by_tests s ranks ids l C false false true in_cell by_one by_two is count =
    subst C (same_Some _ _ is) (by_two _ _ refl refl refl count)
by_tests s ranks ids l C false false false in_cell by_one by_two is count = absurd (none-some _ is)

-- what holds of each of the three layouts holds of what is laid out
pub laid_cases : (s : Shape) (ranks ids : List ℕ) (l : Laid) (C : Laid → Type 0)
    → (length ids ≤ s.b → length ranks ≡ 0 → C (laid_as s Identifiers 0 (pointers ranks) ids))
    → (length ids ≤ s.b * s.big → length ranks ≡ div_ceil (length ids) s.big → C (laid_as s DataPointers 0 (pointers ranks) ids))
    → ((p d : ℕ) → length ids ≤ s.b * s.big * s.big → div_ceil (length ids) s.big ≡ d → div_ceil d s.big ≡ p → length ranks ≡ p + d
    → C (laid_as s BlockPointers p (pointers ranks) ids))
    → laid s ranks ids ≡ Some l
    → length ranks ≡ block_count (plan s (length ids))
    → C l
laid_cases s ranks ids l C in_cell by_one by_two =
    by_tests s ranks ids l C (nat_le (length ids) s.b) (nat_le (length ids) (s.b * s.big)) (nat_le (length ids) (s.b * s.big * s.big))
    (λ yes. in_cell (leb-true _ _ yes))
    (λ yes. by_one (leb-true _ _ yes))
    (λ p d yes. by_two p d (leb-true _ _ yes))

-- the cell has b numbers
pub length-numbers : (s : Shape) (ranks ids : List ℕ) (l : Laid) → 0 < s.big → laid s ranks ids ≡ Some l
    → length ranks ≡ block_count (plan s (length ids)) → length l.numbers ≡ s.b
length-numbers s ranks ids l some =
    laid_cases s ranks ids l (λ m. length m.numbers ≡ s.b)
    (λ fits none. length-filled s.b ids fits)
    (λ fits same. length-filled s.b (pointers ranks) (subst (λ (n : ℕ). n ≤ s.b) (sym (length-pointers ranks ∙ same)) (div_ceil-le (length ids) s.big s.b some fits)))
    (λ p d fits lowest topmost same.
    let below : d ≤ s.b * s.big =
    subst (λ (n : ℕ). n ≤ s.b * s.big) lowest (div_ceil-le (length ids) s.big (s.b * s.big) some fits) in
    let tops : p ≤ s.b = subst (λ (n : ℕ). n ≤ s.b) topmost (div_ceil-le d s.big s.b some below) in
    length-filled s.b (take p (pointers ranks)) (omega (arith, length-take p (pointers ranks))))

-- there is a block for each rank
pub length-laid_blocks : (s : Shape) (ranks ids : List ℕ) (l : Laid) → laid s ranks ids ≡ Some l
    → length ranks ≡ block_count (plan s (length ids)) → length l.blocks ≡ length ranks
length-laid_blocks s ranks ids l =
    laid_cases s ranks ids l (λ m. length m.blocks ≡ length ranks)
    (λ fits none. sym none)
    (λ fits same. length-blocks s.big ids ∙ sym same)
    (λ p d fits lowest topmost same.
    let rest : length (drop p (pointers ranks)) ≡ d =
    omega (arith, length-drop p (pointers ranks), length-pointers ranks) in
    let upper : length (blocks s.big (drop p (pointers ranks))) ≡ p =
    length-blocks s.big (drop p (pointers ranks)) ∙ ap (λ k. div_ceil k s.big) rest ∙ topmost in
    let lower : length (blocks s.big ids) ≡ d = length-blocks s.big ids ∙ lowest in
    omega (arith, length-append (blocks s.big (drop p (pointers ranks))) (blocks s.big ids)))

-- each block has big numbers
pub laid_blocks-width : (s : Shape) (ranks ids : List ℕ) (l : Laid) → laid s ranks ids ≡ Some l
    → length ranks ≡ block_count (plan s (length ids)) → All (λ block. length block ≡ s.big) l.blocks
laid_blocks-width s ranks ids l =
    laid_cases s ranks ids l (λ m. All (λ block. length block ≡ s.big) m.blocks)
    (λ fits none. All-nil (λ block. length block ≡ s.big))
    (λ fits same. blocks-width s.big ids)
    (λ p d fits lowest topmost same. All-append (λ block. length block ≡ s.big) _ _ (blocks-width s.big (drop p (pointers ranks))) (blocks-width s.big ids))

-- what holds of zero, of each identifier and of each pointer holds of each number of the cell
pub All-numbers : (P : ℕ → Type 0) (s : Shape) (ranks ids : List ℕ) (l : Laid) → P 0 → All P ids → All (λ rank. P (rank + 1)) ranks
    → laid s ranks ids ≡ Some l → length ranks ≡ block_count (plan s (length ids)) → All P l.numbers
All-numbers P s ranks ids l at_zero each_id each_rank =
    let each : All P (pointers ranks) = All-map P (λ rank. rank + 1) ranks each_rank in
    laid_cases s ranks ids l (λ m. All P m.numbers)
    (λ fits none. All-filled P s.b ids at_zero each_id)
    (λ fits same. All-filled P s.b (pointers ranks) at_zero each)
    (λ p d fits lowest topmost same. All-filled P s.b (take p (pointers ranks)) at_zero (All-take P p (pointers ranks) each))

-- and of each number of each block
pub All-laid_blocks : (P : ℕ → Type 0) (s : Shape) (ranks ids : List ℕ) (l : Laid) → P 0 → All P ids → All (λ rank. P (rank + 1)) ranks
    → laid s ranks ids ≡ Some l → length ranks ≡ block_count (plan s (length ids)) → All (All P) l.blocks
All-laid_blocks P s ranks ids l at_zero each_id each_rank =
    let each : All P (pointers ranks) = All-map P (λ rank. rank + 1) ranks each_rank in
    laid_cases s ranks ids l (λ m. All (All P) m.blocks)
    (λ fits none. All-nil (All P))
    (λ fits same. All-blocks P s.big ids at_zero each_id)
    (λ p d fits lowest topmost same. All-append (All P) _ _ (All-blocks P s.big (drop p (pointers ranks)) at_zero (All-drop P p (pointers ranks) each)) (All-blocks P s.big ids at_zero each_id))
