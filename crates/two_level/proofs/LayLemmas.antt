-- What the plan of a list says of its cell and its blocks.
use borrow.Rule.Slice.PartMut.{put_mid}
use Rattle.std.proofs.Common.{◌≡◌, ◌≢◌, ℕ, ◌+◌, ◌-◌, ◌*◌, ◌<◌, ◌≤◌, Bool, true, false, List, [], ◌∷◌, ◌++◌, length, take, drop, get_or, set, replicate, length-drop, refl, sym, ap, subst, ◌∙◌, arith, zero-add}
use Rattle.std.specs.Prelude.{Some, option_map, Result, Ok, nat_le}
use Rattle.std.specs.Int.{div_ceil}
use Rattle.std.proofs.lemmas.Bool.{leb-true}
use Rattle.std.proofs.lemmas.List.{get_or_append_left, get_or-append-add, drop-map, take-map}
use Rattle.list_packing.specs.Numbers.{number_bytes}
use Rattle.list_packing.specs.Parts.{parts, filled, blocks}
use Rattle.list_packing.proofs.NumbersLemmas.{number_bytes-filled}
use Rattle.list_packing.proofs.Written.{put_mid-to_end}
use Rattle.list_packing.proofs.PartsLemmas.{length-blocks, div_ceil-le, parts-at, blocks-part}
use Rattle.two_level.specs.declared.planned.Plan as code
use Rattle.two_level.specs.declared.too_long.ListTooLong.{ListTooLong}
use Rattle.two_level.specs.Shape.{Shape}
use Rattle.two_level.specs.Plan.{Identifiers, DataPointers, BlockPointers, plan, block_count}
use Rattle.two_level.specs.Planned.{planned}
use Rattle.two_level.specs.Laid.{Laid, laid, laid_as, pointers, cell_bytes, block_bytes}
use Rattle.two_level.proofs.LaidLemmas.{plan_by, length-pointers}

abbrev planned_as : code.Plan → Result code.Plan ListTooLong
planned_as p = Ok p

same_plan : (p q : code.Plan) → planned_as p ≡ planned_as q → p ≡ q
same_plan p q is = cc

module _ (s : Shape) (ranks ids : List ℕ) (p : code.Plan) (C : Laid → Type 0)
    (some : 0 < s.big)
    (in_cell : p.kind ≡ 0 → p.pointer_blocks ≡ 0 → length ranks ≡ 0 → C (laid_as s Identifiers 0 (pointers ranks) ids))
    (by_one : p.kind ≡ 1 → p.pointer_blocks ≡ 0 → length ranks ≤ s.b → length ranks ≡ div_ceil (length ids) s.big → C (laid_as s DataPointers 0 (pointers ranks) ids))
    (by_two : p.kind ≡ 2 → p.pointer_blocks ≤ s.b → div_ceil (div_ceil (length ids) s.big) s.big ≡ p.pointer_blocks
    → length ranks ≡ p.pointer_blocks + div_ceil (length ids) s.big → C (laid_as s BlockPointers p.pointer_blocks (pointers ranks) ids)) where
  by_plan : (cell one two : Bool)
      → (one ≡ true → length ids ≤ s.b * s.big)
      → (two ≡ true → length ids ≤ s.b * s.big * s.big)
      → Ok p ≡ planned (length ids) (plan_by s (length ids) cell one two)
      → length ranks ≡ block_count (plan_by s (length ids) cell one two)
      → (l : Laid) × (option_map (λ q. laid_as s q.kind q.pointer_blocks (pointers ranks) ids) (plan_by s (length ids) cell one two) ≡ Some l) × C l
  by_plan true one two fits_one fits_two is count =
      let same = same_plan p (record { kind = 0; pointer_blocks = 0; data_blocks = 0 }) is in
      (laid_as s Identifiers 0 (pointers ranks) ids, refl, in_cell (ap (λ (q : code.Plan). q.kind) same) (ap (λ (q : code.Plan). q.pointer_blocks) same) (count ∙ zero-add 0))
  by_plan false true two fits_one fits_two is count =
      let d : ℕ = div_ceil (length ids) s.big in
      let same = same_plan p (record { kind = 1; pointer_blocks = 0; data_blocks = d }) is in
      let all : length ranks ≡ d = count ∙ zero-add d in
      let within : d ≤ s.b = div_ceil-le (length ids) s.big s.b some (fits_one refl) in
      (laid_as s DataPointers 0 (pointers ranks) ids, refl, by_one (ap (λ (q : code.Plan). q.kind) same) (ap (λ (q : code.Plan). q.pointer_blocks) same) (omega (arith, all, within)) all)
  by_plan false false true fits_one fits_two is count =
      let d : ℕ = div_ceil (length ids) s.big in
      let t : ℕ = div_ceil d s.big in
      let same = same_plan p (record { kind = 2; pointer_blocks = t; data_blocks = d }) is in
      let tops : p.pointer_blocks ≡ t = ap (λ (q : code.Plan). q.pointer_blocks) same in
      let below : d ≤ s.b * s.big = div_ceil-le (length ids) s.big (s.b * s.big) some (fits_two refl) in
      let within : t ≤ s.b = div_ceil-le d s.big s.b some below in (
        laid_as s BlockPointers t (pointers ranks) ids,
        refl,
        subst (λ k. C (laid_as s BlockPointers k (pointers ranks) ids)) tops (by_two (ap (λ (q : code.Plan). q.kind) same) (omega (arith, tops, within)) (sym tops) (omega (arith, tops, count))),
      )
  by_plan false false false fits_one fits_two is count = absurd (cc)

  -- what holds of each of the three layouts, as the plan says which, holds of what is laid out
  pub lay_cases : Ok p ≡ planned (length ids) (plan s (length ids)) → length ranks ≡ block_count (plan s (length ids))
      → (l : Laid) × (laid s ranks ids ≡ Some l) × C l
  lay_cases = by_plan (nat_le (length ids) s.b) (nat_le (length ids) (s.b * s.big)) (nat_le (length ids) (s.b * s.big * s.big)) (leb-true _ _) (leb-true _ _)

-- the pointers made of part i of the ranks after the first n are part i of the pointers after the first n
pointers-part : (big n i : ℕ) (ranks part : List ℕ) → i < div_ceil (length (drop n (pointers ranks))) big
    → part ≡ get_or (parts big (drop n ranks)) i [] → pointers part ≡ get_or (parts big (drop n (pointers ranks))) i []
pointers-part big n i ranks part within is =
    let behind : pointers (drop n ranks) ≡ drop n (pointers ranks) = sym (drop-map (λ rank. rank + 1) n ranks) in
    let same : length (drop n (pointers ranks)) ≡ length (drop n ranks) = ap length (sym behind) ∙ length-pointers (drop n ranks) in
    let ranked : i < div_ceil (length (drop n ranks)) big = subst (λ k. i < div_ceil k big) same within in
    let cut : pointers (take big (drop (i * big) (drop n ranks))) ≡ take big (drop (i * big) (pointers (drop n ranks))) =
    sym (take-map (λ rank. rank + 1) big (drop (i * big) (drop n ranks)))
    ∙ ap (take big) (sym (drop-map (λ rank. rank + 1) (i * big) (drop n ranks))) in
    ap pointers (is ∙ parts-at big (drop n ranks) i ranked) ∙ cut
    ∙ ap (λ xs. take big (drop (i * big) xs)) behind
    ∙ sym (parts-at big (drop n (pointers ranks)) i within)

-- ---- cells

-- a kind, and the numbers after it with zeros to the end of the cell
pub cell_written : (kind b m : ℕ) (out new ns : List ℕ) → length out ≡ 1 + 8 * b → m ≡ 8 * b
    → new ≡ number_bytes ns ++ replicate (m - 8 * length ns) 0
    → put_mid 1 (length (set out 0 kind) - 1) (set out 0 kind) new ≡ kind ∷ number_bytes (filled b ns)
cell_written kind b m [] new ns size room is = absurd (omega (arith, size))
cell_written kind b m (x ∷ xs) new ns size room is =
    put_mid-to_end 1 (length (kind ∷ xs) - 1) (kind ∷ xs) new (omega arith)
    ∙ ap (λ bytes. kind ∷ bytes) (is ∙ ap (λ k. number_bytes ns ++ replicate (k - 8 * length ns) 0) room ∙ sym (number_bytes-filled b ns))

module _ (s : Shape) (ranks ids : List ℕ) (p : code.Plan) (some : 0 < s.big)
    (told : Ok p ≡ planned (length ids) (plan s (length ids))) (count : length ranks ≡ block_count (plan s (length ids))) where
  -- the cell of identifiers
  pub identifiers_cell : p.kind ≡ 0 → option_map cell_bytes (laid s ranks ids) ≡ Some (p.kind ∷ number_bytes (filled s.b ids))
  identifiers_cell zero =
      let found = lay_cases s ranks ids p (λ l. cell_bytes l ≡ p.kind ∷ number_bytes (filled s.b ids)) some
      (λ k none empty. ap (λ byte. byte ∷ number_bytes (filled s.b ids)) (sym k))
      (λ k none within all. absurd (omega (arith, zero, k)))
      (λ k within top all. absurd (omega (arith, zero, k)))
      told count in
      ap (option_map cell_bytes) found.1 ∙ ap (λ bytes. Some bytes) found.2

  -- the cell of pointers to all blocks
  pub data_cell : p.kind ≡ 1 → option_map cell_bytes (laid s ranks ids) ≡ Some (p.kind ∷ number_bytes (filled s.b (pointers ranks)))
  data_cell one =
      let found = lay_cases s ranks ids p (λ l. cell_bytes l ≡ p.kind ∷ number_bytes (filled s.b (pointers ranks))) some
      (λ k none empty. absurd (omega (arith, one, k)))
      (λ k none within all. ap (λ byte. byte ∷ number_bytes (filled s.b (pointers ranks))) (sym k))
      (λ k within top all. absurd (omega (arith, one, k)))
      told count in
      ap (option_map cell_bytes) found.1 ∙ ap (λ bytes. Some bytes) found.2

  -- which are no more than it has room for
  pub data_fit : p.kind ≡ 1 → length ranks ≤ s.b
  data_fit one =
      (lay_cases s ranks ids p (λ l. length ranks ≤ s.b) some
      (λ k none empty. absurd (omega (arith, one, k)))
      (λ k none within all. within)
      (λ k within top all. absurd (omega (arith, one, k)))
      told count).2

  -- the cell of pointers to the blocks of pointers
  pub tops_cell : p.kind ≢ 0 → p.kind ≢ 1
      → option_map cell_bytes (laid s ranks ids) ≡ Some (p.kind ∷ number_bytes (filled s.b (pointers (take p.pointer_blocks ranks))))
  tops_cell not_zero not_one =
      let found = lay_cases s ranks ids p (λ l. cell_bytes l ≡ p.kind ∷ number_bytes (filled s.b (pointers (take p.pointer_blocks ranks)))) some
      (λ k none empty. absurd (not_zero k))
      (λ k none within all. absurd (not_one k))
      (λ k within top all. ap (λ ns. 2 ∷ number_bytes (filled s.b ns)) (take-map (λ rank. rank + 1) p.pointer_blocks ranks)
      ∙ ap (λ byte. byte ∷ number_bytes (filled s.b (pointers (take p.pointer_blocks ranks)))) (sym k))
      told count in
      ap (option_map cell_bytes) found.1 ∙ ap (λ bytes. Some bytes) found.2

  pub tops_fit : p.kind ≢ 0 → p.kind ≢ 1 → p.pointer_blocks ≤ s.b
  tops_fit not_zero not_one =
      (lay_cases s ranks ids p (λ l. p.pointer_blocks ≤ s.b) some
      (λ k none empty. absurd (not_zero k))
      (λ k none within all. absurd (not_one k))
      (λ k within top all. within)
      told count).2

-- ---- blocks

module _ (s : Shape) (n : ℕ) (ranks ids : List ℕ) (top : div_ceil (div_ceil (length ids) s.big) s.big ≡ n) (all : length ranks ≡ n + div_ceil (length ids) s.big) where
  -- the blocks of pointers are n
  length-upper : div_ceil (length (drop n (pointers ranks))) s.big ≡ n
  length-upper =
      let rest : length (drop n (pointers ranks)) ≡ div_ceil (length ids) s.big = omega (arith, length-drop n (pointers ranks), length-pointers ranks, all) in
      ap (λ k. div_ceil k s.big) rest ∙ top

  abbrev both : List (List ℕ)
  both = blocks s.big (drop n (pointers ranks)) ++ blocks s.big ids

  -- a block before them all is one of pointers
  upper_block : (i : ℕ) (part : List ℕ) → i < n → part ≡ get_or (parts s.big (drop n ranks)) i [] → get_or both i [] ≡ filled s.big (pointers part)
  upper_block i part before is =
      let inside : i < div_ceil (length (drop n (pointers ranks))) s.big = omega (arith, length-upper, before) in
      get_or_append_left (blocks s.big (drop n (pointers ranks))) (blocks s.big ids) [] i (omega (arith, length-blocks s.big (drop n (pointers ranks)), inside))
      ∙ blocks-part s.big (drop n (pointers ranks)) i (pointers part) inside (pointers-part s.big n i ranks part inside is)

  -- one after them is one of identifiers
  lower_block : (i : ℕ) → n ≤ i → get_or both i [] ≡ get_or (blocks s.big ids) (i - n) []
  lower_block i behind =
      let many : length (blocks s.big (drop n (pointers ranks))) ≡ n = length-blocks s.big (drop n (pointers ranks)) ∙ length-upper in
      let place : i ≡ length (blocks s.big (drop n (pointers ranks))) + (i - n) = omega (arith, many, behind) in
      ap (λ j. get_or both j []) place
      ∙ get_or-append-add (blocks s.big (drop n (pointers ranks))) (blocks s.big ids) (i - n) []

module _ (s : Shape) (ranks ids : List ℕ) (p : code.Plan) (some : 0 < s.big)
    (told : Ok p ≡ planned (length ids) (plan s (length ids))) (count : length ranks ≡ block_count (plan s (length ids))) where
  -- a block of pointers
  pub pointer_block : (i : ℕ) (part : List ℕ) → i < p.pointer_blocks → part ≡ get_or (parts s.big (drop p.pointer_blocks ranks)) i []
      → option_map (block_bytes i) (laid s ranks ids) ≡ Some (number_bytes (filled s.big (pointers part)))
  pointer_block i part before is =
      let found = lay_cases s ranks ids p (λ l. block_bytes i l ≡ number_bytes (filled s.big (pointers part))) some
      (λ k none empty. absurd (omega (arith, none, before)))
      (λ k none within all. absurd (omega (arith, none, before)))
      (λ k within top all. ap number_bytes (upper_block s p.pointer_blocks ranks ids top all i part before is))
      told count in
      ap (option_map (block_bytes i)) found.1 ∙ ap (λ bytes. Some bytes) found.2

  -- a block of identifiers
  pub data_block : (i : ℕ) → p.pointer_blocks ≤ i → i < length ranks
      → option_map (block_bytes i) (laid s ranks ids) ≡ Some (number_bytes (get_or (blocks s.big ids) (i - p.pointer_blocks) []))
  data_block i behind within =
      let found = lay_cases s ranks ids p (λ l. block_bytes i l ≡ number_bytes (get_or (blocks s.big ids) (i - p.pointer_blocks) [])) some
      (λ k none empty. absurd (omega (arith, empty, within)))
      (λ k none fit all.
      let place : i ≡ i - p.pointer_blocks = omega (arith, none) in
      ap (λ j. number_bytes (get_or (blocks s.big ids) j [])) place)
      (λ k fit top all. ap number_bytes (lower_block s p.pointer_blocks ranks ids top all i behind))
      told count in
      ap (option_map (block_bytes i)) found.1 ∙ ap (λ bytes. Some bytes) found.2
