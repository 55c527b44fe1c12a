-- What was laid out is read back, by the answers that the code gives: no cell and no block of it is refused, and the list behind the
-- bytes of the cell is the list that was laid out.
use Rattle.std.proofs.Common.{◌≡◌, ℕ, ◌+◌, ◌^◌, ◌<◌, ◌≤◌, cond, List, [], ◌∷◌, length, take, drop, get_or, refl, sym, ap, ◌∙◌, arith, All}
use Rattle.std.specs.Prelude.{Option, Some, None, option_map, option_and_then, nat_lt, IfSome}
use Rattle.std.specs.Option.{option_or}
use Rattle.std.specs.List.{position_from}
use Rattle.std.proofs.lemmas.Bool.{le-ltb}
use Rattle.std.proofs.lemmas.List.Elements.{All-nil, All-append, All-head, All-tail, All-take, All-drop, All-map}
use Rattle.list_packing.specs.LeadingNumbers.{leading, leading_count, first_hole}
use Rattle.list_packing.specs.Numbers.{number_bytes, numbers_of}
use Rattle.list_packing.specs.Parts.{filled, parts, blocks}
use Rattle.list_packing.proofs.LeadingLemmas.{unless_hole, leading-first_hole, leading-filled}
use Rattle.list_packing.proofs.NumbersLemmas.{numbers_of-number_bytes}
use Rattle.list_packing.proofs.PartsLemmas.{All-parts}
use Rattle.two_level.specs.declared.cell_fault.CellFault.{CellFault}
use Rattle.two_level.specs.declared.cell_fault.CellFault.TheVariants.{Hole, BadPointer}
use Rattle.two_level.specs.Shape.{Shape}
use Rattle.two_level.specs.Plan.{plan, block_count}
use Rattle.two_level.specs.Planned.{kind_byte}
use Rattle.two_level.specs.Laid.{Laid, laid, pointers, cell_bytes}
use Rattle.two_level.specs.Opened.{cell_list, opened}
use Rattle.two_level.specs.Read.{bad_pointer, form_fault, cell_fault}
use Rattle.two_level.proofs.LaidLemmas.{laid_cases, All-numbers}
use Rattle.two_level.proofs.OpenedLaid.{IsAtRanks, opened-laid}
use Rattle.two_level.proofs.ReadLemmas.{kind_of-kind_byte}

-- ---- the list behind the cell's bytes

pub cell_list-laid : (s : Shape) (ranks ids : List ℕ) (l : Laid) (block : ℕ → ℕ → Option (List ℕ))
    → 0 < s.big
    → All (λ id. 0 < id) ids
    → All (λ id. id < 2 ^ 64) ids
    → All (λ rank. rank + 1 < 2 ^ 64) ranks
    → laid s ranks ids ≡ Some l
    → length ranks ≡ block_count (plan s (length ids))
    → IsAtRanks block ranks l.blocks
    → cell_list block (cell_bytes l) ≡ Some ids
cell_list-laid s ranks ids l block some form small places is count placed =
    ap (option_and_then (λ k. opened block k (numbers_of (number_bytes l.numbers)))) (kind_of-kind_byte l.kind)
    ∙ ap (opened block l.kind) (numbers_of-number_bytes l.numbers (All-numbers (λ n. n < 2 ^ 64) s ranks ids l (omega arith) small places is count))
    ∙ opened-laid s ranks ids l block some form is count placed

-- ---- nothing that was laid out is refused

abbrev in_bounds : Option ℕ → List ℕ → Type 0
in_bounds pointed ns = IfSome pointed (λ blocks. All (λ p. p ≤ blocks) ns)

none_bad : (blocks i : ℕ) (ps : List ℕ) → All (λ p. p ≤ blocks) ps → position_from (λ pointer. nat_lt blocks pointer) i ps ≡ None
none_bad blocks i [] within = refl
none_bad blocks i (p ∷ ps) within =
    ap (λ b. cond b (Some i) (position_from (λ pointer. nat_lt blocks pointer) (i + 1) ps)) (le-ltb blocks p (All-head (λ q. q ≤ blocks) p ps within))
    ∙ none_bad blocks (i + 1) ps (All-tail (λ q. q ≤ blocks) p ps within)

module _ (pointed : Option ℕ) (numbers ns : List ℕ) where
  abbrev past_among : List ℕ → Option ℕ → Option CellFault
  past_among front o = option_and_then (λ blocks. option_map (λ place. BadPointer place) (bad_pointer blocks front)) o

  by_bounds : (o : Option ℕ) → in_bounds o ns → past_among ns o ≡ None
  by_bounds None within = refl
  by_bounds (Some blocks) within = ap (option_map (λ place. BadPointer place)) (none_bad blocks 0 ns within)

  by_leading : (hole : Option ℕ) (front : List ℕ) → unless_hole hole front ≡ Some ns → in_bounds pointed ns
      → option_or (option_map (λ place. Hole place) hole) (past_among front pointed) ≡ None
  by_leading (Some place) front is within = absurd (cc)
  by_leading None front is within =
      let same : front ≡ ns = cc in
      ap (λ xs. past_among xs pointed) same ∙ by_bounds pointed within

  -- numbers whose leading ones are within bounds have the form
  pub form_fault-leading : leading numbers ≡ Some ns → in_bounds pointed ns → form_fault pointed numbers ≡ None
  form_fault-leading is within =
      by_leading (first_hole numbers) (take (leading_count numbers) numbers) (sym (leading-first_hole numbers) ∙ is) within

-- numbers filled up have the form
form_fault-filled : (pointed : Option ℕ) (width : ℕ) (ns : List ℕ) → All (λ n. 0 < n) ns → in_bounds pointed ns → form_fault pointed (filled width ns) ≡ None
form_fault-filled pointed width ns form within = form_fault-leading pointed (filled width ns) ns (leading-filled width ns form) within

pointers_within : (blocks : ℕ) (ranks : List ℕ) → All (λ rank. rank < blocks) ranks → All (λ p. p ≤ blocks) (pointers ranks)
pointers_within blocks ranks below = All-map (λ p. p ≤ blocks) (λ rank. rank + 1) ranks (λ k d inside. let r = below k d inside in omega (arith, r))

pointers_positive : (ranks : List ℕ) → All (λ p. 0 < p) (pointers ranks)
pointers_positive ranks = All-map (λ p. 0 < p) (λ rank. rank + 1) ranks (λ k d inside. omega arith)

-- the cell of a list, over an array that has all its blocks, has the form
pub cell_fault-laid : (s : Shape) (blocks : ℕ) (ranks ids : List ℕ) (l : Laid) → All (λ id. 0 < id) ids → All (λ rank. rank < blocks) ranks
    → laid s ranks ids ≡ Some l → length ranks ≡ block_count (plan s (length ids)) → cell_fault blocks (kind_byte l.kind) l.numbers ≡ None
cell_fault-laid s blocks ranks ids l form below =
    laid_cases s ranks ids l (λ m. cell_fault blocks (kind_byte m.kind) m.numbers ≡ None)
    (λ fits none. form_fault-filled None s.b ids form tt)
    (λ fits same. form_fault-filled (Some blocks) s.b (pointers ranks) (pointers_positive ranks) (pointers_within blocks ranks below))
    (λ p d fits lowest topmost same. form_fault-filled (Some blocks) s.b (take p (pointers ranks)) (All-take (λ n. 0 < n) p (pointers ranks) (pointers_positive ranks))
    (All-take (λ n. n ≤ blocks) p (pointers ranks) (pointers_within blocks ranks below)))

-- the blocks that numbers are packed into have the form
pub blocks_form : (pointed : Option ℕ) (width : ℕ) (ns : List ℕ) → All (λ n. 0 < n) ns → in_bounds pointed ns
    → All (λ block. form_fault pointed block ≡ None) (blocks width ns)
blocks_form pointed width ns form within =
    All-map (λ block. form_fault pointed block ≡ None) (filled width) (parts width ns)
    (λ k d inside. form_fault-filled pointed width (get_or (parts width ns) k d) (All-parts (λ n. 0 < n) width ns form k d inside) (bounds pointed within k d inside))
  where
    bounds : (o : Option ℕ) → in_bounds o ns → (k : ℕ) (d : List ℕ) → k < length (parts width ns) → in_bounds o (get_or (parts width ns) k d)
    bounds None w k d inside = tt
    bounds (Some m) w k d inside = All-parts (λ p. p ≤ m) width ns w k d inside

-- the blocks of a list, as identifiers or pointers, have the form
pub block_fault-laid : (s : Shape) (ranks ids : List ℕ) (l : Laid) → All (λ id. 0 < id) ids
    → laid s ranks ids ≡ Some l → length ranks ≡ block_count (plan s (length ids)) → All (λ block. form_fault None block ≡ None) l.blocks
block_fault-laid s ranks ids l form =
    laid_cases s ranks ids l (λ m. All (λ block. form_fault None block ≡ None) m.blocks)
    (λ fits none. All-nil (λ block. form_fault None block ≡ None))
    (λ fits same. blocks_form None s.big ids form tt)
    (λ p d fits lowest topmost same. All-append (λ block. form_fault None block ≡ None) _ _
    (blocks_form None s.big (drop p (pointers ranks)) (All-drop (λ n. 0 < n) p (pointers ranks) (pointers_positive ranks)) tt)
    (blocks_form None s.big ids form tt))
