-- A list that was laid out is read back: opened of laid is the list.
use Rattle.std.proofs.Common.{◌≡◌, ◌≢◌, ℕ, ◌+◌, ◌<◌, List, [], ◌++◌, length, take, drop, get_or, map, length-append, length-take, length-drop, zero-add, add-one, refl, sym, ap, ◌∙◌, arith, eq-eqb, All, slice_index}
use Rattle.std.specs.Prelude.{Option, Some, option_and_then, slice_get, AllPairs, ◌==◌}
use Rattle.std.specs.Int.{div_ceil}
use Rattle.std.specs.List.{range_with_len, position_or_len}
use Rattle.std.proofs.lemmas.Bool.{ne_eqb}
use Rattle.std.proofs.lemmas.Option.{slice_get-get_or}
use Rattle.std.proofs.lemmas.List.Sums.{position_or_len_is}
use Rattle.std.proofs.lemmas.List.FromFn.{length-map-range_with_len, get_or-map-range_with_len}
use Rattle.std.proofs.lemmas.List.{get_or_append_left, get_or-append-add, get_or-map, get_or-take, get_or-drop}
use Rattle.std.proofs.lemmas.List.Elements.{All-take, All-drop}
use Rattle.list_packing.specs.Parts.{filled, blocks}
use Rattle.list_packing.proofs.PartsLemmas.{length-blocks}
use Rattle.two_level.specs.Shape.{Shape}
use Rattle.two_level.specs.Plan.{DataPointers, BlockPointers, plan, block_count}
use Rattle.two_level.specs.Laid.{Laid, laid, pointers}
use Rattle.two_level.specs.Opened.{followed, opened, in_array}
use Rattle.two_level.proofs.ReadLemmas.{leading-filled, followed-blocks}
use Rattle.two_level.proofs.LaidLemmas.{laid_cases, length-pointers, length-laid_blocks}

-- the blocks of a layout, where a pointer made of a rank gives the block of that number
pub record IsAtRanks (block : ℕ → ℕ → Option (List ℕ)) (ranks : List ℕ) (blocks : List (List ℕ)) : Type 0 where
  pub each : (i : ℕ) → i < length blocks → block i (slice_index ranks i + 1) ≡ Some (get_or blocks i [])

pointers_positive : (ranks : List ℕ) → All (λ m. 0 < m) (pointers ranks)
pointers_positive ranks k d within =
    let inside : k < length ranks = omega (arith, length-pointers ranks) in
    rw (get_or-map (λ rank. rank + 1) ranks k d d inside) (omega arith)

-- what stands at the pointer of block i
at_pointer : (block : ℕ → ℕ → Option (List ℕ)) (ranks : List ℕ) (bs : List (List ℕ)) (i : ℕ)
    → IsAtRanks block ranks bs → i < length ranks → i < length bs
    → block i (slice_index (pointers ranks) i) ≡ Some (get_or bs i [])
at_pointer block ranks bs i placed ranked within =
    rw (get_or-map (λ rank. rank + 1) ranks i 0 0 ranked) (placed.each i within)

-- one level: the cell points to the blocks of identifiers
one_level : (block : ℕ → ℕ → Option (List ℕ)) (b big : ℕ) (ranks ids : List ℕ)
    → 0 < big
    → All (λ id. 0 < id) ids
    → length ranks ≡ div_ceil (length ids) big
    → IsAtRanks block ranks (blocks big ids)
    → opened block DataPointers (filled b (pointers ranks)) ≡ Some ids
one_level block b big ranks ids some form count placed =
    let many : length (blocks big ids) ≡ length ranks = length-blocks big ids ∙ sym count in
    ap (option_and_then (followed block 0)) (leading-filled b (pointers ranks) (pointers_positive ranks))
    ∙ followed-blocks block 0 big (pointers ranks) ids some (length-pointers ranks ∙ count)
    (λ i within.
    let ranked : i < length ranks = omega (arith, length-pointers ranks) in
    rw zero-add (at_pointer block ranks (blocks big ids) i placed ranked (omega arith)))
    form

-- two levels: the first p pointers are to blocks of pointers, the others to the blocks of identifiers
two_levels : (block : ℕ → ℕ → Option (List ℕ)) (b big p d : ℕ) (ranks ids : List ℕ)
    → 0 < big
    → All (λ id. 0 < id) ids
    → div_ceil (length ids) big ≡ d
    → div_ceil d big ≡ p
    → length ranks ≡ p + d
    → IsAtRanks block ranks (blocks big (drop p (pointers ranks)) ++ blocks big ids)
    → opened block BlockPointers (filled b (take p (pointers ranks))) ≡ Some ids
two_levels block b big p d ranks ids some form lowest topmost count placed =
    let ps : List ℕ = pointers ranks in
    let upper : List (List ℕ) = blocks big (drop p ps) in
    let lower : List (List ℕ) = blocks big ids in
    let all : length ps ≡ p + d = length-pointers ranks ∙ count in
    let first : length (take p ps) ≡ p = omega (arith, length-take p ps) in
    let rest : length (drop p ps) ≡ d = omega (arith, length-drop p ps) in
    let many_upper : length upper ≡ p = length-blocks big (drop p ps) ∙ ap (λ k. div_ceil k big) rest ∙ topmost in
    let many_lower : length lower ≡ d = length-blocks big ids ∙ lowest in
    let top : followed block 0 (take p ps) ≡ Some (drop p ps) =
    followed-blocks block 0 big (take p ps) (drop p ps) some (first ∙ sym many_upper ∙ length-blocks big (drop p ps))
    (λ i within.
    let below : i < p = omega arith in
    rw (zero-add, get_or-take p ps i 0 below) (at_pointer block ranks (upper ++ lower) i placed (omega arith) (omega (arith, length-append upper lower)))
    ∙ ap (λ block. Some block) (get_or_append_left upper lower [] i (omega arith)))
    (All-drop (λ m. 0 < m) p ps (pointers_positive ranks)) in
    let low : followed block p (drop p ps) ≡ Some ids =
    followed-blocks block p big (drop p ps) ids some (rest ∙ sym lowest)
    (λ i within.
    let second : get_or (upper ++ lower) (p + i) [] ≡ get_or lower i [] =
    ap (λ k. get_or (upper ++ lower) (k + i) []) (sym many_upper) ∙ get_or-append-add upper lower i [] in
    rw get_or-drop (at_pointer block ranks (upper ++ lower) (p + i) placed (omega arith) (omega (arith, length-append upper lower)))
    ∙ ap (λ block. Some block) second)
    form in
    ap (option_and_then (λ read. option_and_then (followed block (length read)) (followed block 0 read)))
    (leading-filled b (take p ps) (All-take (λ m. 0 < m) p ps (pointers_positive ranks)))
    ∙ ap (option_and_then (followed block (length (take p ps)))) top
    ∙ ap (λ k. followed block k (drop p ps)) first
    ∙ low

-- opened of laid is the list, for every reader that finds each block at its rank
pub opened-laid : (s : Shape) (ranks ids : List ℕ) (l : Laid) (block : ℕ → ℕ → Option (List ℕ))
    → 0 < s.big
    → All (λ id. 0 < id) ids
    → laid s ranks ids ≡ Some l
    → length ranks ≡ block_count (plan s (length ids))
    → IsAtRanks block ranks l.blocks
    → opened block l.kind l.numbers ≡ Some ids
opened-laid s ranks ids l block some form is count =
    laid_cases s ranks ids l (λ m. IsAtRanks block ranks m.blocks → opened block m.kind m.numbers ≡ Some ids)
    (λ fits none placed. leading-filled s.b ids form)
    (λ fits same placed. one_level block s.b s.big ranks ids some form same placed)
    (λ p d fits lowest topmost same placed. two_levels block s.b s.big p d ranks ids some form lowest topmost same placed)
    is count

-- an array in the clear has each block at the place that its rank says
pub record IsInArray (array : List (List ℕ)) (ranks : List ℕ) (blocks : List (List ℕ)) : Type 0 where
  pub each : (i : ℕ) → i < length blocks → slice_get array (slice_index ranks i) ≡ Some (get_or blocks i [])

-- opened of laid is the list, in an array in the clear
pub opened-laid_in_array : (s : Shape) (ranks ids : List ℕ) (l : Laid) (array : List (List ℕ))
    → 0 < s.big
    → All (λ id. 0 < id) ids
    → laid s ranks ids ≡ Some l
    → length ranks ≡ block_count (plan s (length ids))
    → IsInArray array ranks l.blocks
    → opened (in_array array) l.kind l.numbers ≡ Some ids
opened-laid_in_array s ranks ids l array some form is count placed =
    opened-laid s ranks ids l (in_array array) some form is count
    (record { each = λ i within. rw add-one (placed.each i within) })

-- the array of places below m that has each block at its rank
abbrev pub arranged : ℕ → List ℕ → List (List ℕ) → List (List ℕ)
arranged m ranks blocks =
    map (λ place. get_or blocks (position_or_len (λ rank. rank == place) ranks) []) (range_with_len 0 m)

arranged-places : (m : ℕ) (ranks : List ℕ) (blocks : List (List ℕ))
    → AllPairs (λ x y. x ≢ y) ranks
    → All (λ rank. rank < m) ranks
    → length blocks ≡ length ranks
    → IsInArray (arranged m ranks blocks) ranks blocks
arranged-places m ranks blocks apart below same = record {
  each = λ i within.
      let inside : i < length ranks = omega arith in
      let rank : ℕ = slice_index ranks i in
      let low : rank < m = below i 0 inside in
      let place : position_or_len (λ r. r == rank) ranks ≡ i =
      position_or_len_is (λ r. r == rank) ranks i 0 (omega arith) (λ k before. ne_eqb (slice_index ranks k) rank (apart k i 0 before inside))
      (λ lt. eq-eqb rank rank refl) in
      slice_get-get_or (arranged m ranks blocks) rank [] (omega (arith, length-map-range_with_len (λ q. get_or blocks (position_or_len (λ r. r == q) ranks) []) 0 m))
      ∙ ap (λ b. Some b) (get_or-map-range_with_len _ 0 m rank rank [] low (zero-add rank) ∙ ap (λ k. get_or blocks k []) place);
}

-- opened of laid is the list, for all ranks without repeats
pub opened-laid_arranged : (s : Shape) (m : ℕ) (ranks ids : List ℕ) (l : Laid)
    → 0 < s.big
    → All (λ id. 0 < id) ids
    → AllPairs (λ x y. x ≢ y) ranks
    → All (λ rank. rank < m) ranks
    → laid s ranks ids ≡ Some l
    → length ranks ≡ block_count (plan s (length ids))
    → opened (in_array (arranged m ranks l.blocks)) l.kind l.numbers ≡ Some ids
opened-laid_arranged s m ranks ids l some form apart below is count =
    opened-laid_in_array s ranks ids l (arranged m ranks l.blocks) some form is count
    (arranged-places m ranks l.blocks apart below (length-laid_blocks s ranks ids l is count))
