-- What follows from the form of a cell or of a block: its numbers, or that no list is behind it.
use Rattle.std.proofs.Common.{◌≡◌, ℕ, zero, suc, ◌+◌, ◌<◌, ◌≤◌, Bool, true, false, cond, List, [], ◌∷◌, length, take, drop, get_or, refl, sym, ap, subst, ◌∙◌, arith, All}
use Rattle.std.specs.Prelude.{Option, Some, None, option_map, option_and_then, nat_lt, Result, Ok, Err, Any, IfSome, IsSomeAnd, OnErr, slice_index}
use Rattle.std.specs.Option.{option_or, option_map_or}
use Rattle.std.specs.List.{position_from}
use Rattle.std.proofs.lemmas.Bool.{ltb-true, ltb-false}
use Rattle.std.proofs.lemmas.List.Elements.{All-nil, All-cons}
use Rattle.list_packing.specs.LeadingNumbers.{leading, leading_count, first_hole}
use Rattle.list_packing.specs.declared.hole.HoleInBlock.{HoleInBlock}
use Rattle.list_packing.specs.Unpacked.{unpacked}
use Rattle.list_packing.proofs.LeadingLemmas.{unless_hole, leading-first_hole}
use Rattle.two_level.specs.declared.cell_fault.CellFault.{CellFault}
use Rattle.two_level.specs.declared.cell_fault.CellFault.TheVariants.{BadKind, Hole, BadPointer}
use Rattle.two_level.specs.declared.cell_read.CellRead.{CellRead}
use Rattle.two_level.specs.Plan.{CellKind, Identifiers, DataPointers, BlockPointers}
use Rattle.two_level.specs.Opened.{numbers_of, kind_of, joined, followed, opened, cell_list, EndsAfter}
use Rattle.two_level.specs.Read.{bad_pointer, pointed_to, form_fault, block_read, cell_read}

-- ---- bad pointers

abbrev above : ℕ → ℕ → Bool
above blocks pointer = nat_lt blocks pointer

none_above : (blocks i : ℕ) (ps : List ℕ) → position_from (above blocks) i ps ≡ None → All (λ p. p ≤ blocks) ps
none_above blocks i [] none = All-nil (λ p. p ≤ blocks)
none_above blocks i (p ∷ ps) none = by (nat_lt blocks p) refl (none_above blocks (i + 1) ps) none
  where
    by : (b : Bool) → nat_lt blocks p ≡ b → (position_from (above blocks) (i + 1) ps ≡ None → All (λ q. q ≤ blocks) ps)
        → cond b (Some i) (position_from (above blocks) (i + 1) ps) ≡ None → All (λ q. q ≤ blocks) (p ∷ ps)
    by true is rest found = absurd (cc)
    by false is rest later = All-cons (λ q. q ≤ blocks) p ps (ltb-false blocks p is) (rest later)

-- where no pointer is bad, each points to a block
pub bad_pointer-none : (blocks : ℕ) (ps : List ℕ) → bad_pointer blocks ps ≡ None → All (λ p. p ≤ blocks) ps
bad_pointer-none blocks ps none = none_above blocks 0 ps none

-- an element one place further is one of the longer list
later_one : (P : ℕ → Type 0) (p : ℕ) (ps : List ℕ) → Any P ps → Any P (p ∷ ps)
later_one P p ps at = (suc at.0, at.1, omega (arith, at.2), at.3, at.4)

one_above : (blocks i place : ℕ) (ps : List ℕ) → position_from (above blocks) i ps ≡ Some place → Any (λ p. blocks < p) ps
one_above blocks i place [] found = absurd (cc)
one_above blocks i place (p ∷ ps) found = by (nat_lt blocks p) refl (one_above blocks (i + 1) place ps) found
  where
    by : (b : Bool) → nat_lt blocks p ≡ b → (position_from (above blocks) (i + 1) ps ≡ Some place → Any (λ q. blocks < q) ps)
        → cond b (Some i) (position_from (above blocks) (i + 1) ps) ≡ Some place → Any (λ q. blocks < q) (p ∷ ps)
    by true is rest here = (0, p, omega arith, refl, ltb-true blocks p is)
    by false is rest later = later_one (λ q. blocks < q) p ps (rest later)

-- a bad pointer is past the last block
pub bad_pointer-some : (blocks place : ℕ) (ps : List ℕ) → bad_pointer blocks ps ≡ Some place → Any (λ p. blocks < p) ps
bad_pointer-some blocks place ps found = one_above blocks 0 place ps found

joined-None : (o : Option (List ℕ)) → joined o None ≡ None
joined-None None = refl
joined-None (Some xs) = refl

followed_past : (block : ℕ → ℕ → Option (List ℕ)) (blocks first : ℕ) (ps : List ℕ) (k p : ℕ) → EndsAfter blocks block
    → k < length ps → get_or ps k p ≡ p → blocks < p → followed block first ps ≡ None
followed_past block blocks first [] k p ends within at past = absurd (omega arith)
followed_past block blocks first (q ∷ qs) zero p ends within at past =
    ap (λ o. joined (option_and_then leading o) (followed block (first + 1) qs)) (ends.past first q (subst (λ m. blocks < m) (sym at) past))
followed_past block blocks first (q ∷ qs) (suc k) p ends within at past =
    ap (joined (option_and_then leading (block first q))) (followed_past block blocks (first + 1) qs k p ends (omega arith) at past)
    ∙ joined-None (option_and_then leading (block first q))

-- where a pointer is past the last block, no list is behind the pointers
pub followed-past : (block : ℕ → ℕ → Option (List ℕ)) (blocks first : ℕ) (ps : List ℕ) → EndsAfter blocks block
    → Any (λ p. blocks < p) ps → followed block first ps ≡ None
followed-past block blocks first ps ends at = followed_past block blocks first ps at.0 at.1 ends at.2 at.3 at.4

-- ---- blocks

module _ (pointed : Option ℕ) (ns : List ℕ) where
  abbrev front : List ℕ
  front = take (leading_count ns) ns

  -- the answer at this first hole, this bad pointer and this count
  abbrev answer : Option ℕ → Option CellFault → Result ℕ CellFault
  answer hole past = option_map_or (λ f. Err f) (option_or (option_map (λ place. Hole place) hole) past) (Ok (leading_count ns))

  abbrev past : Option CellFault
  past = option_and_then (λ blocks. option_map (λ place. BadPointer place) (bad_pointer blocks front)) pointed

  accepted : (hole : Option ℕ) (p : Option CellFault) (count : ℕ) → answer hole p ≡ Ok count → (hole ≡ None) × (p ≡ None) × (leading_count ns ≡ count)
  accepted (Some place) p count is = absurd (cc)
  accepted None (Some fault) count is = absurd (cc)
  accepted None None count is = (refl, refl, cc)

  -- the numbers of a block that has the form are those before its zeros
  pub block_read-front : (count : ℕ) → block_read pointed ns ≡ Ok count → leading ns ≡ Some (take count ns)
  block_read-front count is =
      let parts = accepted (first_hole ns) past count is in
      leading-first_hole ns ∙ ap (λ o. unless_hole o front) parts.0 ∙ ap (λ n. Some (take n ns)) parts.2

  -- and each of them points to a block, where they are pointers
  pub block_read-pointers : (blocks count : ℕ) → pointed ≡ Some blocks → block_read pointed ns ≡ Ok count → All (λ p. p ≤ blocks) (take count ns)
  block_read-pointers blocks count known is =
      let parts = accepted (first_hole ns) past count is in
      let here : option_map (λ place. BadPointer place) (bad_pointer blocks front) ≡ None =
      sym (ap (λ o. option_and_then (λ m. option_map (λ place. BadPointer place) (bad_pointer m front)) o) known) ∙ parts.1 in
      subst (λ n. All (λ p. p ≤ blocks) (take n ns)) parts.2 (bad_pointer-none blocks front (unmapped (bad_pointer blocks front) here))
    where
      unmapped : (o : Option ℕ) → option_map (λ place. BadPointer place) o ≡ None → o ≡ None
      unmapped None none = refl
      unmapped (Some place) none = absurd (cc)

  -- where a block is refused, a number stands after a zero, or a pointer is past the last block
  pub block_read-refused : (fault : CellFault) → block_read pointed ns ≡ Err fault → IfSome (leading ns) (λ numbers. IsSomeAnd pointed (λ blocks. Any (λ p. blocks < p) numbers))
  block_read-refused fault is =
      subst (λ o. IfSome o (λ numbers. IsSomeAnd pointed (λ blocks. Any (λ p. blocks < p) numbers))) (sym (leading-first_hole ns))
      (by_hole (first_hole ns) is)
    where
      by_pointer : (blocks : ℕ) (o : Option ℕ) → bad_pointer blocks front ≡ o → answer None (option_map (λ place. BadPointer place) o) ≡ Err fault → Any (λ p. blocks < p) front
      by_pointer blocks None none e = absurd (cc)
      by_pointer blocks (Some place) found e = bad_pointer-some blocks place front found

      by_pointed : (o : Option ℕ) → answer None (option_and_then (λ blocks. option_map (λ place. BadPointer place) (bad_pointer blocks front)) o) ≡ Err fault
          → IsSomeAnd o (λ blocks. Any (λ p. blocks < p) front)
      by_pointed None e = absurd (cc)
      by_pointed (Some blocks) e = by_pointer blocks (bad_pointer blocks front) refl e

      by_hole : (hole : Option ℕ) → answer hole past ≡ Err fault → IfSome (unless_hole hole front) (λ numbers. IsSomeAnd pointed (λ blocks. Any (λ p. blocks < p) numbers))
      by_hole (Some place) e = tt
      by_hole None e = by_pointed pointed e

-- ---- cells

module _ (block : ℕ → ℕ → Option (List ℕ)) (blocks : ℕ) (ends : EndsAfter blocks block) where
  no_identifiers : (o : Option (List ℕ)) → IfSome o (λ numbers. IsSomeAnd (pointed_to Identifiers blocks) (λ m. Any (λ p. m < p) numbers)) → o ≡ None
  no_identifiers None refused = refl
  no_identifiers (Some numbers) refused = absurd refused

  no_data : (o : Option (List ℕ)) → IfSome o (λ numbers. IsSomeAnd (pointed_to DataPointers blocks) (λ m. Any (λ p. m < p) numbers)) → option_and_then (followed block 0) o ≡ None
  no_data None refused = refl
  no_data (Some numbers) refused = followed-past block blocks 0 numbers ends refused

  no_tops : (o : Option (List ℕ)) → IfSome o (λ numbers. IsSomeAnd (pointed_to BlockPointers blocks) (λ m. Any (λ p. m < p) numbers))
      → option_and_then (λ tops. option_and_then (followed block (length tops)) (followed block 0 tops)) o ≡ None
  no_tops None refused = refl
  no_tops (Some numbers) refused = ap (option_and_then (followed block (length numbers))) (followed-past block blocks 0 numbers ends refused)

  -- no list is behind a cell whose numbers are refused
  pub opened-refused : (kind : CellKind) (ns : List ℕ) (fault : CellFault) → block_read (pointed_to kind blocks) ns ≡ Err fault → opened block kind ns ≡ None
  opened-refused Identifiers ns fault is = no_identifiers (leading ns) (block_read-refused None ns fault is)
  opened-refused DataPointers ns fault is = no_data (leading ns) (block_read-refused (Some blocks) ns fault is)
  opened-refused BlockPointers ns fault is = no_tops (leading ns) (block_read-refused (Some blocks) ns fault is)

-- nor after one that is refused
pub cell_read-refused : (blocks : ℕ) (cell : List ℕ) (r : Result CellRead CellFault) → 0 < length cell
    → r ≡ cell_read blocks (slice_index cell 0) (numbers_of (drop 1 cell))
    → OnErr r ((block : ℕ → ℕ → Option (List ℕ)) → EndsAfter blocks block → cell_list block cell ≡ None)
cell_read-refused blocks [] r some is = absurd (omega arith)
cell_read-refused blocks (kind ∷ bytes) (Ok read) some is = tt
cell_read-refused blocks (kind ∷ bytes) (Err fault) some is = λ block ends. by block ends (kind_of kind) refl is
  where
    ns : List ℕ
    ns = numbers_of bytes

    answer : Option CellFault → Result CellRead CellFault
    answer o = option_map_or (λ f. Err f) o (Ok (record { kind = kind; count = leading_count ns }))

    by_form : (o : Option CellFault) → Err fault ≡ answer o → option_map_or (λ f. Err f) o (Ok (leading_count ns)) ≡ Err fault
    by_form None e = absurd (cc)
    by_form (Some f) e = cc

    by : (block : ℕ → ℕ → Option (List ℕ)) → EndsAfter blocks block → (o : Option CellKind) → kind_of kind ≡ o
        → Err fault ≡ answer (option_map_or (λ k. form_fault (pointed_to k blocks) ns) o (Some (BadKind kind)))
        → option_and_then (λ k. opened block k ns) o ≡ None
    by block ends None known e = refl
    by block ends (Some k) known e = opened-refused block blocks ends k ns fault (by_form (form_fault (pointed_to k blocks) ns) e)

-- ---- what the code has tested so far

-- where a block is unpacked, it has no hole, and the count is that of its leading numbers
pub unpacked-Ok : (ns : List ℕ) (count : ℕ) → Ok count ≡ unpacked ns → (first_hole ns ≡ None) × (leading_count ns ≡ count)
unpacked-Ok ns count is = by (first_hole ns) is
  where
    answer : Option ℕ → Result ℕ HoleInBlock
    answer o = option_map_or (λ place. Err (record { 0 = place })) o (Ok (leading_count ns))

    by : (o : Option ℕ) → Ok count ≡ answer o → (o ≡ None) × (leading_count ns ≡ count)
    by None e = (refl, cc)
    by (Some place) e = absurd (cc)

-- the answer for an unpacked block: its first bad pointer, where its numbers are pointers
pub block_read-unpacked : (ns : List ℕ) (count : ℕ) (pointed bad : Option ℕ) → Ok count ≡ unpacked ns
    → option_and_then (λ blocks. bad_pointer blocks (take count ns)) pointed ≡ bad
    → block_read pointed ns ≡ option_map_or (λ place. Err (BadPointer place)) bad (Ok count)
block_read-unpacked ns count pointed bad is here =
    let parts = unpacked-Ok ns count is in
    ap (λ o. option_map_or (λ f. Err f) (option_or (option_map (λ place. Hole place) o) (option_and_then (λ blocks. option_map (λ place. BadPointer place) (bad_pointer blocks (take (leading_count ns) ns))) pointed)) (Ok (leading_count ns))) parts.0
    ∙ ap (λ n. option_map_or (λ f. Err f) (option_and_then (λ blocks. option_map (λ place. BadPointer place) (bad_pointer blocks (take n ns))) pointed) (Ok n)) parts.1
    ∙ by pointed
    ∙ ap (λ o. option_map_or (λ place. Err (BadPointer place)) o (Ok count)) here
  where
    mapped : (o : Option ℕ) → option_map_or (λ f. Err f) (option_map (λ place. BadPointer place) o) (Ok count) ≡ option_map_or (λ place. Err (BadPointer place)) o (Ok count)
    mapped None = refl
    mapped (Some place) = refl

    by : (o : Option ℕ) → option_map_or (λ f. Err f) (option_and_then (λ blocks. option_map (λ place. BadPointer place) (bad_pointer blocks (take count ns))) o) (Ok count)
        ≡ option_map_or (λ place. Err (BadPointer place)) (option_and_then (λ blocks. bad_pointer blocks (take count ns)) o) (Ok count)
    by None = refl
    by (Some blocks) = mapped (bad_pointer blocks (take count ns))
