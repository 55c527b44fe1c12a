use Rattle.std.proofs.Common.{◌≡◌, ℕ, ◌≤◌, List, take, refl, sym, ap, ◌∙◌, Ok, Some, None}
use Rattle.std.specs.Prelude.{Option, IfSome, All, option_and_then}
use Rattle.list_packing.specs.Numbers.{numbers_of}
use Rattle.list_packing.proofs.NumbersLemmas.{numbers_of-take}
use Rattle.two_level.specs.Read.{bad_pointer, block_read}
use Rattle.two_level.specs.declared.cell_fault.CellFault.TheVariants.{BadPointer}
use Rattle.two_level.proofs.FormLemmas.{block_read-unpacked, block_read-refused, block_read-pointers}
use Rattle.two_level.proofs.cell_reader.read_block.Goals as goal
use Rattle.two_level.proofs.cell_reader.read_block.Goals.{in-Some+in_default-first_bad_pointer, in_default}

-- the first bad pointer among the numbers before the zeros
abbrev bad_in : ℕ → List ℕ → Option ℕ → Option ℕ
bad_in count ns pointed = option_and_then (λ blocks. bad_pointer blocks (take count ns)) pointed

pub returns-in-Some-first_bad_pointer-clause-exact :
    goal.returns-in-Some-first_bad_pointer-clause-exact
returns-in-Some-first_bad_pointer-clause-exact c =
    let ns = numbers_of c.args.clear.now in
    let count = c.in_ok-count.count in
    let bad : bad_in count ns c.args.pointers_below ≡ Some c.in-Some-first_bad_pointer.place =
    ap (bad_in count ns) c.in-Some.is
    ∙ ap (bad_pointer c.in-Some.blocks) (sym (numbers_of-take c.args.clear.now count c.requires.numbers c.in_ok-count.ensures.within))
    ∙ sym c.first_bad_pointer.ensures ∙ c.in-Some-first_bad_pointer.is in
    sym (block_read-unpacked ns count c.args.pointers_below (Some c.in-Some-first_bad_pointer.place) c.in_ok-count.ensures.exact bad)

pub returns-in-Some-first_bad_pointer-clause-no_list :
    goal.returns-in-Some-first_bad_pointer-clause-no_list
returns-in-Some-first_bad_pointer-clause-no_list c =
    block_read-refused c.args.pointers_below (numbers_of c.args.clear.now) (BadPointer c.in-Some-first_bad_pointer.place)
    (sym (returns-in-Some-first_bad_pointer-clause-exact c))

pub returns-clause-exact : goal.returns-clause-exact
returns-clause-exact c =
    let ns = numbers_of c.args.clear.now in
    let count = c.in_ok-count.count in
    let bad : bad_in count ns c.args.pointers_below ≡ None =
    elim c.match-pointers_below.branch [
      | in-Some+in_default-first_bad_pointer w ↦
          ap (bad_in count ns) w.in-Some.is
          ∙ ap (bad_pointer w.in-Some.blocks) (sym (numbers_of-take c.args.clear.now count c.requires.numbers c.in_ok-count.ensures.within))
          ∙ sym w.first_bad_pointer.ensures ∙ w.in_default-first_bad_pointer.is
      | in_default w ↦ ap (bad_in count ns) w.in_default.is
    ] in
    sym (block_read-unpacked ns count c.args.pointers_below None c.in_ok-count.ensures.exact bad)

pub returns-clause-pointers : goal.returns-clause-pointers
returns-clause-pointers c = by c.args.pointers_below (sym (returns-clause-exact c))
  where
    by : (o : Option ℕ) → block_read o (numbers_of c.args.clear.now) ≡ Ok c.in_ok-count.count
        → IfSome o (λ blocks. All (λ pointer. pointer ≤ blocks) (take c.in_ok-count.count (numbers_of c.args.clear.now)))
    by None is = tt
    by (Some blocks) is = block_read-pointers (Some blocks) (numbers_of c.args.clear.now) blocks c.in_ok-count.count refl is
