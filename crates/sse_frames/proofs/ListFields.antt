-- The fields of entries, blocks, revocation numbers and identifiers, one after the other.
use Rattle.std.proofs.Common.{◌≡◌, ℕ, suc, ◌+◌, ◌-◌, ◌<◌, Bool, true, false, List, Option, refl, sym, ◌∙◌, arith}
use Rattle.std.specs.Int.{w64}
use Rattle.sse_frames.specs.declared.fault.FrameFault.{FrameFault}
use Rattle.sse_frames.specs.Fields.{rising_field, bytes_field, range_field, entry_fields, block_fields, number_fields, id_fields, first_fault}

-- one entry more stands
pub entries_go_on : (first : Bool) (width count i at : ℕ) (body : List ℕ) (o : Option FrameFault) → i < count
    → (rising_field first (16 + width) at).stands body ≡ true → (bytes_field width (at + 16)).stands body ≡ true
    → first_fault (entry_fields first width (count - i) at) body ≡ o
    → first_fault (entry_fields false width (count - (i + 1)) (at + (16 + width))) body ≡ o
entries_go_on first width count i at body o lt label text so_far =
    let k : count - i ≡ suc (count - (i + 1)) = omega arith in
    let one : first_fault (entry_fields first width (count - i) at) body ≡ first_fault (entry_fields false width (count - (i + 1)) (at + (16 + width))) body = rw (k, label, text) refl in
    sym one ∙ so_far

-- one block more stands
pub blocks_go_on : (width count i at : ℕ) (body : List ℕ) (o : Option FrameFault) → i < count → (bytes_field width at).stands body ≡ true
    → first_fault (block_fields width (count - i) at) body ≡ o → first_fault (block_fields width (count - (i + 1)) (at + width)) body ≡ o
blocks_go_on width count i at body o lt stands so_far =
    let k : count - i ≡ suc (count - (i + 1)) = omega arith in
    let one : first_fault (block_fields width (count - i) at) body ≡ first_fault (block_fields width (count - (i + 1)) (at + width)) body = rw (k, stands) refl in
    sym one ∙ so_far

-- one revocation number more stands
pub numbers_go_on : (first : Bool) (count i at : ℕ) (body : List ℕ) (o : Option FrameFault) → i < count → (rising_field first 16 at).stands body ≡ true
    → first_fault (number_fields first (count - i) at) body ≡ o → first_fault (number_fields false (count - (i + 1)) (at + 16)) body ≡ o
numbers_go_on first count i at body o lt stands so_far =
    let k : count - i ≡ suc (count - (i + 1)) = omega arith in
    let one : first_fault (number_fields first (count - i) at) body ≡ first_fault (number_fields false (count - (i + 1)) (at + 16)) body = rw (k, stands) refl in
    sym one ∙ so_far

-- one identifier more stands
pub ids_go_on : (count i at : ℕ) (body : List ℕ) (o : Option FrameFault) → i < count → (range_field w64 1 0xffffffffffffffff at).stands body ≡ true
    → first_fault (id_fields (count - i) at) body ≡ o → first_fault (id_fields (count - (i + 1)) (at + 8)) body ≡ o
ids_go_on count i at body o lt stands so_far =
    let k : count - i ≡ suc (count - (i + 1)) = omega arith in
    let one : first_fault (id_fields (count - i) at) body ≡ first_fault (id_fields (count - (i + 1)) (at + 8)) body = rw (k, stands) refl in
    sym one ∙ so_far
