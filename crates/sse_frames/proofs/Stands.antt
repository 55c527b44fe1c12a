-- When the fields of a body stand.
use Rattle.std.proofs.Common.{◌≡◌, ℕ, ◌+◌, ◌-◌, ◌<◌, ◌≤◌, Bool, true, false, ◌||◌, List, [], ◌∷◌, ◌++◌, length, get_or, take, drop, None, refl, sym, ap, subst, ◌∙◌, append_assoc, length-append, arith}
use Rattle.std.specs.Int.{Width, w64, byte_len, from_be_bytes}
use Rattle.std.specs.Ordering.{is_lt}
use Rattle.std.specs.List.{flat_map, AllByRecursion}
use Rattle.std.specs.List.Sorted.{IsStrictlySortedBy}
use Rattle.std.proofs.lemmas.Bool.{and_from, le-leb, eq-eqb}
use Rattle.std.proofs.lemmas.List.{take_at, drop_at, drop-drop, length-drop}
use Rattle.std.proofs.lemmas.Nat.{from_be_bytes-to_be_bytes_8}
use Rattle.sse_frames.proofs.Faults.{first_fault-append}
use Rattle.sse_frames.specs.Frames.{Entry, entry_bytes, joined, be64, IsBytes, IsEntry, Rises, labels_of}
use Rattle.sse_frames.specs.Replies.{IsIdentifier}
use Rattle.sse_frames.specs.Fields.{Field, bytes_at, number_at, is_above, bytes_field, byte_field, range_field, rising_field, entry_fields, block_fields, number_fields, id_fields, end_field, first_fault}

-- one more field that stands
pub stands_then : (field : Field) (fields : List Field) (body : List ℕ) → field.stands body ≡ true → first_fault fields body ≡ None → first_fault (field ∷ fields) body ≡ None
stands_then field fields body stands none = rw stands none

pub no_fault-append : (fields more : List Field) (body : List ℕ) → first_fault fields body ≡ None → first_fault more body ≡ None → first_fault (fields ++ more) body ≡ None
no_fault-append fields more body none rest = first_fault-append fields more body none ∙ rest

pub range_stands : (w : Width) (low high place n : ℕ) (body : List ℕ) → place + byte_len w ≤ length body → number_at w place body ≡ n → low ≤ n → n ≤ high → (range_field w low high place).stands body ≡ true
range_stands w low high place n body inside is above below =
    let low_is : low ≤ number_at w place body = rw is above in
    let high_is : number_at w place body ≤ high = rw is below in
    and_from _ _ (le-leb _ _ inside) (and_from _ _ (le-leb _ _ low_is) (le-leb _ _ high_is))

pub byte_stands : (low high place n : ℕ) (body : List ℕ) → place + 1 ≤ length body → get_or body place 0 ≡ n → low ≤ n → n ≤ high → (byte_field low high place).stands body ≡ true
byte_stands low high place n body inside is above below =
    let low_is : low ≤ get_or body place 0 = rw is above in
    let high_is : get_or body place 0 ≤ high = rw is below in
    and_from _ _ (le-leb _ _ inside) (and_from _ _ (le-leb _ _ low_is) (le-leb _ _ high_is))

pub end_stands : (place : ℕ) (body : List ℕ) → length body ≡ place → (end_field place).stands body ≡ true
end_stands place body is = eq-eqb _ _ is

-- the bytes at a place, and those after them
pub record Holds (place size : ℕ) (bytes body rest : List ℕ) : Type 0 where
  pub inside : place + size ≤ length body
  pub here : bytes_at place size body ≡ bytes
  pub after : drop (place + size) body ≡ rest

pub holds : (place size : ℕ) (bytes body rest : List ℕ) → 0 < size → length bytes ≡ size → drop place body ≡ bytes ++ rest → Holds place size bytes body rest
holds place size bytes body rest some len e =
    let long : length (drop place body) ≡ length (bytes ++ rest) = ap length e in
    record {
      inside = omega (arith, long, length-drop place body, length-append bytes rest, len, some);
      here = ap (take size) e ∙ take_at bytes rest size len;
      after = sym (drop-drop size place body) ∙ ap (drop size) e ∙ drop_at bytes rest size len;
    }

above_or_first : (first : Bool) (above : Bool) → (first ≡ false → above ≡ true) → (first || above) ≡ true
above_or_first true above h = refl
above_or_first false above h = h refl

-- entries of one size whose labels rise
pub entries_no_fault : (first : Bool) (width : ℕ) (entries : List Entry) (place : ℕ) (body rest : List ℕ) → drop place body ≡ flat_map entry_bytes entries ++ rest
    → AllByRecursion (IsEntry width) entries → Rises (labels_of entries) → (first ≡ false → Rises (bytes_at (place - (16 + width)) 16 body ∷ labels_of entries))
    → first_fault (entry_fields first width (length entries) place) body ≡ None
unfolding IsStrictlySortedBy
entries_no_fault first width [] place body rest e all rises behind = refl
entries_no_fault first width (entry ∷ entries) place body rest e all rises behind =
    let more = flat_map entry_bytes entries ++ rest in
    let others = entry_fields false width (length entries) (place + (16 + width)) in
    let len : length (entry_bytes entry) ≡ 16 + width = omega (arith, length-append entry.label entry.text, all.0.label.size_is, all.0.text.size_is) in
    let h = holds place (16 + width) (entry_bytes entry) body more (omega arith) len (e ∙ append_assoc (entry_bytes entry) (flat_map entry_bytes entries) rest) in
    let label : bytes_at place 16 body ≡ entry.label =
    ap (take 16) (e ∙ append_assoc (entry_bytes entry) (flat_map entry_bytes entries) rest ∙ append_assoc entry.label entry.text more) ∙ take_at entry.label (entry.text ++ more) 16 all.0.label.size_is in
    let back : place + (16 + width) - (16 + width) ≡ place = omega arith in
    let above : first ≡ false → is_above place (16 + width) body ≡ true = λ f. rw label (ap is_lt (behind f).0.0) in
    stands_then (rising_field first (16 + width) place) (bytes_field width (place + 16) ∷ others) body (and_from _ _ (le-leb _ _ (omega (arith, h.inside))) (above_or_first first (is_above place (16 + width) body) above))
    (stands_then (bytes_field width (place + 16)) others body (le-leb _ _ (omega (arith, h.inside)))
    (entries_no_fault false width entries (place + (16 + width)) body rest h.after all.1 rises.1 (λ f. subst (λ (p : ℕ). Rises (bytes_at p 16 body ∷ labels_of entries)) (sym back) (subst (λ (l : List ℕ). Rises (l ∷ labels_of entries)) (sym label) rises))))

-- blocks of one size
pub blocks_no_fault : (width : ℕ) (blocks : List (List ℕ)) (place : ℕ) (body rest : List ℕ) → 0 < width → drop place body ≡ joined blocks ++ rest → AllByRecursion (IsBytes width) blocks
    → first_fault (block_fields width (length blocks) place) body ≡ None
blocks_no_fault width [] place body rest wide e all = refl
blocks_no_fault width (block ∷ blocks) place body rest wide e all =
    let h = holds place width block body (joined blocks ++ rest) wide all.0.size_is (e ∙ append_assoc block (joined blocks) rest) in
    stands_then (bytes_field width place) (block_fields width (length blocks) (place + width)) body (le-leb _ _ h.inside) (blocks_no_fault width blocks (place + width) body rest wide h.after all.1)

-- revocation numbers that rise
pub numbers_no_fault : (first : Bool) (numbers : List (List ℕ)) (place : ℕ) (body rest : List ℕ) → drop place body ≡ joined numbers ++ rest
    → AllByRecursion (IsBytes 16) numbers → Rises numbers → (first ≡ false → Rises (bytes_at (place - 16) 16 body ∷ numbers))
    → first_fault (number_fields first (length numbers) place) body ≡ None
unfolding IsStrictlySortedBy
numbers_no_fault first [] place body rest e all rises behind = refl
numbers_no_fault first (number ∷ numbers) place body rest e all rises behind =
    let h = holds place 16 number body (joined numbers ++ rest) (omega arith) all.0.size_is (e ∙ append_assoc number (joined numbers) rest) in
    let back : place + 16 - 16 ≡ place = omega arith in
    let above : first ≡ false → is_above place 16 body ≡ true = λ f. rw h.here (ap is_lt (behind f).0.0) in
    stands_then (rising_field first 16 place) (number_fields false (length numbers) (place + 16)) body (and_from _ _ (le-leb _ _ h.inside) (above_or_first first (is_above place 16 body) above))
    (numbers_no_fault false numbers (place + 16) body rest h.after all.1 rises.1 (λ f. subst (λ (p : ℕ). Rises (bytes_at p 16 body ∷ numbers)) (sym back) (subst (λ (n : List ℕ). Rises (n ∷ numbers)) (sym h.here) rises)))

-- identifiers, none of them 0
pub ids_no_fault : (ids : List ℕ) (place : ℕ) (body rest : List ℕ) → drop place body ≡ flat_map be64 ids ++ rest → AllByRecursion IsIdentifier ids
    → first_fault (id_fields (length ids) place) body ≡ None
unfolding number_at
ids_no_fault [] place body rest e all = refl
ids_no_fault (id ∷ ids) place body rest e all =
    let h = holds place 8 (be64 id) body (flat_map be64 ids ++ rest) (omega arith) refl (e ∙ append_assoc (be64 id) (flat_map be64 ids) rest) in
    let is : number_at w64 place body ≡ id = ap (from_be_bytes w64) h.here ∙ from_be_bytes-to_be_bytes_8 id all.0.1 in
    stands_then (range_field w64 1 0xffffffffffffffff place) (id_fields (length ids) (place + 8)) body (range_stands w64 1 0xffffffffffffffff place id body h.inside is all.0.0 (omega (arith, all.0.1)))
    (ids_no_fault ids (place + 8) body rest h.after all.1)
