-- Texts in their places, and bytes cut into slots.
use borrow.Rule.Slice.PartMut.{put_mid}
use Rattle.std.proofs.Common.{◌≡◌, ◌≢◌, ℕ, zero, suc, ◌+◌, ◌-◌, ◌*◌, ◌<◌, ◌≤◌, List, [], ◌∷◌, ◌++◌, length, take, drop, get_or, set, refl, sym, ap, ◌∙◌, arith, inl, inr, zero-add, length-append, length-take, length-drop}
use Rattle.std.specs.Prelude.{Option, None, Some, option_map}
use Rattle.std.specs.Int.{div_ceil}
use Rattle.std.proofs.Math.Nat.{mul-le-mul_right}
use Rattle.std.proofs.lemmas.Bool.{cases_lt, cases_eq}
use Rattle.std.proofs.lemmas.Grind.{div_ceil_times}
use Rattle.std.proofs.lemmas.List.{ext_get_or, length-set, get_or-set_same, get_or-set_other, drop_at, take_all, take_at, take_rest, drop-take, length-take-le}
use Rattle.std.proofs.lemmas.List.FromFn.{length-map-range_with_len, get_or-map-range_with_len}
use Rattle.std.proofs.lemmas.Slice.{take-put_mid_below, drop-put_mid}
use Rattle.keyed_fn.specs.KeyedFn.{KeyedFn}
use Rattle.keyed_fn.specs.KeyFormulas.{block_pad}
use Rattle.keyed_fn.specs.Xored.{xored}
use Rattle.list_packing.proofs.Written.{put_mid-to_end}
use Rattle.list_packing.specs.Parts.{parts}
use Rattle.list_packing.proofs.PartsLemmas.{length-parts, parts-at}
use Rattle.two_level.specs.Laid.{Laid, laid, cell_bytes, block_bytes}
use Rattle.two_level.specs.Shape.{Shape}
use Rattle.sse_model.specs.Positions.{block_text}
use Rattle.index_setup.specs.Placed.{block_texts, placed}

-- ---- a slot written

length-put_mid : (a k : ℕ) (xs ys : List ℕ) → a + k ≤ length xs → length ys ≡ k → length (put_mid a k xs ys) ≡ length xs
length-put_mid a k xs ys within size =
    omega (arith, length-append (take a xs) (ys ++ drop k (drop a xs)), length-append ys (drop k (drop a xs)), length-take a xs, length-drop k (drop a xs), length-drop a xs)

suc_le : (a b : ℕ) → a < b → a + 1 ≤ b
suc_le a b less = omega arith

-- bytes written over one slot of their parts
pub parts-put_mid : (size r : ℕ) (bytes new : List ℕ) → 0 < size → (r + 1) * size ≤ length bytes → length new ≡ size
    → parts size (put_mid (r * size) (r * size + size - r * size) bytes new) ≡ set (parts size bytes) r new
parts-put_mid size r bytes new some within same =
    let a : ℕ = r * size in
    let k : ℕ = a + size - a in
    let width : k ≡ size = omega arith in
    let whole : List ℕ = put_mid a k bytes new in
    let total : length whole ≡ length bytes = length-put_mid a k bytes new (omega (arith, width, within)) (omega (arith, width, same)) in
    let count : length (parts size whole) ≡ length (parts size bytes) = length-parts size whole ∙ ap (λ n. div_ceil n size) total ∙ sym (length-parts size bytes) in
    ext_get_or [] (parts size whole) (set (parts size bytes) r new) (count ∙ sym (length-set (parts size bytes) r new))
    (λ i inside.
    let here : i < div_ceil (length whole) size = omega (arith, length-parts size whole, inside) in
    let there : i < div_ceil (length bytes) size = omega (arith, length-parts size bytes, count, inside) in
    parts-at size whole i here
    ∙ elim (cases_eq i r) [
      | inl e ↦
          ap (λ n. take size (drop (n * size) whole)) e
          ∙ ap (take size) (drop_at (take a bytes) (new ++ drop k (drop a bytes)) a (length-take-le a bytes (omega (arith, within))))
          ∙ take_at new (drop k (drop a bytes)) size same
          ∙ sym (get_or-set_same (parts size bytes) r new [] (omega (arith, e, count, inside)))
          ∙ ap (λ n. get_or (set (parts size bytes) r new) n []) (sym e)
      | inr apart ↦
          slot_elsewhere i apart
          ∙ sym (parts-at size bytes i there)
          ∙ sym (get_or-set_other (parts size bytes) r i new [] apart)
    ])
  where
    slot_elsewhere : (i : ℕ) → i ≢ r → take size (drop (i * size) (put_mid (r * size) (r * size + size - r * size) bytes new)) ≡ take size (drop (i * size) bytes)
    slot_elsewhere i apart =
        let a : ℕ = r * size in
        let k : ℕ = a + size - a in
        elim (cases_lt i r) [
          | inl lt ↦
              let before : i * size + size ≤ a = omega (arith, mul-le-mul_right size (suc_le i r lt)) in
              sym (drop-take (i * size) size (put_mid a k bytes new))
              ∙ ap (drop (i * size)) (take-put_mid_below a k bytes new (i * size + size) before (omega (arith, within)))
              ∙ drop-take (i * size) size bytes
          | inr ge ↦
              let behind : a + k ≤ i * size = omega (arith, mul-le-mul_right size (suc_le r i (omega (arith, apart, ge)))) in
              ap (take size) (drop-put_mid a k bytes new (i * size) behind (omega (arith, within)) (omega (arith, same)))
        ]

-- a slot of whole slots has the slot's size
pub length-slot : (size r count : ℕ) (bytes : List ℕ) → 0 < size → length bytes ≡ count * size → r < count → length (get_or (parts size bytes) r []) ≡ size
length-slot size r count bytes some whole less =
    let room : (r + 1) * size ≤ count * size = mul-le-mul_right size (suc_le r count less) in
    let d : ℕ = div_ceil (length bytes) size in
    let enough : length bytes ≤ d * size = (div_ceil_times (length bytes) size some).0 in
    let there : r < d = elim (cases_lt r d) [ inl lt ↦ lt | inr ge ↦ let few : d * size ≤ r * size = mul-le-mul_right size (omega (arith, ge)) in absurd (omega (arith, few, room, enough, whole)) ] in
    ap length (parts-at size bytes r there) ∙ length-take-le size (drop (r * size) bytes) (omega (arith, length-drop (r * size) bytes, whole, room))

-- ---- texts placed

-- one more
placed-more : {X : Type 0} (slots : List X) (ranks : List ℕ) (texts : List X) (i : ℕ) (d : X) → i < length ranks → i < length texts
    → placed slots (take (i + 1) ranks) (take (i + 1) texts) ≡ set (placed slots (take i ranks) (take i texts)) (get_or ranks i 0) (get_or texts i d)
placed-more slots [] texts i d ranked written = absurd (omega arith)
placed-more slots (r ∷ rs) [] i d ranked written = absurd (omega arith)
placed-more slots (r ∷ rs) (t ∷ ts) zero d ranked written = refl
placed-more slots (r ∷ rs) (t ∷ ts) (suc i) d ranked written =
    let next : suc i + 1 ≡ suc (i + 1) = omega arith in
    ap (λ n. placed slots (take n (r ∷ rs)) (take n (t ∷ ts))) next
    ∙ placed-more (set slots r t) rs ts i d (omega arith) (omega arith)

-- one text more, written over its slot
pub placed_step : (size z i : ℕ) (first bytes new : List ℕ) (ranks : List ℕ) (texts : List (List ℕ)) → z ≡ size → 0 < size
    → (get_or ranks i 0 + 1) * size ≤ length bytes → i < length ranks → length texts ≡ length ranks → length new ≡ size → new ≡ get_or texts i []
    → parts size bytes ≡ placed (parts size first) (take i ranks) (take i texts)
    → parts size (put_mid (get_or ranks i 0 * z) (get_or ranks i 0 * z + z - get_or ranks i 0 * z) bytes new)
    ≡ placed (parts size first) (take (i + 1) ranks) (take (i + 1) texts)
placed_step size z i first bytes new ranks texts is some room within count long own before =
    let r : ℕ = get_or ranks i 0 in
    ap (λ n. parts size (put_mid (r * n) (r * n + n - r * n) bytes new)) is
    ∙ parts-put_mid size r bytes new some room long
    ∙ ap (λ slots. set slots r new) before
    ∙ ap (set (placed (parts size first) (take i ranks) (take i texts)) r) own
    ∙ sym (placed-more (parts size first) ranks texts i [] within (omega (arith, count, within)))

-- and all of them
pub placed_all : (size i : ℕ) (first : List ℕ) (ranks : List ℕ) (texts : List (List ℕ)) → length ranks ≤ i → length texts ≡ length ranks
    → placed (parts size first) (take i ranks) (take i texts) ≡ placed (parts size first) ranks texts
placed_all size i first ranks texts all count =
    ap (λ rs. placed (parts size first) rs (take i texts)) (take_all i ranks all)
    ∙ ap (placed (parts size first) ranks) (take_all i texts (omega (arith, count, all)))

-- texts placed in two steps
pub placed-behind : {X : Type 0} (slots : List X) (ranks : List ℕ) (us vs : List X) → placed (placed slots ranks us) (drop (length us) ranks) vs ≡ placed slots ranks (us ++ vs)
placed-behind slots [] [] vs = refl
placed-behind slots [] (u ∷ us) vs = refl
placed-behind slots (r ∷ rs) [] vs = refl
placed-behind slots (r ∷ rs) (u ∷ us) vs = placed-behind (set slots r u) rs us vs

-- ---- the texts of a list

pub block_text-laid : (i : ℕ) (o : Option Laid) (bytes : List ℕ) → option_map (block_bytes i) o ≡ Some bytes → block_text i o ≡ bytes
block_text-laid i None bytes is = absurd (cc)
block_text-laid i (Some l) bytes is = cc

-- an encrypted text written behind the label that was copied
pub label_written : (label copied out encrypted : List ℕ) → copied ≡ label → length label ≡ 16
    → put_mid 16 (length (copied ++ drop 16 out) - 16) (copied ++ drop 16 out) encrypted ≡ label ++ encrypted
label_written label copied out encrypted same long =
    put_mid-to_end 16 (length (copied ++ drop 16 out) - 16) (copied ++ drop 16 out) encrypted (omega arith)
    ∙ ap (λ xs. xs ++ encrypted) (take_at copied (drop 16 out) 16 (ap length same ∙ long) ∙ same)

-- the label and the encrypted cell after it
pub entry_written : (o : Option Laid) (label copied out cell encrypted : List ℕ) (size : ℕ) (pad : ℕ → List ℕ) → copied ≡ label → length label ≡ 16
    → length out ≡ 16 + size → option_map cell_bytes o ≡ Some cell → length cell ≡ size → encrypted ≡ xored cell (pad (length cell))
    → option_map (λ l. label ++ xored (cell_bytes l) (pad size)) o ≡ Some (put_mid 16 (length (copied ++ drop 16 out) - 16) (copied ++ drop 16 out) encrypted)
entry_written None label copied out cell encrypted size pad same long room laid_is fits is = absurd (cc)
entry_written (Some l) label copied out cell encrypted size pad same long room laid_is fits is =
    let own : cell_bytes l ≡ cell = cc in
    ap (λ x. Some (label ++ x)) (ap (λ bytes. xored bytes (pad size)) own ∙ ap (λ n. xored cell (pad n)) (sym fits) ∙ sym is)
    ∙ ap (λ x. Some x) (sym (label_written label copied out encrypted same long))

-- the room after a label
pub behind_label : (label copied out : List ℕ) (size : ℕ) → copied ≡ label → length label ≡ 16 → length out ≡ 16 + size
    → length (take (length (copied ++ drop 16 out) - 16) (drop 16 (copied ++ drop 16 out))) ≡ size
behind_label label copied out size same long room =
    ap length (take_rest (copied ++ drop 16 out) 16)
    ∙ omega (arith, length-drop 16 (copied ++ drop 16 out), length-append copied (drop 16 out), length-drop 16 out, ap length same, long, room)

-- one block of a list more
pub block_step : (f : KeyedFn) (key : List ℕ) (shape : Shape) (ranks ids : List ℕ) (i z : ℕ) (first array plain encrypted : List ℕ)
    → i < length ranks → z ≡ 8 * shape.big → 0 < shape.big → (get_or ranks i 0 + 1) * (8 * shape.big) ≤ length array
    → parts (8 * shape.big) array ≡ placed (parts (8 * shape.big) first) (take i ranks) (take i (block_texts f key shape ranks ids))
    → option_map (block_bytes i) (laid shape ranks ids) ≡ Some plain → length plain ≡ 8 * shape.big → encrypted ≡ xored plain (f.pad key (i + 1) (length plain))
    → parts (8 * shape.big) (put_mid (get_or ranks i 0 * z) (get_or ranks i 0 * z + z - get_or ranks i 0 * z) array encrypted)
    ≡ placed (parts (8 * shape.big) first) (take (i + 1) ranks) (take (i + 1) (block_texts f key shape ranks ids))
block_step f key shape ranks ids i z first array plain encrypted within size some room before laid_is fits is =
    let w : ℕ = 8 * shape.big in
    let texts : List (List ℕ) = block_texts f key shape ranks ids in
    let long : length encrypted ≡ w = ap length is ∙ length-map-range_with_len _ 0 (length plain) ∙ fits in
    let own : encrypted ≡ get_or texts i [] =
    is ∙ ap (λ n. xored plain (f.pad key (i + 1) n)) fits
    ∙ ap (λ bytes. xored bytes (f.pad key (i + 1) w)) (sym (block_text-laid i (laid shape ranks ids) plain laid_is))
    ∙ sym (get_or-map-range_with_len (λ j. xored (block_text j (laid shape ranks ids)) (block_pad f key j (8 * shape.big))) 0 (length ranks) i i [] within (zero-add i)) in
    placed_step w z i first array encrypted ranks texts size (omega arith) room within (length-map-range_with_len _ 0 (length ranks)) long own before

-- a slot lies in the bytes of all
pub slot_within : (r count size n : ℕ) → r < count → n ≡ count * size → (r + 1) * size ≤ n
slot_within r count size n less whole = let room : (r + 1) * size ≤ count * size = mul-le-mul_right size (omega arith) in omega (arith, room, whole)

-- the bytes of one slot
pub slot_room : (r z size : ℕ) (bytes : List ℕ) → z ≡ size → (r + 1) * size ≤ length bytes → length (take (r * z + z - r * z) (drop (r * z) bytes)) ≡ size
slot_room r z size bytes is within =
    ap (λ n. length (take (r * n + n - r * n) (drop (r * n) bytes))) is
    ∙ omega (arith, length-take (r * size + size - r * size) (drop (r * size) bytes), length-drop (r * size) bytes, within)
