-- A frame of the grammar is read off its body again, so no two have the same bytes.
use Rattle.std.proofs.Common.{◌≡◌, ℕ, ◌+◌, ◌*◌, ◌-◌, ◌^◌, ◌<◌, ◌≤◌, List, [], ◌∷◌, ◌++◌, map, length, take, drop, refl, sym, ap, ◌∙◌, append_assoc, length-append, arith}
use Rattle.std.specs.Prelude.{◌==◌, if◌then◌else◌, slice_index}
use Rattle.std.specs.Int.{w16, w32, from_be_bytes}
use Rattle.std.specs.List.{flat_map, AllByRecursion}
use Rattle.std.proofs.Common.{inl, inr}
use Rattle.std.proofs.lemmas.Bool.{cases_lt}
use Rattle.std.proofs.lemmas.List.{take_at, drop_at, length-map, get_or_append_left, get_or-append_right}
use Rattle.std.proofs.lemmas.Nat.{from_be_bytes-to_be_bytes_2, from_be_bytes-to_be_bytes_4}
use Rattle.std.proofs.Math.Nat.{mul-le-mul}
use Rattle.sse_frames.specs.Frames.{Entry, FrameText, Hello, SetupBegin, SetupDict, SetupArray, SetupEnd, AddFrame, DeleteFrame, SearchFrame, be16, be32, entry_bytes, joined, body_of, frame_bytes, IsBytes, IsEntry, InGrammar}
use Rattle.sse_frames.specs.FrameViews.{items_in, entry_in, entries_in}
use Rattle.sse_frames.specs.Fields.{number_at}
use Rattle.sse_frames.proofs.Cut.{AreBytes}
use Rattle.sse_frames.proofs.Joined.{sizes_of, length-joined, items_in-joined}

AreBytes-append : (xs ys : List ℕ) → AreBytes xs → AreBytes ys → AreBytes (xs ++ ys)
AreBytes-append xs ys f g i =
    elim (cases_lt i (length xs)) [
      | inl lt ↦ rw (get_or_append_left xs ys 0 i lt) (f i)
      | inr le ↦ rw (get_or-append_right xs ys (length xs) i 0 refl le) (g (i - length xs))
    ]

-- entries are the pieces of their joined bytes
pub pieces_are : (width : ℕ) (entries : List Entry) → AllByRecursion (IsEntry width) entries → AllByRecursion (IsBytes (16 + width)) (map entry_bytes entries)
pieces_are width [] all = tt
pieces_are width (entry ∷ entries) all = (
  record {
    size_is = omega (arith, length-append entry.label entry.text, all.0.label.size_is, all.0.text.size_is);
    each = AreBytes-append entry.label entry.text all.0.label.each all.0.text.each;
  },
  pieces_are width entries all.1,
)

joined-map : (entries : List Entry) → flat_map entry_bytes entries ≡ joined (map entry_bytes entries)
joined-map [] = refl
joined-map (entry ∷ entries) = ap (λ (rest : List ℕ). entry_bytes entry ++ rest) (joined-map entries)

entry_again : (width : ℕ) (entry : Entry) → IsEntry width entry → entry_in (entry_bytes entry) ≡ entry
entry_again width entry is =
    ap (λ (label : List ℕ). let e : Entry = record { label = label; text = drop 16 (entry.label ++ entry.text) } in e) (take_at entry.label entry.text 16 is.label.size_is)
    ∙ ap (λ (text : List ℕ). let e : Entry = record { label = entry.label; text = text } in e) (drop_at entry.label entry.text 16 is.label.size_is)

entries_again : (width : ℕ) (entries : List Entry) → AllByRecursion (IsEntry width) entries → map entry_in (map entry_bytes entries) ≡ entries
entries_again width [] all = refl
entries_again width (entry ∷ entries) all =
    ap (λ (e : Entry). e ∷ map entry_in (map entry_bytes entries)) (entry_again width entry all.0) ∙ ap (λ (es : List Entry). entry ∷ es) (entries_again width entries all.1)

-- entries are cut out of their joined bytes
pub entries_in-entry_bytes : (width : ℕ) (entries : List Entry) → AllByRecursion (IsEntry width) entries → entries_in width (flat_map entry_bytes entries) ≡ entries
entries_in-entry_bytes width entries all =
    ap (entries_in width) (joined-map entries)
    ∙ ap (map entry_in) (items_in-joined (16 + width) (map entry_bytes entries) (omega arith) (sizes_of (16 + width) (map entry_bytes entries) (pieces_are width entries all)))
    ∙ entries_again width entries all

pub length-entry_bytes : (width : ℕ) (entries : List Entry) → AllByRecursion (IsEntry width) entries → length (flat_map entry_bytes entries) ≡ length entries * (16 + width)
length-entry_bytes width entries all =
    ap length (joined-map entries) ∙ length-joined (16 + width) (map entry_bytes entries) (sizes_of (16 + width) (map entry_bytes entries) (pieces_are width entries all)) ∙ ap (λ (n : ℕ). n * (16 + width)) (length-map entries entry_bytes)

-- the frame that a body spells, by its kind byte
abbrev pub text_in : List ℕ → FrameText
text_in body =
    if slice_index body 0 == 0x01 then Hello
    else if slice_index body 0 == 0x02 then SetupBegin (number_at w32 1 body) (number_at w16 5 body) (number_at w16 7 body) (number_at w32 9 body) (number_at w32 13 body)
    else if slice_index body 0 == 0x03 then SetupDict (number_at w32 1 body) (number_at w16 5 body) (entries_in (number_at w16 5 body) (drop 9 body))
    else if slice_index body 0 == 0x04 then SetupArray (number_at w32 1 body) (number_at w16 5 body) (items_in (number_at w16 5 body) (drop 9 body))
    else if slice_index body 0 == 0x05 then SetupEnd (number_at w32 1 body)
    else if slice_index body 0 == 0x06 then AddFrame (number_at w32 1 body) (entries_in 8 (take (number_at w16 5 body * 24) (drop 9 body))) (items_in 16 (drop (number_at w16 5 body * 24) (drop 9 body)))
    else if slice_index body 0 == 0x07 then DeleteFrame (number_at w32 1 body) (items_in 16 (drop 7 body))
    else SearchFrame (drop 1 body)

-- numbers are read back
pub back16 : (n : ℕ) → n < 2 ^ 16 → from_be_bytes w16 (be16 n) ≡ n
back16 n lt = from_be_bytes-to_be_bytes_2 n lt

pub back32 : (n : ℕ) → n < 2 ^ 32 → from_be_bytes w32 (be32 n) ≡ n
back32 n lt = from_be_bytes-to_be_bytes_4 n lt

-- a frame of the grammar is the one that its body spells
pub text_in-body_of : (frame : FrameText) → InGrammar frame → text_in (body_of frame) ≡ frame
unfolding number_at
text_in-body_of Hello is = refl
text_in-body_of (SetupBegin q b big m a) is =
    let e1 = back32 q (omega (arith, is.number)) in
    let e2 = back16 b (omega (arith, is.cell.1)) in
    let e3 = back16 big (omega (arith, is.block.1)) in
    let e4 = back32 m (omega (arith, is.words)) in
    let e5 = back32 a (omega (arith, is.blocks)) in
    cc (e1, e2, e3, e4, e5)
text_in-body_of (SetupDict q width entries) is =
    let e1 = back32 q (omega (arith, is.number)) in
    let e2 = back16 width (omega (arith, is.cell.2, is.cell.3)) in
    ap (λ (n : ℕ). SetupDict n (from_be_bytes w16 (be16 width)) (entries_in (from_be_bytes w16 (be16 width)) (flat_map entry_bytes entries))) e1
    ∙ ap (λ (w : ℕ). SetupDict q w (entries_in w (flat_map entry_bytes entries))) e2
    ∙ ap (λ (es : List Entry). SetupDict q width es) (entries_in-entry_bytes width entries is.each)
text_in-body_of (SetupArray q width blocks) is =
    let e1 = back32 q (omega (arith, is.number)) in
    let e2 = back16 width (omega (arith, is.block.2, is.block.3)) in
    ap (λ (n : ℕ). SetupArray n (from_be_bytes w16 (be16 width)) (items_in (from_be_bytes w16 (be16 width)) (joined blocks))) e1
    ∙ ap (λ (w : ℕ). SetupArray q w (items_in w (joined blocks))) e2
    ∙ ap (λ (bs : List (List ℕ)). SetupArray q width bs) (items_in-joined width blocks (omega (arith, is.block.1, is.block.3)) (sizes_of width blocks is.each))
text_in-body_of (SetupEnd q) is = ap (λ (n : ℕ). SetupEnd n) (back32 q (omega (arith, is)))
text_in-body_of (AddFrame q entries numbers) is =
    let lists = flat_map entry_bytes entries ++ joined numbers in
    let e1 = back32 q (omega (arith, is.number)) in
    let e2 = back16 (length entries) (omega (arith, is.count)) in
    let len : length (flat_map entry_bytes entries) ≡ length entries * 24 = length-entry_bytes 8 entries is.each in
    ap (λ (n : ℕ). AddFrame n (entries_in 8 (take (from_be_bytes w16 (be16 (length entries)) * 24) lists)) (items_in 16 (drop (from_be_bytes w16 (be16 (length entries)) * 24) lists))) e1
    ∙ ap (λ (e : ℕ). AddFrame q (entries_in 8 (take (e * 24) lists)) (items_in 16 (drop (e * 24) lists))) e2
    ∙ ap (λ (xs : List ℕ). AddFrame q (entries_in 8 xs) (items_in 16 (drop (length entries * 24) lists))) (take_at (flat_map entry_bytes entries) (joined numbers) (length entries * 24) len)
    ∙ ap (λ (xs : List ℕ). AddFrame q (entries_in 8 (flat_map entry_bytes entries)) (items_in 16 xs)) (drop_at (flat_map entry_bytes entries) (joined numbers) (length entries * 24) len)
    ∙ ap (λ (es : List Entry). AddFrame q es (items_in 16 (joined numbers))) (entries_in-entry_bytes 8 entries is.each)
    ∙ ap (λ (ns : List (List ℕ)). AddFrame q entries ns) (items_in-joined 16 numbers (omega arith) (sizes_of 16 numbers is.each_number))
text_in-body_of (DeleteFrame q numbers) is =
    ap (λ (n : ℕ). DeleteFrame n (items_in 16 (joined numbers))) (back32 q (omega (arith, is.number)))
    ∙ ap (λ (ns : List (List ℕ)). DeleteFrame q ns) (items_in-joined 16 numbers (omega arith) (sizes_of 16 numbers is.each_number))
text_in-body_of (SearchFrame token) is = refl

-- two frames of the grammar with the same body are one
pub one_body : (f g : FrameText) → InGrammar f → InGrammar g → body_of f ≡ body_of g → f ≡ g
one_body f g in_f in_g e = sym (text_in-body_of f in_f) ∙ ap text_in e ∙ text_in-body_of g in_g

-- a body has at least its kind byte, and at most 541,705 bytes
pub record HasLength (body : List ℕ) : Type 0 where
  pub some : 1 ≤ length body
  pub most : length body ≤ 541705

at_most : (n m : ℕ) (count size : ℕ) → n ≡ m → count ≤ 1024 → size ≤ 529 → m ≡ count * size → n ≤ 541696
at_most n m count size e few small is = let most : count * size ≤ 1024 * 529 = mul-le-mul few small in omega (arith, e, is, most)

at_most_blocks : (n count size : ℕ) → count ≤ 256 → size ≤ 2048 → n ≡ count * size → n ≤ 524288
at_most_blocks n count size few small is = let most : count * size ≤ 256 * 2048 = mul-le-mul few small in omega (arith, is, most)

pub length-body_of : (frame : FrameText) → InGrammar frame → HasLength (body_of frame)
length-body_of Hello is = record { some = omega arith; most = omega arith }
length-body_of (SetupBegin q b big m a) is = record { some = omega arith; most = omega arith }
length-body_of (SetupDict q width entries) is =
    let most = at_most (length (flat_map entry_bytes entries)) _ (length entries) (16 + width) refl is.count.1 (omega (arith, is.cell.2, is.cell.3)) (length-entry_bytes width entries is.each) in
    record { some = omega arith; most = omega arith }
length-body_of (SetupArray q width blocks) is =
    let most = at_most_blocks (length (joined blocks)) (length blocks) width is.count.1 (omega (arith, is.block.2, is.block.3)) (length-joined width blocks (sizes_of width blocks is.each)) in
    record { some = omega arith; most = omega arith }
length-body_of (SetupEnd q) is = record { some = omega arith; most = omega arith }
length-body_of (AddFrame q entries numbers) is =
    record { some = omega arith; most = omega (arith, length-append (flat_map entry_bytes entries) (joined numbers), length-entry_bytes 8 entries is.each, length-joined 16 numbers (sizes_of 16 numbers is.each_number), is.count) }
length-body_of (DeleteFrame q numbers) is = record { some = omega arith; most = omega (arith, length-joined 16 numbers (sizes_of 16 numbers is.each_number), is.count) }
length-body_of (SearchFrame token) is = record { some = omega arith; most = omega (arith, is.size_is) }

-- the first four bytes and what follows them
pub be32_apart : (m n : ℕ) (xs ys : List ℕ) → m < 2 ^ 32 → n < 2 ^ 32 → be32 m ++ xs ≡ be32 n ++ ys → (m ≡ n) × (xs ≡ ys)
be32_apart m n xs ys small little e =
    (sym (back32 m small) ∙ ap (λ (bytes : List ℕ). from_be_bytes w32 (take 4 bytes)) e ∙ back32 n little, ap (drop 4) e)

pub same_front : (xs ys x y : List ℕ) → length xs ≡ length ys → xs ++ x ≡ ys ++ y → (xs ≡ ys) × (x ≡ y)
same_front xs ys x y len e = (
  sym (take_at xs x (length ys) len) ∙ ap (take (length ys)) e ∙ take_at ys y (length ys) refl,
  sym (drop_at xs x (length ys) len) ∙ ap (drop (length ys)) e ∙ drop_at ys y (length ys) refl,
)

-- no frame of the grammar begins another, so bytes begin with one frame at most
pub one_frame : (f g : FrameText) (x y : List ℕ) → InGrammar f → InGrammar g → frame_bytes f ++ x ≡ frame_bytes g ++ y → (f ≡ g) × (x ≡ y)
one_frame f g x y in_f in_g e =
    let len_f = length-body_of f in_f in
    let len_g = length-body_of g in_g in
    let apart = be32_apart (length (body_of f)) (length (body_of g)) (body_of f ++ x) (body_of g ++ y) (omega (arith, len_f.most)) (omega (arith, len_g.most))
    (sym (append_assoc (be32 (length (body_of f))) (body_of f) x) ∙ e ∙ append_assoc (be32 (length (body_of g))) (body_of g) y) in
    let same = same_front (body_of f) (body_of g) x y apart.0 apart.1 in
    (one_body f g in_f in_g same.0, same.1)
