-- The frames of a setup are taken, one after another, by a server that expects the first of them.
use Rattle.std.proofs.Common.{◌≡◌, ℕ, zero, suc, ◌+◌, ◌*◌, ◌≤◌, Bool, true, ◌&&◌, List, [], ◌∷◌, ◌++◌, length, map, refl, sym, ap, ◌∙◌, subst, arith, append_assoc}
use Rattle.std.specs.Prelude.{◌==◌, nat_le, flat_map}
use Rattle.std.specs.List.{range_with_len}
use Rattle.std.specs.Ordering.{nat_cmp}
use Rattle.std.specs.Cmp.Lexicographic.{slice_cmp}
use Rattle.std.specs.FinMap as finmap
use Rattle.std.specs.FinSet as finset
use Rattle.std.proofs.lemmas.Bool.{le-leb}
use Rattle.std.proofs.lemmas.Cmp.{nat_eq_equiv}
use Rattle.std.proofs.lemmas.List.{append-nil, length-append, length-map, map-append}
use Rattle.keyed_fn.specs.KeyedFn.{KeyedFn}
use Rattle.list_packing.proofs.PartsLemmas.{joined-parts}
use Rattle.list_packing.specs.Parts.{parts}
use Rattle.two_level.specs.Shape.{Shape}
use Rattle.sse_frames.proofs.Sorted.{AllDiffer, length-by_bytes}
use Rattle.sse_frames.specs.Frames.{Entry, FrameText, SetupBegin, SetupDict, SetupArray, SetupEnd, labels_of}
use Rattle.sse_frames.specs.Order.{by_bytes}
use Rattle.sse_frames.specs.Replies.{ReplyText, Took}
use Rattle.sse_frames.specs.SentParts.{numbered, setup_frames}
use Rattle.server_core.proofs.Laws.{with_entries-append}
use Rattle.server_core.specs.declared.stage.Stage.TheVariants.{Filling, Ready}
use Rattle.server_tables.specs.Contents.{CellMap}
use Rattle.server_core.specs.Refusal.{clash_at}
use Rattle.server_core.specs.State.{ServerState}
use Rattle.server_core.specs.Step.{with_entries}
use Rattle.sse_model.proofs.Counts.{length-numbered}
use Rattle.def_agreement.proofs.TakenFrames.{takes-none, takes-cons, takes-both}
use Rattle.def_agreement.specs.TakenFrames.{Expects, IsInOrder, Takes}
use Rattle.def_agreement.proofs.Dictionary.{AreNew, AreNew-parts, first_known-new, len-new, AreNew-by_bytes}

-- Frames by their number.

-- frames and others after them, numbered
pub numbered-append : {X : Type 0} (q : ℕ) (fs gs : List (ℕ → X)) → numbered q (fs ++ gs) ≡ numbered q fs ++ numbered (q + length fs) gs
numbered-append q [] gs = let e : q ≡ q + 0 = omega arith in ap (λ n. numbered n gs) e
numbered-append q (f ∷ fs) gs =
    let e : q + 1 + length fs ≡ q + suc (length fs) = omega arith in
    ap (λ rest. f q ∷ rest) (numbered-append (q + 1) fs gs ∙ ap (λ n. numbered (q + 1) fs ++ numbered n gs) e)

-- an acknowledgement for each of so many frames, from this number on
abbrev pub took_each : ℕ → ℕ → List (List ReplyText)
took_each q count = map (λ n. Took n ∷ []) (range_with_len q count)

took_each-push : (q count : ℕ) → took_each q (count + 1) ≡ took_each q count ++ (Took (q + count) ∷ []) ∷ []
took_each-push q zero = let e : q ≡ q + 0 = omega arith in ap (λ n. (Took n ∷ []) ∷ []) e
took_each-push q (suc count) =
    let more : suc count + 1 ≡ suc (count + 1) = omega arith in
    let number : q + 1 + count ≡ q + suc count = omega arith in
    ap (took_each q) more
    ∙ ap (λ rest. (Took q ∷ []) ∷ rest) (took_each-push (q + 1) count ∙ ap (λ n. took_each (q + 1) count ++ (Took n ∷ []) ∷ []) number)

took_each-join : (q m n : ℕ) → took_each q m ++ took_each (q + m) n ≡ took_each q (m + n)
took_each-join q zero n = let e : q + zero ≡ q = omega arith in let z : zero + n ≡ n = omega arith in (λ i. took_each (e i) (sym z i))
took_each-join q (suc m) n =
    let number : q + suc m ≡ q + 1 + m = omega arith in
    let more : suc m + n ≡ suc (m + n) = omega arith in
    ap (λ k. (Took q ∷ []) ∷ took_each (q + 1) m ++ took_each k n) number
    ∙ ap (λ rest. (Took q ∷ []) ∷ rest) (took_each-join (q + 1) m n)
    ∙ ap (took_each q) (sym more)

-- A server that fills its tables.

-- a server that was sent a setup's first frame for so many words and blocks, with this dictionary and array so far
abbrev pub filling : Shape → (words blocks next : ℕ) → CellMap → List (List ℕ) → ServerState
filling shape words blocks next dictionary array = record {
  stage = Filling;
  next = next;
  words = words;
  blocks = blocks;
  shape = shape;
  dictionary = dictionary;
  array = array;
  additions = finmap.empty;
  revoked = finset.empty;
}

-- a server that was sent a whole setup
abbrev pub filled : Shape → (words blocks next : ℕ) → CellMap → List (List ℕ) → ServerState
filled shape words blocks next dictionary array = record (filling shape words blocks next dictionary array) { stage = Ready }

both : (a b : Bool) → a ≡ true → b ≡ true → (a && true && b) ≡ true
both a b e f = rw (e, f) refl

all_three : (a b c : Bool) → a ≡ true → b ≡ true → c ≡ true → (a && b && c) ≡ true
all_three a b c e f g = rw (e, f, g) refl

all_two : (a b : Bool) → a ≡ true → b ≡ true → (a && b) ≡ true
all_two a b e f = rw (e, f) refl

is_number : (m n : ℕ) → m ≡ n → (m == n) ≡ true
is_number m n e = ap (λ k. k == n) e ∙ nat_eq_equiv.refl n

dict_in_order : (shape : Shape) (words blocks next : ℕ) (m : CellMap) (part : List Entry) → finmap.len m + length part ≤ words → AreNew m part
    → IsInOrder (filling shape words blocks next m []) (SetupDict next (1 + 8 * shape.b) part)
dict_in_order shape words blocks next m part fits new = record {
  next = nat_eq_equiv.refl next;
  stage = both (1 + 8 * shape.b == 1 + 8 * shape.b) (nat_le (finmap.len m + length part) words) (nat_eq_equiv.refl (1 + 8 * shape.b)) (le-leb (finmap.len m + length part) words fits);
  clash = ap (clash_at 1) (first_known-new m part new);
}

-- a part of the dictionary, and one of the array, numbered later
abbrev pub dict_part : Shape → List Entry → ℕ → FrameText
dict_part shape part q = SetupDict q (1 + 8 * shape.b) part

abbrev texts : List Entry → List (List ℕ)
texts part = map (λ block. block.text) part

abbrev pub array_part : Shape → List Entry → ℕ → FrameText
array_part shape part q = SetupArray q (8 * shape.big) (texts part)

-- the parts of a dictionary whose labels are new are taken one after another
parts_taken : (f : KeyedFn) (shape : Shape) (words blocks : ℕ) (list : List (List Entry)) (next : ℕ) (m : CellMap)
    → finmap.len m + length (flat_map (λ part. part) list) ≤ words → AreNew m (flat_map (λ part. part) list)
    → Takes f (filling shape words blocks next m []) (numbered next (map (dict_part shape) list))
    (filling shape words blocks (next + length list) (with_entries m (flat_map (λ part. part) list)) []) (took_each next (length list))
parts_taken f shape words blocks [] next m fits new =
    let e : next ≡ next + 0 = omega arith in
    subst (λ (n : ℕ). Takes f (filling shape words blocks next m []) [] (filling shape words blocks n m []) []) e (takes-none f (filling shape words blocks next m []))
parts_taken f shape words blocks (part ∷ list) next m fits new =
    let rest : List Entry = flat_map (λ part. part) list in
    let halves = AreNew-parts m part rest new in
    let later = parts_taken f shape words blocks list (next + 1) (with_entries m part) (omega (arith, fits, length-append part rest, len-new m part halves.0)) halves.1 in
    let number : next + 1 + length list ≡ next + suc (length list) = omega arith in
    let end : filling shape words blocks (next + 1 + length list) (with_entries (with_entries m part) rest) [] ≡ filling shape words blocks (next + suc (length list)) (with_entries m (part ++ rest)) [] =
    (λ i. filling shape words blocks (number i) (sym (with_entries-append m part rest) i) []) in
    subst (λ state. Takes f (filling shape words blocks next m []) (numbered next (map (dict_part shape) (part ∷ list))) state (took_each next (suc (length list)))) end
    (takes-cons f (filling shape words blocks next m []) (filling shape words blocks (next + 1) (with_entries m part) []) _ (dict_part shape part next)
    (numbered (next + 1) (map (dict_part shape) list)) (Took next ∷ []) (took_each (next + 1) (length list)) (dict_in_order shape words blocks next m part (omega (arith, fits, length-append part rest)) halves.0) refl refl later)

array_in_order : (shape : Shape) (words blocks next : ℕ) (m : CellMap) (array : List (List ℕ)) (part : List Entry) → finmap.len m ≡ words → length array + length part ≤ blocks
    → IsInOrder (filling shape words blocks next m array) (SetupArray next (8 * shape.big) (texts part))
array_in_order shape words blocks next m array part full fits = record {
  next = nat_eq_equiv.refl next;
  stage =
      all_three (8 * shape.big == 8 * shape.big) (finmap.len m == words) (nat_le (length array + length (texts part)) blocks) (nat_eq_equiv.refl (8 * shape.big)) (is_number (finmap.len m) words full)
      (le-leb (length array + length (texts part)) blocks (omega (arith, fits, length-map part (λ (block : Entry). block.text))));
  clash = refl;
}

-- so are the parts of an array, after a whole dictionary
arrays_taken : (f : KeyedFn) (shape : Shape) (words blocks : ℕ) (m : CellMap) (list : List (List Entry)) (next : ℕ) (array : List (List ℕ))
    → finmap.len m ≡ words → length array + length (flat_map (λ part. part) list) ≤ blocks
    → Takes f (filling shape words blocks next m array) (numbered next (map (array_part shape) list))
    (filling shape words blocks (next + length list) m (array ++ texts (flat_map (λ part. part) list))) (took_each next (length list))
arrays_taken f shape words blocks m [] next array full fits =
    let e : next ≡ next + 0 = omega arith in
    let end : filling shape words blocks next m array ≡ filling shape words blocks (next + 0) m (array ++ []) = (λ i. filling shape words blocks (e i) m (sym (append-nil array) i)) in
    subst (λ state. Takes f (filling shape words blocks next m array) [] state []) end (takes-none f (filling shape words blocks next m array))
arrays_taken f shape words blocks m (part ∷ list) next array full fits =
    let rest : List Entry = flat_map (λ part. part) list in
    let later = arrays_taken f shape words blocks m list (next + 1) (array ++ texts part) full
    (omega (arith, fits, length-append part rest, length-append array (texts part), length-map part (λ (block : Entry). block.text))) in
    let number : next + 1 + length list ≡ next + suc (length list) = omega arith in
    let joined : array ++ texts part ++ texts rest ≡ array ++ texts (part ++ rest) = append_assoc array (texts part) (texts rest) ∙ ap (λ more. array ++ more) (sym (map-append (λ (block : Entry). block.text) part rest)) in
    let end : filling shape words blocks (next + 1 + length list) m (array ++ texts part ++ texts rest) ≡ filling shape words blocks (next + suc (length list)) m (array ++ texts (part ++ rest)) =
    (λ i. filling shape words blocks (number i) m (joined i)) in
    subst (λ state. Takes f (filling shape words blocks next m array) (numbered next (map (array_part shape) (part ∷ list))) state (took_each next (suc (length list)))) end
    (takes-cons f (filling shape words blocks next m array) (filling shape words blocks (next + 1) m (array ++ texts part)) _ (array_part shape part next)
    (numbered (next + 1) (map (array_part shape) list)) (Took next ∷ []) (took_each (next + 1) (length list)) (array_in_order shape words blocks next m array part full (omega (arith, fits, length-append part rest))) refl refl later)

-- The whole setup.

begin_in_order : (s : ServerState) (q b big m a : ℕ) → Expects q s → IsInOrder s (SetupBegin q b big m a)
begin_in_order s q b big m a expects = record { next = is_number q s.next (sym expects.next); stage = expects.stage; clash = refl }

end_in_order : (shape : Shape) (words blocks q : ℕ) (m : CellMap) (array : List (List ℕ)) → finmap.len m ≡ words → length array ≡ blocks → IsInOrder (filling shape words blocks q m array) (SetupEnd q)
end_in_order shape words blocks q m array full whole = record {
  next = nat_eq_equiv.refl q;
  stage = all_two (finmap.len m == words) (length array == blocks) (is_number (finmap.len m) words full) (is_number (length array) blocks whole);
  clash = refl;
}

-- a server that expects the first frame of a setup takes all its frames, whatever it held: its dictionary has the entries, its
-- array the blocks by rising label
pub setup_taken : (f : KeyedFn) (start : ServerState) (q : ℕ) (shape : Shape) (entries blocks : List Entry) → Expects q start → AllDiffer (labels_of entries)
    → Takes f start (setup_frames q shape entries blocks)
    (filled shape (length entries) (length blocks) (q + length (setup_frames q shape entries blocks)) (with_entries finmap.empty (by_bytes (λ entry. entry.label) entries)) (map (λ block. block.text) (by_bytes (λ block. block.label) blocks)))
    (took_each q (length (setup_frames q shape entries blocks)))
setup_taken f start q shape entries blocks expects differ =
    subst (λ (m : ℕ). Takes f start (setup_frames q shape entries blocks) (filled shape words count (q + m) dictionary array) (took_each q m)) (sym length_is)
    (subst (λ fs. Takes f start (SetupBegin q shape.b shape.big words count ∷ fs) (filled shape words count (q + suc (n + k + 1)) dictionary array) (took_each q (suc (n + k + 1)))) (sym frames)
    (takes-cons f start (filling shape words count (q + 1) finmap.empty []) (filled shape words count (q + suc (n + k + 1)) dictionary array) (SetupBegin q shape.b shape.big words count)
    (numbered (q + 1) dicts ++ numbered (q + 1 + n) arrays ++ SetupEnd (q + 1 + n + k) ∷ []) (Took q ∷ []) (took_each (q + 1) (n + k + 1)) (begin_in_order start q shape.b shape.big words count expects) (ap (λ next. filling shape words count (next + 1) finmap.empty []) expects.next) refl
    (subst (Takes f (filling shape words count (q + 1) finmap.empty []) (numbered (q + 1) dicts ++ numbered (q + 1 + n) arrays ++ SetupEnd (q + 1 + n + k) ∷ []) (filled shape words count (q + suc (n + k + 1)) dictionary array))
    (sym (took_each-push (q + 1) (n + k)))
    (takes-both f (filling shape words count (q + 1) finmap.empty []) (filling shape words count (q + 1 + n + k) dictionary array) (filled shape words count (q + suc (n + k + 1)) dictionary array)
    (numbered (q + 1) dicts ++ numbered (q + 1 + n) arrays) (SetupEnd (q + 1 + n + k) ∷ []) (took_each (q + 1) (n + k)) ((Took (q + 1 + (n + k)) ∷ []) ∷ []) tables ending))))
  where
    words : ℕ
    words = length entries

    count : ℕ
    count = length blocks

    sorted : List Entry
    sorted = by_bytes (λ entry. entry.label) entries

    sorted_blocks : List Entry
    sorted_blocks = by_bytes (λ block. block.label) blocks

    dictionary : CellMap
    dictionary = with_entries finmap.empty sorted

    array : List (List ℕ)
    array = texts sorted_blocks

    list : List (List Entry)
    list = parts 1024 sorted

    array_list : List (List Entry)
    array_list = parts 256 sorted_blocks

    n : ℕ
    n = length list

    k : ℕ
    k = length array_list

    dicts : List (ℕ → FrameText)
    dicts = map (dict_part shape) list

    arrays : List (ℕ → FrameText)
    arrays = map (array_part shape) array_list

    last : List (ℕ → FrameText)
    last = (λ m. SetupEnd m) ∷ []

    many : length dicts ≡ n
    many = length-map list (dict_part shape)

    many_arrays : length arrays ≡ k
    many_arrays = length-map array_list (array_part shape)

    at_last : q + 1 + length (dicts ++ arrays) ≡ q + 1 + n + k
    at_last = omega (arith, length-append dicts arrays, many, many_arrays)

    frames : numbered (q + 1) (dicts ++ arrays ++ last) ≡ numbered (q + 1) dicts ++ numbered (q + 1 + n) arrays ++ SetupEnd (q + 1 + n + k) ∷ []
    frames =
        numbered-append (q + 1) (dicts ++ arrays) last
        ∙ (λ i. numbered-append (q + 1) dicts arrays i ++ SetupEnd (at_last i) ∷ [])
        ∙ ap (λ m. numbered (q + 1) dicts ++ numbered (q + 1 + m) arrays ++ SetupEnd (q + 1 + n + k) ∷ []) many

    length_is : length (setup_frames q shape entries blocks) ≡ suc (n + k + 1)
    length_is =
        ap (λ m. suc m) (length-numbered (q + 1) (dicts ++ arrays ++ last) ∙ length-append (dicts ++ arrays) last ∙ ap (λ m. m + 1) (length-append dicts arrays ∙ (λ i. many i + many_arrays i)))

    last_number : q + 1 + n + k + 1 ≡ q + suc (n + k + 1)
    last_number = omega arith

    next_last : q + 1 + n + k ≡ q + 1 + (n + k)
    next_last = omega arith

    whole : flat_map (λ part. part) list ≡ sorted
    whole = joined-parts 1024 sorted (omega arith)

    whole_blocks : flat_map (λ part. part) array_list ≡ sorted_blocks
    whole_blocks = joined-parts 256 sorted_blocks (omega arith)

    new : AreNew finmap.empty sorted
    new = AreNew-by_bytes entries differ

    none : finmap.len (finmap.empty {X = List ℕ} {R = slice_cmp nat_cmp}) ≡ 0
    none = finmap.len-empty (slice_cmp nat_cmp) (List ℕ)

    size : length sorted ≡ words
    size = length-by_bytes (λ (entry : Entry). entry.label) entries

    size_blocks : length sorted_blocks ≡ count
    size_blocks = length-by_bytes (λ (entry : Entry). entry.label) blocks

    full : finmap.len dictionary ≡ words
    full = omega (arith, none, size, len-new finmap.empty sorted new)

    whole_array : length array ≡ count
    whole_array = length-map sorted_blocks (λ (block : Entry). block.text) ∙ size_blocks

    in_parts : Takes f (filling shape words count (q + 1) finmap.empty []) (numbered (q + 1) dicts) (filling shape words count (q + 1 + n) dictionary []) (took_each (q + 1) n)
    in_parts =
        subst (λ es. Takes f (filling shape words count (q + 1) finmap.empty []) (numbered (q + 1) dicts) (filling shape words count (q + 1 + n) (with_entries finmap.empty es) []) (took_each (q + 1) n)) whole
        (parts_taken f shape words count list (q + 1) finmap.empty (omega (arith, none, size, ap length whole)) (subst (AreNew finmap.empty) (sym whole) new))

    in_array : Takes f (filling shape words count (q + 1 + n) dictionary []) (numbered (q + 1 + n) arrays) (filling shape words count (q + 1 + n + k) dictionary array) (took_each (q + 1 + n) k)
    in_array =
        subst (λ es. Takes f (filling shape words count (q + 1 + n) dictionary []) (numbered (q + 1 + n) arrays) (filling shape words count (q + 1 + n + k) dictionary (texts es)) (took_each (q + 1 + n) k)) whole_blocks
        (arrays_taken f shape words count dictionary array_list (q + 1 + n) [] full (omega (arith, size_blocks, ap length whole_blocks)))

    tables : Takes f (filling shape words count (q + 1) finmap.empty []) (numbered (q + 1) dicts ++ numbered (q + 1 + n) arrays) (filling shape words count (q + 1 + n + k) dictionary array) (took_each (q + 1) (n + k))
    tables =
        subst (Takes f (filling shape words count (q + 1) finmap.empty []) (numbered (q + 1) dicts ++ numbered (q + 1 + n) arrays) (filling shape words count (q + 1 + n + k) dictionary array)) (took_each-join (q + 1) n k)
        (takes-both f (filling shape words count (q + 1) finmap.empty []) (filling shape words count (q + 1 + n) dictionary []) (filling shape words count (q + 1 + n + k) dictionary array)
        (numbered (q + 1) dicts) (numbered (q + 1 + n) arrays) (took_each (q + 1) n) (took_each (q + 1 + n) k) in_parts in_array)

    ending : Takes f (filling shape words count (q + 1 + n + k) dictionary array) (SetupEnd (q + 1 + n + k) ∷ []) (filled shape words count (q + suc (n + k + 1)) dictionary array) ((Took (q + 1 + (n + k)) ∷ []) ∷ [])
    ending =
        takes-cons f (filling shape words count (q + 1 + n + k) dictionary array) (filled shape words count (q + suc (n + k + 1)) dictionary array) (filled shape words count (q + suc (n + k + 1)) dictionary array) (SetupEnd (q + 1 + n + k)) [] (Took (q + 1 + (n + k)) ∷ []) []
        (end_in_order shape words count (q + 1 + n + k) dictionary array full whole_array) (λ i. filled shape words count (last_number i) dictionary array) (λ i. Took (next_last i) ∷ []) (takes-none f (filled shape words count (q + suc (n + k + 1)) dictionary array))
