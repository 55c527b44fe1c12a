-- What is named as a clash is one, and the joined lists of an update's frame are those of the frame.
use Rattle.std.proofs.Common.{◌≡◌, ◌+◌, ◌<◌, ◌≤◌, ℕ, suc, List, [], ◌∷◌, ◌++◌, length, map, drop, get_or, Some, refl, sym, ap, ◌∙◌, subst, arith, length-append}
use Rattle.std.specs.List.{flat_map}
use Rattle.std.proofs.lemmas.List.{length-map, take_at, drop_at}
use Rattle.add_counters.specs.NewEntry.{entry_text}
use Rattle.add_counters.specs.declared.entry.Entry.{Entry as Made}
use Rattle.client_registry.specs.FirstClash.{first_clash}
use Rattle.client_registry.proofs.DistinctLaws.{first_clash-places}
use Rattle.sse_frames.proofs.Chunks.{each_item, each_entry}
use Rattle.sse_frames.proofs.Cut.{AreBytes}
use Rattle.sse_frames.proofs.Joined.{EachHas, items_in-joined, length-joined}
use Rattle.sse_frames.specs.Frames.{Entry, IsAdd, IsDelete, IsNumber, Rises, entry_bytes, joined, labels_of}
use Rattle.sse_frames.specs.FrameViews.{entries_in, entry_in, items_in}
use Rattle.sse_frames.specs.Sizes.{AreItems}
use Rattle.client_core.specs.UpdateParts.{Adds, Revokes}
use Rattle.client_core.specs.UpdateTexts.{HaveSizes}

-- both of them lie within
pub clash_within : (values : List (List ℕ)) (first second n : ℕ) → first_clash values ≡ Some (first, second) → length values ≡ n → (first < n) × (second < n)
clash_within values first second n is len =
    let places = first_clash-places values first second is in
    (omega (arith, places.order, places.within, len), omega (arith, places.within, len))

-- ---- what is joined is cut again

each_has : (n : ℕ) (xs : List (List ℕ)) → ((i : ℕ) → i < length xs → length (get_or xs i []) ≡ n) → EachHas n xs
each_has n [] each = tt
each_has n (x ∷ xs) each = (each 0 (omega arith), each_has n xs (λ i lt. each (suc i) (omega (arith, lt))))

entries_joined : (es : List Made) → flat_map entry_bytes (map entry_text es) ≡ joined (map (λ e. entry_bytes (entry_text e)) es)
entries_joined [] = refl
entries_joined (e ∷ es) = ap (λ rest. entry_bytes (entry_text e) ++ rest) (entries_joined es)

pieces : (es : List Made) → HaveSizes es → EachHas 24 (map (λ e. entry_bytes (entry_text e)) es)
pieces [] sizes = tt
pieces (e ∷ es) sizes =
    let here = sizes 0 e (omega arith) in (
      omega (arith, length-append e.label e.sealed, here.0, here.1),
      pieces es (λ i d lt. sizes (suc i) d (omega (arith, lt))),
    )

again : (es : List Made) → HaveSizes es → map entry_in (map (λ e. entry_bytes (entry_text e)) es) ≡ map entry_text es
again [] sizes = refl
again (e ∷ es) sizes =
    let here = sizes 0 e (omega arith) in
    ap (λ label. (let x : Entry = record { label = label; text = drop 16 (e.label ++ e.sealed) } in x) ∷ map entry_in (map (λ y. entry_bytes (entry_text y)) es)) (take_at e.label e.sealed 16 here.0)
    ∙ ap (λ text. (let x : Entry = record { label = e.label; text = text } in x) ∷ map entry_in (map (λ y. entry_bytes (entry_text y)) es)) (drop_at e.label e.sealed 16 here.0)
    ∙ ap (λ xs. entry_text e ∷ xs) (again es (λ i d lt. sizes (suc i) d (omega (arith, lt))))

labels_same : (es : List Made) → labels_of (map entry_text es) ≡ map (λ e. e.label) es
labels_same [] = refl
labels_same (e ∷ es) = ap (λ ls. e.label ∷ ls) (labels_same es)

module _ (es : List Made) (a : List ℕ) (first : a ≡ flat_map entry_bytes (map entry_text es)) (sizes : HaveSizes es) where
  abbrev made : List (List ℕ)
  made = map (λ e. entry_bytes (entry_text e)) es

  pub entries_again : entries_in 8 a ≡ map entry_text es
  entries_again = ap (entries_in 8) (first ∙ entries_joined es) ∙ ap (map entry_in) (items_in-joined 24 made (omega arith) (pieces es sizes)) ∙ again es sizes

  entries_whole : AreItems 24 a
  entries_whole = record { count = length made; whole = ap length (first ∙ entries_joined es) ∙ length-joined 24 made (pieces es sizes) }

module _ (numbers : List (List ℕ)) (b : List ℕ) (second : b ≡ joined numbers) (each : (i : ℕ) → i < length numbers → length (get_or numbers i []) ≡ 16) where
  pub numbers_again : items_in 16 b ≡ numbers
  numbers_again = ap (items_in 16) second ∙ items_in-joined 16 numbers (omega arith) (each_has 16 numbers each)

  numbers_whole : AreItems 16 b
  numbers_whole = record { count = length numbers; whole = ap length second ∙ length-joined 16 numbers (each_has 16 numbers each) }

  pub Revokes-made : (q : ℕ) → IsNumber q → length numbers ≤ 4096 → Rises numbers → Revokes q b
  Revokes-made q number few rises = record {
    number = number;
    sizes = numbers_whole;
    count = omega (arith, few, ap length numbers_again);
    numbers_rise = subst Rises (sym numbers_again) rises;
  }

-- what an addition's frame needs, from what its writer knows
pub Adds-made : (q : ℕ) (es : List Made) (numbers : List (List ℕ)) (a b : List ℕ) → IsNumber q → length es + length numbers ≤ 4096 → Rises (map (λ e. e.label) es) → Rises numbers
    → a ≡ flat_map entry_bytes (map entry_text es) → HaveSizes es → b ≡ joined numbers → ((i : ℕ) → i < length numbers → length (get_or numbers i []) ≡ 16) → Adds q a b
Adds-made q es numbers a b number few rises numbers_rise first sizes second each = record {
  number = number;
  sizes = record { whole_entries = entries_whole es a first sizes; whole_numbers = numbers_whole numbers b second each };
  count = omega (arith, few, length-map es entry_text, ap length (entries_again es a first sizes), ap length (numbers_again numbers b second each));
  rises = subst Rises (sym (ap labels_of (entries_again es a first sizes) ∙ labels_same es)) rises;
  numbers_rise = subst Rises (sym (numbers_again numbers b second each)) numbers_rise;
}

-- joined lists that keep that are a frame's
pub IsAdd-Adds : (q : ℕ) (a b : List ℕ) → Adds q a b → AreBytes a → AreBytes b → IsAdd q (entries_in 8 a) (items_in 16 b)
IsAdd-Adds q a b is a_bytes b_bytes = record {
  number = is.number;
  count = is.count;
  each = each_entry 8 is.sizes.whole_entries.count a a_bytes is.sizes.whole_entries.whole;
  rises = is.rises;
  each_number = each_item 16 is.sizes.whole_numbers.count b (omega arith) b_bytes is.sizes.whole_numbers.whole;
  numbers_rise = is.numbers_rise;
}

pub IsDelete-Revokes : (q : ℕ) (b : List ℕ) → Revokes q b → AreBytes b → IsDelete q (items_in 16 b)
IsDelete-Revokes q b is b_bytes = record {
  number = is.number;
  count = is.count;
  each_number = each_item 16 is.sizes.count b (omega arith) b_bytes is.sizes.whole;
  numbers_rise = is.numbers_rise;
}
