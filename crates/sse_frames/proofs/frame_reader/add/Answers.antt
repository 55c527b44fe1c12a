use Rattle.std.proofs.Common.{◌≡◌, ℕ, ◌+◌, ◌-◌, ◌*◌, ◌≤◌, List, ◌++◌, length, take, drop, sym, ap, ◌∙◌, arith}
use Rattle.std.specs.List.{flat_map, AllByRecursion}
use Rattle.std.specs.Simd.{first_chunks}
use Rattle.std.proofs.lemmas.List.{length-drop, length-take, drop-drop, take-append-drop}
use Rattle.sse_frames.specs.Frames.{IsBytes, entry_bytes, joined}
use Rattle.sse_frames.specs.FrameViews.{items_in, entries_in}
use Rattle.sse_frames.specs.Sizes.{AreItems}
use Rattle.sse_frames.proofs.Cut.{AreBytes, AreBytes-take, AreBytes-drop}
use Rattle.sse_frames.proofs.Numbers.{stands16, stands32}
use Rattle.sse_frames.proofs.Chunks.{first_chunks-take, items_are, length-items_in, length-entries_in, joined-items_in, entry_bytes-entries_in, each_item, each_entry}
use Rattle.sse_frames.proofs.FrameBodies.{two_counts_body}
use Rattle.sse_frames.proofs.AscendingFields.{entries_rise, numbers_rise}
use Rattle.sse_frames.proofs.frame_reader.add.Goals as goal

pub returns-clause-found : goal.returns-clause-found
returns-clause-found c =
    let body = c.args.body.now in
    let bytes : AreBytes body = λ i. omega (arith, c.type_inv.body i) in
    let e = c.in_ok-e.e in
    let r = c.in_ok-r.r in
    let lists = drop 9 body in
    let entries = c.in_ok-entries.entries.now in
    let numbers = c.in_ok-entries.numbers.now in
    let q = stands32 0 0xfffffffe 1 body c.in_ok-q.ensures.0 in
    let m = stands16 0 4096 5 body c.in_ok-e.ensures.0 in
    let n = stands16 0 (4096 - e) 7 body c.in_ok-r.ensures.0 in
    let end : length body ≡ 9 + e * 24 + r * 16 = c.in_ok-entries.ensures.whole in
    let first : entries ≡ take (e * 24) lists = c.in_ok-entries.ensures.entries in
    let second : numbers ≡ drop (e * 24) lists = c.in_ok-entries.ensures.numbers in
    let long : length lists ≡ e * 24 + r * 16 = omega (arith, end, length-drop 9 body) in
    let whole : length entries ≡ e * 24 = ap length first ∙ omega (arith, long, length-take (e * 24) lists) in
    let rest : length numbers ≡ r * 16 = ap length second ∙ omega (arith, long, length-drop (e * 24) lists) in
    let are : AreItems 24 entries = record { count = e; whole = whole } in
    let are_numbers : AreItems 16 numbers = record { count = r; whole = rest } in
    let all : AreBytes entries = rw first (AreBytes-take (e * 24) lists (AreBytes-drop 9 body bytes)) in
    let all_numbers : AreBytes numbers = rw second (AreBytes-drop (e * 24) lists (AreBytes-drop 9 body bytes)) in
    let chunks : items_in 24 entries ≡ first_chunks 24 e lists =
    items_are 24 e entries (omega arith) whole ∙ ap (first_chunks 24 e) first ∙ first_chunks-take 24 e (e * 24) lists (omega arith) in
    let chunks_behind : items_in 16 numbers ≡ first_chunks 16 r (drop (9 + e * 24) body) =
    items_are 16 r numbers (omega arith) rest ∙ ap (first_chunks 16 r) (second ∙ drop-drop (e * 24) 9 body) in
    let each : AllByRecursion (IsBytes 16) (items_in 16 numbers) = each_item 16 r numbers (omega arith) all_numbers rest in
    let len : length (entries_in 8 entries) ≡ e = length-entries_in 8 e entries whole in
    let len_numbers : length (items_in 16 numbers) ≡ r = length-items_in 16 r numbers (omega arith) rest in
    let most : e + r ≤ 4096 = omega (arith, m.below, c.in_ok-e.ensures.1, n.below, c.in_ok-r.ensures.1) in
    let one = entry_bytes-entries_in 8 entries are in
    let two = joined-items_in 16 numbers (omega arith) are_numbers in
    let both : lists ≡ flat_map entry_bytes (entries_in 8 entries) ++ joined (items_in 16 numbers) =
    sym (take-append-drop (e * 24) lists) ∙ ap (λ (x : List ℕ). x ++ drop (e * 24) lists) (sym first ∙ sym one) ∙ ap (λ (x : List ℕ). flat_map entry_bytes (entries_in 8 entries) ++ x) (sym second ∙ sym two) in
    rw c.in_ok-q.ensures.1 (record {
      grammar = record {
        number = omega (arith, q.below);
        count = omega (arith, len, len_numbers, most);
        each = each_entry 8 e entries all whole;
        rises = entries_rise 8 e 9 body entries c.in_ok-entries.ensures.entries_stand chunks;
        each_number = each;
        numbers_rise = numbers_rise r (9 + e * 24) body numbers c.in_ok-entries.ensures.numbers_stand chunks_behind each;
      };
      spelled = two_counts_body 6 body bytes c.requires.kind (omega arith) (length (entries_in 8 entries)) (length (items_in 16 numbers)) (sym c.in_ok-e.ensures.1 ∙ sym len) (sym c.in_ok-r.ensures.1 ∙ sym len_numbers)
          (flat_map entry_bytes (entries_in 8 entries) ++ joined (items_in 16 numbers)) both;
      sizes = record { whole_entries = are; whole_numbers = are_numbers };
    })
