use Rattle.std.proofs.Common.{◌≡◌, ◌+◌, ◌*◌, ◌≤◌, length, drop, sym, ap, ◌∙◌, arith}
use Rattle.std.specs.List.{flat_map}
use Rattle.std.specs.Int.{w16}
use Rattle.std.specs.Simd.{first_chunks}
use Rattle.std.proofs.lemmas.Bool.{and_parts}
use Rattle.std.proofs.lemmas.List.{length-drop}
use Rattle.sse_frames.specs.Frames.{entry_bytes}
use Rattle.sse_frames.specs.FrameViews.{items_in, entries_in}
use Rattle.sse_frames.specs.Sizes.{AreItems}
use Rattle.sse_frames.specs.Fields.{is_whole, is_cell_width, number_at}
use Rattle.sse_frames.proofs.Cut.{AreBytes, AreBytes-drop}
use Rattle.sse_frames.proofs.Numbers.{stands16, stands32}
use Rattle.sse_frames.proofs.Chunks.{items_are, length-entries_in, entry_bytes-entries_in, each_entry}
use Rattle.sse_frames.proofs.FrameBodies.{is_cell, two_counts_body}
use Rattle.sse_frames.proofs.AscendingFields.{entries_rise}
use Rattle.sse_frames.proofs.frame_reader.setup_dict.Goals as goal

pub returns-clause-found : goal.returns-clause-found
returns-clause-found c =
    let body = c.args.body.now in
    let bytes : AreBytes body = λ i. omega (arith, c.type_inv.body i) in
    let width = c.in_ok-width.width in
    let count = c.in_ok-count.count in
    let entries = c.in_ok-entries.entries.now in
    let q = stands32 0 0xfffffffe 1 body c.in_ok-q.ensures.0 in
    let n = stands16 1 1024 7 body c.in_ok-count.ensures.0 in
    let cell = is_cell width (rw c.in_ok-width.ensures.1 ((and_parts (is_whole 5 2 body) (is_cell_width (number_at w16 5 body)) c.in_ok-width.ensures.0).1)) in
    let end : length body ≡ 9 + count * (16 + width) = c.in_ok-entries.ensures.whole in
    let same : entries ≡ drop 9 body = c.in_ok-entries.ensures.entries in
    let whole : length entries ≡ count * (16 + width) = ap length same ∙ omega (arith, end, length-drop 9 body) in
    let are : AreItems (16 + width) entries = record { count = count; whole = whole } in
    let all : AreBytes entries = rw same (AreBytes-drop 9 body bytes) in
    let chunks : items_in (16 + width) entries ≡ first_chunks (16 + width) count (drop 9 body) = items_are (16 + width) count entries (omega arith) whole ∙ ap (first_chunks (16 + width) count) same in
    let len : length (entries_in width entries) ≡ count = length-entries_in width count entries whole in
    let some : 1 ≤ count = omega (arith, n.above, c.in_ok-count.ensures.1) in
    let most : count ≤ 1024 = omega (arith, n.below, c.in_ok-count.ensures.1) in
    rw c.in_ok-q.ensures.1 (record {
      grammar = record {
        number = omega (arith, q.below);
        cell = cell;
        count = rw len (some, most);
        each = each_entry width count entries all whole;
        rises = entries_rise width count 9 body entries c.in_ok-entries.ensures.stand chunks;
      };
      spelled = two_counts_body 3 body bytes c.requires.kind (omega arith) width (length (entries_in width entries)) (sym c.in_ok-width.ensures.1) (sym c.in_ok-count.ensures.1 ∙ sym len)
          (flat_map entry_bytes (entries_in width entries)) (sym same ∙ sym (entry_bytes-entries_in width entries are));
      sizes = are;
    })
