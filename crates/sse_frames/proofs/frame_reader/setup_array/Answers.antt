use Rattle.std.proofs.Common.{◌≡◌, ◌+◌, ◌*◌, ◌<◌, ◌≤◌, length, drop, sym, ap, ◌∙◌, arith}
use Rattle.std.specs.Int.{w16}
use Rattle.std.proofs.lemmas.Bool.{and_parts}
use Rattle.std.proofs.lemmas.List.{length-drop}
use Rattle.sse_frames.specs.Frames.{joined}
use Rattle.sse_frames.specs.FrameViews.{items_in}
use Rattle.sse_frames.specs.Sizes.{AreItems}
use Rattle.sse_frames.specs.Fields.{is_whole, is_block_width, number_at}
use Rattle.sse_frames.proofs.Cut.{AreBytes, AreBytes-drop}
use Rattle.sse_frames.proofs.Numbers.{stands16, stands32}
use Rattle.sse_frames.proofs.Chunks.{length-items_in, joined-items_in, each_item}
use Rattle.sse_frames.proofs.FrameBodies.{is_block, two_counts_body}
use Rattle.sse_frames.proofs.frame_reader.setup_array.Goals as goal

pub returns-clause-found : goal.returns-clause-found
returns-clause-found c =
    let body = c.args.body.now in
    let bytes : AreBytes body = λ i. omega (arith, c.type_inv.body i) in
    let width = c.in_ok-width.width in
    let count = c.in_ok-count.count in
    let blocks = c.in_ok-list.list.now in
    let q = stands32 0 0xfffffffe 1 body c.in_ok-q.ensures.0 in
    let n = stands16 1 256 7 body c.in_ok-count.ensures.0 in
    let block = is_block width (rw c.in_ok-width.ensures.1 ((and_parts (is_whole 5 2 body) (is_block_width (number_at w16 5 body)) c.in_ok-width.ensures.0).1)) in
    let wide : 0 < width = omega (arith, block.1, block.3) in
    let end : length body ≡ 9 + count * width = c.in_ok-list.ensures.whole in
    let same : blocks ≡ drop 9 body = c.in_ok-list.ensures.list in
    let whole : length blocks ≡ count * width = ap length same ∙ omega (arith, end, length-drop 9 body) in
    let are : AreItems width blocks = record { count = count; whole = whole } in
    let all : AreBytes blocks = rw same (AreBytes-drop 9 body bytes) in
    let len : length (items_in width blocks) ≡ count = length-items_in width count blocks wide whole in
    let some : 1 ≤ count = omega (arith, n.above, c.in_ok-count.ensures.1) in
    let most : count ≤ 256 = omega (arith, n.below, c.in_ok-count.ensures.1) in
    rw c.in_ok-q.ensures.1 (record {
      grammar = record { number = omega (arith, q.below); block = block; count = rw len (some, most); each = each_item width count blocks wide all whole };
      spelled = two_counts_body 4 body bytes c.requires.kind (omega arith) width (length (items_in width blocks)) (sym c.in_ok-width.ensures.1) (sym c.in_ok-count.ensures.1 ∙ sym len)
          (joined (items_in width blocks)) (sym same ∙ sym (joined-items_in width blocks wide are));
      sizes = are;
    })
