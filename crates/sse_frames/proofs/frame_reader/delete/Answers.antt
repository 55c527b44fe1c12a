use Rattle.std.proofs.Common.{◌≡◌, ◌+◌, ◌*◌, ◌≤◌, length, drop, sym, ap, ◌∙◌, arith}
use Rattle.std.specs.List.{AllByRecursion}
use Rattle.std.specs.Simd.{first_chunks}
use Rattle.std.proofs.lemmas.List.{length-drop}
use Rattle.sse_frames.specs.Frames.{IsBytes, joined}
use Rattle.sse_frames.specs.FrameViews.{items_in}
use Rattle.sse_frames.specs.Sizes.{AreItems}
use Rattle.sse_frames.proofs.Cut.{AreBytes, AreBytes-drop}
use Rattle.sse_frames.proofs.Numbers.{stands16, stands32}
use Rattle.sse_frames.proofs.Chunks.{items_are, length-items_in, joined-items_in, each_item}
use Rattle.sse_frames.proofs.FrameBodies.{one_count_body}
use Rattle.sse_frames.proofs.AscendingFields.{numbers_rise}
use Rattle.sse_frames.proofs.frame_reader.delete.Goals as goal

pub returns-clause-found : goal.returns-clause-found
returns-clause-found c =
    let body = c.args.body.now in
    let bytes : AreBytes body = λ i. omega (arith, c.type_inv.body i) in
    let r = c.in_ok-r.r in
    let numbers = c.in_ok-numbers.numbers.now in
    let q = stands32 0 0xfffffffe 1 body c.in_ok-q.ensures.0 in
    let n = stands16 0 4096 5 body c.in_ok-r.ensures.0 in
    let end : length body ≡ 7 + r * 16 = c.in_ok-numbers.ensures.whole in
    let same : numbers ≡ drop 7 body = c.in_ok-numbers.ensures.numbers in
    let whole : length numbers ≡ r * 16 = ap length same ∙ omega (arith, end, length-drop 7 body) in
    let are : AreItems 16 numbers = record { count = r; whole = whole } in
    let all : AreBytes numbers = rw same (AreBytes-drop 7 body bytes) in
    let chunks : items_in 16 numbers ≡ first_chunks 16 r (drop 7 body) = items_are 16 r numbers (omega arith) whole ∙ ap (first_chunks 16 r) same in
    let each : AllByRecursion (IsBytes 16) (items_in 16 numbers) = each_item 16 r numbers (omega arith) all whole in
    let len : length (items_in 16 numbers) ≡ r = length-items_in 16 r numbers (omega arith) whole in
    let most : r ≤ 4096 = omega (arith, n.below, c.in_ok-r.ensures.1) in
    rw c.in_ok-q.ensures.1 (record {
      grammar = record { number = omega (arith, q.below); count = rw len most; each_number = each; numbers_rise = numbers_rise r 7 body numbers c.in_ok-numbers.ensures.stand chunks each };
      spelled = one_count_body 7 body bytes c.requires.kind (omega arith) (length (items_in 16 numbers)) (sym c.in_ok-r.ensures.1 ∙ sym len) (joined (items_in 16 numbers)) (sym same ∙ sym (joined-items_in 16 numbers (omega arith) are));
      sizes = are;
    })
