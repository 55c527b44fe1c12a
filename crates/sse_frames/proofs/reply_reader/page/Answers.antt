use Rattle.std.proofs.Common.{◌≡◌, ◌+◌, ◌*◌, ◌≤◌, [], length, get_or, drop, sym, ap, ◌∙◌, arith}
use Rattle.std.specs.List.{flat_map}
use Rattle.std.proofs.lemmas.List.{length-drop, append-nil}
use Rattle.sse_frames.specs.Frames.{be64}
use Rattle.sse_frames.specs.FrameViews.{numbers_in}
use Rattle.sse_frames.specs.Tables.{least_ids}
use Rattle.sse_frames.proofs.Cut.{AreBytes, at_end}
use Rattle.sse_frames.proofs.Numbers.{stands8, stands16}
use Rattle.sse_frames.proofs.Ids.{ids_at, ids_stand, length-ids_at}
use Rattle.sse_frames.proofs.ReplyBodies.{ids_are, page_body, is_full}
use Rattle.sse_frames.proofs.reply_reader.page.Goals as goal

pub returns-clause-found : goal.returns-clause-found
returns-clause-found c =
    let body = c.args.body.now in
    let bytes : AreBytes body = λ i. omega (arith, c.type_inv.body i) in
    let count = c.in_ok-count.count in
    let last = stands8 0 1 1 body c.in_ok-last.ensures.0 in
    let n = stands16 c.least_ids.result 8192 2 body c.in_ok-count.ensures.0 in
    let end : length body ≡ 4 + count * 8 = c.in_ok-ids.ensures.whole in
    let stood = ids_stand count 4 body bytes c.in_ok-ids.ensures.stand in
    let is : numbers_in c.in_ok-ids.ids.now ≡ ids_at count 4 body = ap numbers_in c.in_ok-ids.ensures.ids ∙ ids_are count body end in
    let len = length-ids_at count 4 body in
    let most : count ≤ 8192 = omega (arith, n.below, c.in_ok-count.ensures.1) in
    let none : drop (4 + count * 8) body ≡ [] = at_end (4 + count * 8) body end in
    let joined : drop 4 body ≡ flat_map be64 (ids_at count 4 body) = stood.joined ∙ rw none (append-nil (flat_map be64 (ids_at count 4 body))) in
    let least_is : least_ids (get_or body 1 0) ≡ c.least_ids.result = ap least_ids (sym c.in_ok-last.ensures.1) ∙ sym c.least_ids.ensures in
    let least : least_ids (get_or body 1 0) ≤ count = rw least_is (omega (arith, n.above, c.in_ok-count.ensures.1)) in
    let left : length (drop 4 body) ≡ count * 8 = omega (arith, end, length-drop 4 body) in
    rw c.in_ok-last.ensures.1 (record {
      grammar = rw is (record { most = omega (arith, len, most); full = λ e. len ∙ is_full (get_or body 1 0) count last.below least most e; each = stood.each });
      spelled = rw is (page_body body bytes c.requires.kind count (sym c.in_ok-count.ensures.1) last.below end (ids_at count 4 body) len joined);
      sizes = record { count = count; most = most; whole = ap length c.in_ok-ids.ensures.ids ∙ left; full = is_full (get_or body 1 0) count last.below least most };
    })
