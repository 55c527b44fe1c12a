use Rattle.std.proofs.Common.{◌≡◌, ℕ, ◌+◌, ◌/◌, List, ◌++◌, length, take, drop, refl, ap, sym, ◌∙◌, arith}
use Rattle.std.specs.List.{flat_map}
use Rattle.sse_frames.specs.Frames.{be64}
use Rattle.sse_frames.specs.Replies.{page_head, Page, reply_bytes}
use Rattle.sse_frames.specs.FrameViews.{numbers_in}
use Rattle.sse_frames.proofs.Cut.{AreBytes}
use Rattle.sse_frames.proofs.Puts.{put_next}
use Rattle.sse_frames.proofs.Pages.{page_spelled, be64-numbers_in, length-numbers_in}
use Rattle.sse_frames.proofs.reply_writer.put_page.Goals as goal

pub returns-clause-bytes : goal.returns-clause-bytes
returns-clause-bytes c =
    let ids = c.args.ids.now in
    let out = c.args.out.now in
    let head = c.head_of_page.result in
    let at = c.put_head-head.ensures.len in
    let bytes : AreBytes ids = λ i. omega (arith, c.type_inv.ids i) in
    let done = put_next (length ids) head ids out c.put_head-head.new.out c.put.new.out refl c.put_head-head.ensures.bytes
    (c.put.ensures.bytes ∙ ap (λ (h : ℕ). take h c.put_head-head.new.out ++ ids ++ drop (h + length ids) c.put_head-head.new.out) at) in
    let spelled : reply_bytes (Page c.args.last (numbers_in ids)) ≡ head ++ ids =
    page_spelled c.args.last (numbers_in ids)
    ∙ ap (λ (n : ℕ). page_head c.args.last n ++ flat_map be64 (numbers_in ids)) (length-numbers_in c.args.last ids c.requires.sizes)
    ∙ ap (λ (b : List ℕ). page_head c.args.last (length ids / 8) ++ b) (be64-numbers_in c.args.last ids bytes c.requires.sizes)
    ∙ ap (λ (h : List ℕ). h ++ ids) (sym c.head_of_page.ensures) in
    done
    ∙ ap (λ (x : List ℕ). x ++ drop (length head + length ids) out) (sym spelled)
    ∙ ap (λ (n : ℕ). reply_bytes (Page c.args.last (numbers_in ids)) ++ drop n out) (sym (c.put.ensures.place ∙ ap (λ (h : ℕ). h + length ids) at))
