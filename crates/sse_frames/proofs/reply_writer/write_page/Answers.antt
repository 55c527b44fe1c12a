use Rattle.std.proofs.Common.{ℕ, ◌+◌, ◌*◌, List, ◌++◌, length, take, drop, ap, sym, ◌∙◌}
use Rattle.std.specs.List.{flat_map}
use Rattle.sse_frames.specs.Frames.{be64}
use Rattle.sse_frames.specs.Replies.{Page, reply_bytes}
use Rattle.sse_frames.proofs.Puts.{put_next}
use Rattle.sse_frames.proofs.Pages.{page_spelled, length-be64s}
use Rattle.sse_frames.proofs.reply_writer.write_page.Goals as goal

pub returns-clause-bytes : goal.returns-clause-bytes
returns-clause-bytes c =
    let ids = c.args.ids.now in
    let out = c.args.out.now in
    let head = c.head_of_page.result in
    let at = c.put_head-head.ensures.len in
    let done = put_next (length ids * 8) head (flat_map be64 ids) out c.put_head-head.new.out c.put_u64s.new.out (length-be64s ids) c.put_head-head.ensures.bytes
    (c.put_u64s.ensures ∙ ap (λ (h : ℕ). take h c.put_head-head.new.out ++ flat_map be64 ids ++ drop (h + length ids * 8) c.put_head-head.new.out) at) in
    done
    ∙ ap (λ (x : List ℕ). x ++ flat_map be64 ids ++ drop (length head + length ids * 8) out) c.head_of_page.ensures
    ∙ ap (λ (x : List ℕ). x ++ drop (length head + length ids * 8) out) (sym (page_spelled c.args.last ids))
    ∙ ap (λ (h : ℕ). reply_bytes (Page c.args.last ids) ++ drop (h + length ids * 8) out) (sym at)
