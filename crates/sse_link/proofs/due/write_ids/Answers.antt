use Rattle.std.proofs.Common.{◌++◌, drop, take, ap, ◌∙◌}
use Rattle.std.proofs.Math.Seq.{take-append_seam}
use Rattle.sse_frames.specs.Replies.{Page, reply_bytes}
use Rattle.sse_link.proofs.Pages.{page_of, open_page}
use Rattle.sse_link.proofs.ReplySizes.{one_reply}
use Rattle.sse_link.proofs.due.write_ids.Goals as goal

-- the identifiers are a page
pub write_page-requires-clause-grammar : goal.write_page-requires-clause-grammar
write_page-requires-clause-grammar c = page_of c.args.is_last c.args.ids.now c.requires.most c.requires.full c.requires.ids (λ k. (c.type_inv.ids k).fits)

-- and its bytes say whether others follow
pub returns-clause-open : goal.returns-clause-open
returns-clause-open c =
    let page = reply_bytes (Page c.args.is_last c.args.ids.now) in
    let bytes = ap (take c.write_page.result) c.write_page.ensures.bytes ∙ ap (λ n. take n (page ++ drop c.write_page.result c.args.out.now)) c.write_page.ensures.len ∙ take-append_seam page _ in
    open_page c.args.is_last c.args.ids.now _ (page_of c.args.is_last c.args.ids.now c.requires.most c.requires.full c.requires.ids (λ k. (c.type_inv.ids k).fits)) bytes

pub returns-clause-one_reply : goal.returns-clause-one_reply
returns-clause-one_reply c =
    one_reply (Page c.args.is_last c.args.ids.now) c.write_page.result c.write_page.new.out (drop c.write_page.result c.args.out.now) c.write_page.ensures.bytes c.write_page.ensures.len c.write_page.ensures.least c.write_page.ensures.most
