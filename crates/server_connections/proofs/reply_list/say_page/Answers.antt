use Rattle.sse_link.proofs.Pages.{page_of}
use Rattle.server_connections.proofs.reply_list.say_page.Goals as goal

-- the identifiers are a page
pub write_page-size-requires-clause-grammar : goal.write_page-size-requires-clause-grammar
write_page-size-requires-clause-grammar g c = page_of c.args.is_last c.args.ids.now c.requires.most c.requires.full c.requires.ids (λ k. (c.type_inv.ids k).fits)
