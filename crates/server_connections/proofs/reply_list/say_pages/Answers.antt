use Rattle.std.proofs.Common.{sym, ◌∙◌}
use Rattle.keyed_fn.specs.KeyedFn.{keyed_fn}
use Rattle.tcp_service.proofs.Pieces.{IsSaid-err}
use Rattle.server_connections.proofs.Pages.{cut-page, last-page, next-page}
use Rattle.server_connections.proofs.reply_list.say_pages.Goals as goal

-- the page in front was cut
pub returns-in_err-say_page-clause-said : goal.returns-in_err-say_page-clause-said
returns-in_err-say_page-clause-said g c =
    let now = c.pages.invariant in
    IsSaid-err _ _ _ c.from_residual.result c.in_err-say_page.field-0.0 c.from_residual.ensures.1
    (cut-page (keyed_fn g.K.Keyed.prf g.K.Keyed.pad) (g.S.Keeps.state c.args.store.now) c.pages.count c.pages.walk c.pages.page _ _ _ _ c.is_over.result now.begun now.long now.saying c.is_over.ensures _ c.in_err-say_page.ensures.said)

-- it was the last one
pub returns-then-is_over-clause-said : goal.returns-then-is_over-clause-said
returns-then-is_over-clause-said g c =
    let now = c.pages.invariant in
    last-page (keyed_fn g.K.Keyed.prf g.K.Keyed.pad) (g.S.Keeps.state c.args.store.now) c.pages.count c.pages.walk c.pages.page _ _ _ _ c.is_over.result now.begun now.long now.saying c.is_over.ensures
    (sym c.is_over-in-pages.ensures ∙ c.if-is_over.true) c.in_ok-say_page.ensures.said

-- others follow
pub pages-preserved : goal.pages-preserved
pages-preserved g c =
    let now = c.pages.invariant in
    record {
      begun = record {
        front = record { room = c.fill-count.ensures.room; full = c.fill-count.ensures.full; ids = c.fill-count.ensures.ids };
        walk_is = c.fill-count.ensures.walk;
      };
      long = c.fill-count.ensures.long ∙ now.long;
      long_room = c.say_page.ensures.long ∙ now.long_room;
      saying = next-page (keyed_fn g.K.Keyed.prf g.K.Keyed.pad) (g.S.Keeps.state c.args.store.now) c.pages.count c.pages.walk c.pages.page _ _ _ _ c.is_over.result now.begun now.long now.saying c.is_over.ensures
          _ (sym c.is_over-in-pages.ensures ∙ c.if-is_over.false) c.in_ok-say_page.ensures.said c.fill-count.ensures.handed;
      steady = c.in_ok-say_page.ensures.cause.0 ∙ now.steady;
      supplied = c.in_ok-say_page.ensures.cause.1 ∙ now.supplied;
    }
