use Rattle.std.proofs.Common.{ℕ, Option, not, sym, ap, ◌∙◌}
use Rattle.std.specs.FinSet as set
use Rattle.std.specs.List.{position_from}
use Rattle.sse_frames.specs.Frames.{AddFrame, DeleteFrame}
use Rattle.sse_frames.specs.FrameViews.{frame_view, entries_in, items_in}
use Rattle.server_core.specs.Refusal.{clash, clash_at, first_of_two}
use Rattle.server_core.proofs.EntryLemmas.{is_none}
use Rattle.server_core.proofs.server.Server.clash.Goals as goal

-- no label of the frame is there: the first number that isn't revoked
pub returns-else-is_some : goal.returns-else-is_some
returns-else-is_some g c =
    let held = g.T.Tables.contents c.self.inside.tables in
    let entries = entries_in 8 c.in-Add.entries.now in
    let numbers = items_in 16 c.in-Add.numbers.now in
    let missing : Option ℕ = position_from (λ n. not (set.contains held.revoked n)) 0 numbers in
    let none = sym (is_none c.first_added-added.result (sym c.is_some.ensures ∙ c.if-is_some.false)) ∙ c.first_added-added.ensures.place in
    c.clash_at-in-Add.ensures ∙ ap (clash_at 3) c.first_missing.ensures.place
    ∙ ap (λ o. first_of_two (clash_at 2 o) (clash_at 3 missing)) none
    ∙ ap (λ v. clash v.state (AddFrame c.in-Add.q entries numbers)) c.self.view_is
    ∙ sym (ap (λ frame. clash c.args.self.now.state (frame_view frame)) c.in-Add.is)

pub returns-in-Delete : goal.returns-in-Delete
returns-in-Delete g c =
    c.clash_at-in-Delete.ensures ∙ ap (clash_at 3) c.first_revoked.ensures.place
    ∙ ap (λ v. clash v.state (DeleteFrame c.in-Delete.q (items_in 16 c.in-Delete.numbers.now))) c.self.view_is
    ∙ sym (ap (λ frame. clash c.args.self.now.state (frame_view frame)) c.in-Delete.is)
