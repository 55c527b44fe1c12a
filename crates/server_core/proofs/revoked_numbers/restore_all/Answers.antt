use Rattle.std.proofs.Common.{◌≡◌, List, ◌∷◌, not, None, ℕ, sym, ap, subst, ◌∙◌}
use Rattle.std.specs.FinSet as set
use Rattle.std.specs.List.{position_from}
use Rattle.sse_frames.specs.Frames.{Rises}
use Rattle.sse_frames.specs.FrameViews.{items_in}
use Rattle.server_tables.specs.Contents.{Contents}
use Rattle.server_core.specs.Step.{without_numbers}
use Rattle.server_core.proofs.EntryLemmas.{none_missing_behind}
use Rattle.server_core.proofs.revoked_numbers.restore_all.Goals as goal

-- the first number is taken out, and the later ones stay in
pub loop-number-preserved : goal.loop-number-preserved
loop-number-preserved g c =
    let now = g.T.Tables.contents c.loop-number.tables in
    let n = c.in-Some.number.now in
    let ns = items_in 16 c.in-Some.behind.now in
    let is : items_in 16 c.loop-number.rest.now ≡ n ∷ ns = c.in-Some.ensures.items in
    let unknown : position_from (λ n. not (set.contains now.revoked n)) 0 (n ∷ ns) ≡ None = ap (position_from (λ n. not (set.contains now.revoked n)) 0) (sym is) ∙ c.loop-number.invariant.unknown in
    let rises : Rises (n ∷ ns) = subst Rises is c.loop-number.invariant.rises in
    let behind = none_missing_behind now.revoked n ns unknown rises in
    let put = rw c.unwrap.ensures at c.restore.ensures.ok in
    let changed : Contents → List (List ℕ) → Contents = λ t xs. record t { revoked = without_numbers t.revoked xs } in
    record {
      same = ap (λ t. changed t ns) put ∙ ap (changed now) (sym is) ∙ c.loop-number.invariant.same;
      unknown = ap (λ t. position_from (λ n. not (set.contains t.revoked n)) 0 ns) put ∙ behind.1;
      rises = behind.2;
    }
