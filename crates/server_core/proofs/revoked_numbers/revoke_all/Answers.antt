use Rattle.std.proofs.Common.{◌≡◌, List, ◌∷◌, length, None, ℕ, sym, ap, subst, ◌∙◌}
use Rattle.std.specs.FinSet as set
use Rattle.std.specs.List.{position_from}
use Rattle.sse_frames.specs.Frames.{Rises}
use Rattle.sse_frames.specs.FrameViews.{items_in}
use Rattle.server_tables.specs.Contents.{Contents}
use Rattle.server_tables.specs.Room.{no_room, pieces, HasRoom}
use Rattle.server_core.specs.Step.{with_numbers}
use Rattle.server_core.proofs.CellLemmas.{number_room_left}
use Rattle.server_core.proofs.EntryLemmas.{none_revoked_behind}
use Rattle.server_core.proofs.revoked_numbers.revoke_all.Goals as goal

-- the first number goes in, and the later ones stay out
pub loop-number-preserved : goal.loop-number-preserved
loop-number-preserved g c =
    let now = g.T.Tables.contents c.loop-number.tables in
    let n = c.in-Some.number.now in
    let ns = items_in 16 c.in-Some.behind.now in
    let is : items_in 16 c.loop-number.rest.now ≡ n ∷ ns = c.in-Some.ensures.items in
    let unknown : position_from (λ n. set.contains now.revoked n) 0 (n ∷ ns) ≡ None = ap (position_from (λ n. set.contains now.revoked n) 0) (sym is) ∙ c.loop-number.invariant.unknown in
    let rises : Rises (n ∷ ns) = subst Rises is c.loop-number.invariant.rises in
    let behind = none_revoked_behind now.revoked n ns unknown rises in
    let put = rw c.unwrap.ensures at c.revoke.ensures.ok in
    let spent = rw c.unwrap.ensures at c.revoke.ensures.spent in
    let room : HasRoom (g.T.Tables.room c.loop-number.tables) (record no_room { revoked = pieces (length (n ∷ ns)) 16 }) = subst (λ xs. HasRoom (g.T.Tables.room c.loop-number.tables) (record no_room { revoked = pieces (length xs) 16 })) is c.loop-number.invariant.room in
    let changed : Contents → List (List ℕ) → Contents = λ t xs. record t { revoked = with_numbers t.revoked xs } in
    record {
      same = ap (λ t. changed t ns) put ∙ ap (changed now) (sym is) ∙ c.loop-number.invariant.same;
      unknown = ap (λ t. position_from (λ n. set.contains t.revoked n) 0 ns) put ∙ behind.1;
      rises = behind.2;
      room = number_room_left _ _ (length ns) room spent;
    }
