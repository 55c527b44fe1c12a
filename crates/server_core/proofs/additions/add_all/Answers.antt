use Rattle.std.proofs.Common.{◌≡◌, List, ◌∷◌, length, None, sym, ap, subst, ◌∙◌}
use Rattle.sse_frames.specs.Frames.{Entry, Rises, labels_of}
use Rattle.sse_frames.specs.FrameViews.{entries_in}
use Rattle.server_tables.specs.Contents.{Contents}
use Rattle.server_tables.specs.Room.{no_room, pieces, HasRoom}
use Rattle.server_core.specs.Refusal.{first_known}
use Rattle.server_core.specs.Step.{with_entries}
use Rattle.server_core.proofs.CellLemmas.{addition_room_left}
use Rattle.server_core.proofs.EntryLemmas.{none_known_behind}
use Rattle.server_core.proofs.additions.add_all.Goals as goal

-- the first addition goes in, and the later ones stay unknown
pub loop-label-preserved : goal.loop-label-preserved
loop-label-preserved g c =
    let old = g.T.Tables.contents c.loop-label.tables in
    let e : Entry = record { label = c.in-Some.label.now; text = c.in-Some.sealed.now } in
    let es = entries_in 8 c.in-Some.behind.now in
    let is : entries_in 8 c.loop-label.rest.now ≡ e ∷ es = c.in-Some.ensures.entries in
    let unknown : first_known old.additions (e ∷ es) ≡ None = ap (first_known old.additions) (sym is) ∙ c.loop-label.invariant.unknown in
    let rises : Rises (labels_of (e ∷ es)) = subst (λ xs. Rises (labels_of xs)) is c.loop-label.invariant.rises in
    let behind = none_known_behind old.additions e es unknown rises in
    let put = rw c.unwrap.ensures at c.put_plus.ensures.ok in
    let spent = rw c.unwrap.ensures at c.put_plus.ensures.spent in
    let room : HasRoom (g.T.Tables.room c.loop-label.tables) (record no_room { additions = pieces (length (e ∷ es)) 8 }) = subst (λ xs. HasRoom (g.T.Tables.room c.loop-label.tables) (record no_room { additions = pieces (length xs) 8 })) is c.loop-label.invariant.room in
    let filled : Contents → List Entry → Contents = λ t xs. record t { additions = with_entries t.additions xs } in
    record {
      same = ap (λ t. filled t es) put ∙ ap (filled old) (sym is) ∙ c.loop-label.invariant.same;
      unknown = ap (λ t. first_known t.additions es) put ∙ behind.1;
      rises = behind.2;
      room = addition_room_left _ _ (length es) room spent;
    }
