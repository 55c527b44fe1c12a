use Rattle.std.proofs.lemmas.Grind.{common_steps}
use Rattle.std.proofs.Common.{◌≡◌, ◌%◌, List, ◌∷◌, length, None, sym, ap, subst, ◌∙◌, arith}
use Rattle.sse_frames.specs.Frames.{Entry, Rises, labels_of}
use Rattle.sse_frames.specs.FrameViews.{entries_in}
use Rattle.server_tables.specs.Contents.{Contents}
use Rattle.server_tables.specs.Room.{no_room, pieces, HasRoom}
use Rattle.server_core.specs.Holds.{HasCells}
use Rattle.server_core.specs.Refusal.{first_known}
use Rattle.server_core.specs.Step.{with_entries}
use Rattle.server_core.proofs.CellLemmas.{HasCells-insert, room_left}
use Rattle.server_core.proofs.EntryLemmas.{none_known_behind}
use Rattle.server_core.proofs.setup_parts.put_all.Goals as goal

-- the first entry goes in, and the later ones stay unknown
pub loop-label-preserved : goal.loop-label-preserved
loop-label-preserved g c =
    let old = g.T.Tables.contents c.loop-label.tables in
    let e : Entry = record { label = c.in-Some.label.now; text = c.in-Some.cell.now } in
    let es = entries_in c.args.width c.in-Some.behind.now in
    let is : entries_in c.args.width c.loop-label.rest.now ≡ e ∷ es = c.in-Some.ensures.entries in
    let unknown : first_known old.dictionary (e ∷ es) ≡ None = ap (first_known old.dictionary) (sym is) ∙ c.loop-label.invariant.unknown in
    let rises : Rises (labels_of (e ∷ es)) = subst (λ xs. Rises (labels_of xs)) is c.loop-label.invariant.rises in
    let behind = none_known_behind old.dictionary e es unknown rises in
    let put = rw c.unwrap.ensures at c.put_entry.ensures.ok in
    let spent = rw c.unwrap.ensures at c.put_entry.ensures.spent in
    let size : length c.in-Some.cell.now ≡ c.args.width = omega (arith, c.in-Some.ensures.sizes) in
    let room : HasRoom (g.T.Tables.room c.loop-label.tables) (record no_room { entries = pieces (length (e ∷ es)) c.args.width }) = subst (λ xs. HasRoom (g.T.Tables.room c.loop-label.tables) (record no_room { entries = pieces (length xs) c.args.width })) is c.loop-label.invariant.room in
    let filled : Contents → List Entry → Contents = λ t xs. record t { dictionary = with_entries t.dictionary xs } in
    record {
      same = ap (λ t. filled t es) put ∙ ap (filled old) (sym is) ∙ c.loop-label.invariant.same;
      unknown = ap (λ t. first_known t.dictionary es) put ∙ behind.1;
      rises = behind.2;
      room = room_left _ _ (length es) c.args.width (length c.in-Some.cell.now) room spent size;
      cells = λ held. subst HasCells (sym (ap (λ t. t.dictionary) put)) (HasCells-insert old.dictionary e.label e.text (c.loop-label.invariant.cells held) (record {
        most = omega (arith, size, c.requires.size);
        numbers = ap (λ n. n % 8) size ∙ c.requires.numbers;
      }));
    }

pub unwrap-requires : goal.unwrap-requires
unwrap-requires g c = grind (arith, common_steps)
