use Rattle.std.proofs.Common.{◌≡◌, ◌%◌, ◌++◌, List, [], ◌∷◌, ℕ, length, sym, ap, subst, ◌∙◌, arith}
use Rattle.std.specs.Prelude.{All}
use Rattle.std.proofs.lemmas.List.{append_assoc}
use Rattle.std.proofs.lemmas.List.Elements.{All-nil, All-cons, All-append}
use Rattle.sse_frames.specs.FrameViews.{items_in}
use Rattle.server_tables.specs.Contents.{Contents}
use Rattle.server_tables.specs.Room.{no_room, pieces, HasRoom}
use Rattle.server_core.specs.Holds.{IsBlock}
use Rattle.server_core.proofs.CellLemmas.{block_room_left}
use Rattle.server_core.proofs.setup_parts.push_blocks.Goals as goal

-- the first block goes after the others
pub loop-block-preserved : goal.loop-block-preserved
loop-block-preserved g c =
    let now = g.T.Tables.contents c.loop-block.tables in
    let block = c.in-Some.block.now in
    let later = items_in c.args.width c.in-Some.behind.now in
    let is : items_in c.args.width c.loop-block.rest.now ≡ block ∷ later = c.in-Some.ensures.items in
    let put = rw c.unwrap.ensures at c.push_block.ensures.ok in
    let spent = rw c.unwrap.ensures at c.push_block.ensures.spent in
    let size : length block ≡ c.args.width = omega (arith, c.in-Some.ensures.sizes) in
    let room : HasRoom (g.T.Tables.room c.loop-block.tables) (record no_room { blocks = pieces (length (block ∷ later)) c.args.width }) = subst (λ xs. HasRoom (g.T.Tables.room c.loop-block.tables) (record no_room { blocks = pieces (length xs) c.args.width })) is c.loop-block.invariant.room in
    let filled : Contents → List (List ℕ) → Contents = λ t xs. record t { array = t.array ++ xs } in
    let one : IsBlock block = record { most = omega (arith, size, c.requires.size); numbers = ap (λ n. n % 8) size ∙ c.requires.numbers } in
    record {
      same = ap (λ t. filled t later) put ∙ ap (λ xs. record now { array = xs }) (append_assoc now.array (block ∷ []) later) ∙ ap (filled now) (sym is) ∙ c.loop-block.invariant.same;
      room = block_room_left _ _ (length later) c.args.width (length block) room spent size;
      blocks = λ held. subst (All IsBlock) (sym (ap (λ t. t.array) put)) (All-append IsBlock now.array (block ∷ []) (c.loop-block.invariant.blocks held) (All-cons IsBlock block [] one (All-nil IsBlock)));
    }
