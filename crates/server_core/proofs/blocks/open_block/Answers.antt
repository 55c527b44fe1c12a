use Rattle.std.proofs.lemmas.Grind.{common_steps}
use Rattle.std.proofs.Common.{◌≡◌, ◌*◌, ◌-◌, ◌%◌, length, take, Some, sym, ap, ◌∙◌, arith}
use Rattle.std.specs.Prelude.{option_and_then}
use Rattle.std.proofs.lemmas.List.{take-append-le}
use Rattle.keyed_fn.specs.KeyedFn.{keyed_fn}
use Rattle.keyed_fn.specs.KeyFormulas.{block_pad}
use Rattle.keyed_fn.specs.Xored.{xored}
use Rattle.std.proofs.lemmas.List.FromFn.{length-map-range_with_len}
use Rattle.list_packing.proofs.NumbersLemmas.{numbers_of-take}
use Rattle.two_level.specs.Opened.{numbers_of, leading}
use Rattle.server_core.proofs.CellLemmas.{IsBlock-at}
use Rattle.server_core.proofs.SearchLemmas.{block_at-there}
use Rattle.server_core.proofs.blocks.open_block.Goals as goal

pub slice_bounds-opened-end : goal.slice_bounds-opened-end
slice_bounds-opened-end g c =
    let block = IsBlock-at (g.T.Tables.contents c.args.tables.now).array (c.args.pointer - 1) c.in-Some.block.now c.requires c.in-Some.ensures in
    omega (arith, block.most, c.told-buffer)

-- what is decrypted is as long as the block
pub read_block-requires-clause-numbers : goal.read_block-requires-clause-numbers
read_block-requires-clause-numbers g c =
    let block = IsBlock-at (g.T.Tables.contents c.args.tables.now).array (c.args.pointer - 1) c.in-Some.block.now c.requires c.in-Some.ensures in
    let size : length c.open_block.new.block ≡ length c.in-Some.block.now = ap length c.open_block.ensures ∙ length-map-range_with_len _ 0 _ ∙ ap length c.copy_from_slice.ensures.after in
    ap (λ n. n % 8) size ∙ block.numbers

pub returns-clause-front : goal.returns-clause-front
returns-clause-front g c =
    let f = keyed_fn g.K.Keyed.prf g.K.Keyed.pad in
    let array = (g.T.Tables.contents c.args.tables.now).array in
    let there = block_at-there f c.args.token.now array c.args.number c.args.pointer (c.args.pointer - 1) c.in-Some.block.now (omega (arith, c.if-pointer-eq0.false)) c.in-Some.ensures in
    let block = IsBlock-at array (c.args.pointer - 1) c.in-Some.block.now c.requires c.in-Some.ensures in
    let clear = c.open_block.new.block in
    let copied = c.copy_from_slice.ensures.after in
    let opened : clear ≡ xored c.in-Some.block.now (block_pad f c.args.token.now.pad_key c.args.number (length c.in-Some.block.now)) = c.open_block.ensures ∙ ap (λ text. xored text (block_pad f c.args.token.now.pad_key c.args.number (length text))) copied in
    let size : length clear ≡ length c.in-Some.block.now = ap length opened ∙ length-map-range_with_len _ 0 _ in
    let whole : length clear % 8 ≡ 0 = ap (λ n. n % 8) size ∙ block.numbers in
    let front = take-append-le (8 * c.from.result) clear _ (omega (arith, c.from.ensures, c.in-Ok.ensures.within)) in
    ap (option_and_then leading) there
    ∙ ap (λ text. leading (numbers_of text)) (sym opened)
    ∙ c.in-Ok.ensures.front
    ∙ ap (λ n. Some (take n (numbers_of clear))) (sym c.from.ensures)
    ∙ ap (λ ns. Some ns) (sym (numbers_of-take clear c.from.result whole (omega (arith, c.from.ensures, c.in-Ok.ensures.within))))
    ∙ ap (λ text. Some (numbers_of text)) (sym front)

pub read_block-requires-clause-size : goal.read_block-requires-clause-size
read_block-requires-clause-size g c = grind (arith, common_steps)

pub returns-clause-within : goal.returns-clause-within
returns-clause-within g c = grind (arith, common_steps)
