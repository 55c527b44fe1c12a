use Rattle.std.proofs.Common.{◌≡◌, ◌≤◌, ◌+◌, ◌*◌, length, get_or, sym, ap, subst, ◌∙◌}
use Rattle.std.proofs.lemmas.List.FromFn.{length-map-range_with_len}
use Rattle.keyed_fn.specs.KeyedFn.{keyed_fn}
use Rattle.keyed_fn.specs.Xored.{xored}
use Rattle.two_level.specs.Shape.{Shape}
use Rattle.word_keys.specs.PadName.{name_after, named_pad}
use Rattle.index_setup.specs.Placed.{block_texts}
use Rattle.index_setup.proofs.PlacedLaws.{block_step, placed_all, slot_room}
use Rattle.index_setup.proofs.entry_bytes.write_blocks.Goals as goal

pub loop-i-preserved : goal.loop-i-preserved
loop-i-preserved g c =
    let f = keyed_fn g.K.Keyed.prf g.K.Keyed.pad in
    let s : Shape = c.args.shape in
    let i = c.loop-i.i in
    let ranks = c.args.ranks.now in
    let key = c.args.pads.now.key in
    let array = c.loop-i.array in
    let r = get_or ranks i 0 in
    let room : (r + 1) * (8 * c.args.shape.big) ≤ length array = subst (λ n. (r + 1) * (8 * c.args.shape.big) ≤ n) (sym c.loop-i.auto.array) (c.requires.places i 0 c.loop-i-test.true) in
    let fits : length c.lay_block.new.out ≡ 8 * c.args.shape.big = c.lay_block.auto.out ∙ slot_room r c.block_size-size.result (8 * c.args.shape.big) array c.block_size-size.ensures.size room in
    let pad : c.seal.new.plaintext ≡ xored c.lay_block.new.out (f.pad key (i + 1) (length c.lay_block.new.out)) =
    c.seal.ensures ∙ ap (λ name. xored c.lay_block.new.out (named_pad f name (length c.lay_block.new.out))) (c.next.ensures.slot ∙ c.loop-i.invariant.pads) in
    record {
      pads = c.next.ensures.after ∙ ap name_after c.loop-i.invariant.pads;
      array =
          block_step f key s ranks c.args.ids.now i c.block_size-size.result c.args.array.now array c.lay_block.new.out c.seal.new.plaintext
          c.loop-i-test.true c.block_size-size.ensures.size c.block_size-size.ensures.limits.block_some room c.loop-i.invariant.array c.lay_block.ensures fits pad;
    }

pub returns : goal.returns
returns g c =
    let f = keyed_fn g.K.Keyed.prf g.K.Keyed.pad in
    let s : Shape = c.args.shape in
    let ranks = c.args.ranks.now in
    let texts = block_texts f c.args.pads.now.key s ranks c.args.ids.now in
    c.loop-i.invariant.array ∙ placed_all (8 * c.args.shape.big) c.loop-i.i c.args.array.now ranks texts c.loop-i-test.false (length-map-range_with_len _ 0 (length ranks))
