use Rattle.std.proofs.Common.{◌≡◌, ◌≤◌, ◌+◌, ◌*◌, [], length, replicate, get_or, sym, ap, subst, ◌∙◌, arith, zero-add}
use Rattle.std.proofs.lemmas.List.FromFn.{get_or-map-range_with_len, length-map-range_with_len}
use Rattle.keyed_fn.specs.DummyFormulas.{dummy_block_pad}
use Rattle.keyed_fn.specs.KeyFormulas.{plain_key}
use Rattle.keyed_fn.specs.KeyedFn.{keyed_fn}
use Rattle.keyed_fn.specs.Xored.{xored}
use Rattle.sse_model.specs.Names.{block_size}
use Rattle.word_keys.specs.PadName.{named_pad}
use Rattle.index_setup.specs.Placed.{dummy_block_texts}
use Rattle.index_setup.proofs.PlacedLaws.{placed_all, placed_step, slot_room}
use Rattle.index_setup.proofs.dummies.write_dummy_blocks.Goals as goal

pub loop-j-preserved : goal.loop-j-preserved
loop-j-preserved g c =
    let f = keyed_fn g.K.Keyed.prf g.K.Keyed.pad in
    let key = plain_key f c.args.master.now 9 in
    let shape = c.args.shape in
    let size = block_size shape in
    let places = c.args.places.now in
    let j = c.loop-j.j in
    let r = get_or places j 0 in
    let room : (r + 1) * size ≤ length c.loop-j.array = subst (λ n. (r + 1) * size ≤ n) (sym c.loop-j.auto.array) (c.requires.places j 0 c.loop-j-test.true) in
    let fits : length c.seal_zeros.new.out ≡ size = c.seal_zeros.auto.out ∙ slot_room r c.block_size-size.result size c.loop-j.array c.block_size-size.ensures.size room in
    let own : c.seal_zeros.new.out ≡ get_or (dummy_block_texts f key shape (length places)) j [] =
    c.seal_zeros.ensures
    ∙ ap (λ n. xored (replicate n 0) (named_pad f c.block_slot.result n)) (sym c.seal_zeros.auto.out ∙ fits)
    ∙ ap (λ name. xored (replicate size 0) (named_pad f name size)) c.block_slot.ensures
    ∙ ap (λ keys. xored (replicate size 0) (dummy_block_pad f keys.pad_key j size)) c.dummy_key-key.ensures
    ∙ sym (get_or-map-range_with_len (λ k. xored (replicate size 0) (dummy_block_pad f key k size)) 0 (length places) j j [] c.loop-j-test.true (zero-add j)) in
    placed_step size c.block_size-size.result j c.args.array.now c.loop-j.array c.seal_zeros.new.out places (dummy_block_texts f key shape (length places))
    c.block_size-size.ensures.size (omega (arith, c.block_size-size.ensures.limits.block_some)) room c.loop-j-test.true (length-map-range_with_len _ 0 (length places)) fits own c.loop-j.invariant

pub returns : goal.returns
returns g c =
    let f = keyed_fn g.K.Keyed.prf g.K.Keyed.pad in
    let places = c.args.places.now in
    let texts = dummy_block_texts f (plain_key f c.args.master.now 9) c.args.shape (length places) in
    c.loop-j.invariant ∙ placed_all (8 * c.args.shape.big) c.loop-j.j c.args.array.now places texts c.loop-j-test.false (length-map-range_with_len _ 0 (length places))
