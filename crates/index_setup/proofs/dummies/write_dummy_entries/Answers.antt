use Rattle.std.proofs.Common.{◌≡◌, ◌≤◌, ◌<◌, ◌-◌, ◌+◌, ◌*◌, ◌++◌, ℕ, [], length, map, replicate, get_or, sym, ap, ◌∙◌, arith, zero-add}
use Rattle.std.proofs.lemmas.List.{get_or-map}
use Rattle.std.proofs.lemmas.List.FromFn.{get_or-map-range_with_len, length-map-range_with_len}
use Rattle.keyed_fn.specs.DummyFormulas.{dummy_cell_pad}
use Rattle.keyed_fn.specs.KeyFormulas.{plain_key}
use Rattle.keyed_fn.specs.KeyedFn.{keyed_fn}
use Rattle.keyed_fn.specs.Xored.{xored}
use Rattle.sse_model.specs.Names.{cell_size}
use Rattle.client_tag_order.proofs.FoundClash.{nothing}
use Rattle.word_keys.specs.PadName.{named_pad}
use Rattle.index_setup.specs.Placed.{dummy_entry_texts}
use Rattle.index_setup.proofs.PlacedLaws.{placed_all, placed_step, slot_room, slot_within}
use Rattle.index_setup.proofs.dummies.write_dummy_entries.Goals as goal

pub loop-i-preserved : goal.loop-i-preserved
loop-i-preserved g c =
    let f = keyed_fn g.K.Keyed.prf g.K.Keyed.pad in
    let key = plain_key f c.args.master.now 9 in
    let shape = c.args.shape in
    let size = 17 + 8 * c.args.shape.b in
    let cell = cell_size shape in
    let labels = map (λ e. e.tag) c.args.labels.now in
    let places = c.args.places.now in
    let i = c.loop-i.i in
    let r = get_or places i 0 in
    let low : r < length c.args.labels.now = c.requires.places i 0 c.loop-i-test.true in
    let room : (r + 1) * size ≤ length c.loop-i.entries = slot_within r (length c.args.labels.now) size (length c.loop-i.entries) low (c.loop-i.auto.entries ∙ c.requires.size) in
    let fits : length c.write_dummy_entry.new.out ≡ size = c.write_dummy_entry.auto.out ∙ slot_room r c.entry_size-size.result size c.loop-i.entries c.entry_size-size.ensures.size room in
    let behind : length c.write_dummy_entry.new.out - 16 ≡ cell = omega (arith, fits) in
    let text = λ (j : ℕ). get_or labels (get_or places j 0) [] ++ xored (replicate cell 0) (dummy_cell_pad f key j cell) in
    let own : c.write_dummy_entry.new.out ≡ get_or (dummy_entry_texts f key shape labels places) i [] =
    c.write_dummy_entry.ensures
    ∙ ap (λ n. (get_or c.args.labels.now r nothing).tag ++ xored (replicate n 0) (named_pad f c.cell_slot.result n)) (ap (λ n. n - 16) (sym c.write_dummy_entry.auto.out) ∙ behind)
    ∙ ap (λ name. (get_or c.args.labels.now r nothing).tag ++ xored (replicate cell 0) (named_pad f name cell)) c.cell_slot.ensures
    ∙ ap (λ keys. (get_or c.args.labels.now r nothing).tag ++ xored (replicate cell 0) (dummy_cell_pad f keys.pad_key i cell)) c.dummy_key-key.ensures
    ∙ ap (λ label. label ++ xored (replicate cell 0) (dummy_cell_pad f key i cell)) (sym (get_or-map (λ e. e.tag) c.args.labels.now r nothing [] low))
    ∙ sym (get_or-map-range_with_len text 0 (length places) i i [] c.loop-i-test.true (zero-add i)) in
    placed_step size c.entry_size-size.result i c.args.entries.now c.loop-i.entries c.write_dummy_entry.new.out places (dummy_entry_texts f key shape labels places)
    c.entry_size-size.ensures.size (omega arith) room c.loop-i-test.true (length-map-range_with_len _ 0 (length places)) fits own c.loop-i.invariant

pub returns : goal.returns
returns g c =
    let f = keyed_fn g.K.Keyed.prf g.K.Keyed.pad in
    let places = c.args.places.now in
    let texts = dummy_entry_texts f (plain_key f c.args.master.now 9) c.args.shape (map (λ e. e.tag) c.args.labels.now) places in
    c.loop-i.invariant ∙ placed_all (17 + 8 * c.args.shape.b) c.loop-i.i c.args.entries.now places texts c.loop-i-test.false (length-map-range_with_len _ 0 (length places))
