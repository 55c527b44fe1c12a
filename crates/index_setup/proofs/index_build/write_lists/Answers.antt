use borrow.Rule.Slice.PartMut.{put_mid}
use Rattle.std.proofs.Common.{set, ◌≡◌, ◌+◌, ◌-◌, ◌*◌, ◌<◌, ◌≤◌, ℕ, List, [], length, take, drop, get_or, refl, sym, ap, subst, ◌∙◌, arith}
use Rattle.std.specs.Prelude.{IsSome}
use Rattle.std.proofs.lemmas.Option.{get_or_from_slice_get}
use Rattle.keyed_fn.specs.KeyedFn.{keyed_fn}
use Rattle.list_packing.specs.Parts.{parts}
use Rattle.two_level.specs.Plan.{plan, block_count}
use Rattle.client_registry.specs.Acceptance.{padded_words}
use Rattle.client_registry.specs.Documents.{words_of}
use Rattle.client_registry.specs.Setup.{Setup, setup_words}
use Rattle.client_registry.specs.WordBytes.{word_bytes}
use Rattle.sse_model.proofs.BlocksWithin.{blocks_within}
use Rattle.index_setup.specs.Entries.{array_texts, setup_ranks}
use Rattle.index_setup.specs.Placed.{placed}
use Rattle.index_setup.specs.SizeOf.{setup_sized}
use Rattle.client_tag_order.proofs.FoundClash.{at}
use Rattle.index_setup.proofs.AcceptedLaws.{list_at, planned_at}
use Rattle.index_setup.proofs.EntryPlaces.{labelled, places_counted, word_label}
use Rattle.index_setup.proofs.ListWrites.{all_written, ids_enough, ranks_enough, rank_within, ranks_few, Remains-first, Remains-more}
use Rattle.index_setup.proofs.PlacedLaws.{parts-put_mid, slot_room, slot_within}
use Rattle.index_setup.proofs.index_build.write_lists.Goals as goal

pub loop-w-init : goal.loop-w-init
loop-w-init g c =
    let f = keyed_fn g.K.Keyed.prf g.K.Keyed.pad in
    let s = setup_sized c.args.docs.now.documents c.args.size.now in
    Remains-first f c.args.master.now s c.args.from.ids.now c.args.from.block_ranks.now _ _ c.args.from.entry_ranks.now c.requires.from.ids_are c.requires.from.block_ranks_are

pub split_at-requires : goal.split_at-requires
split_at-requires g c =
    let f = keyed_fn g.K.Keyed.prf g.K.Keyed.pad in
    let docs = c.args.docs.now.documents in
    let s = setup_sized docs c.args.size.now in
    let within : c.loop-w.w < length (words_of docs) = omega (arith, c.words-w-end.ensures.words, c.loop-w-test.true) in
    ids_enough f c.args.master.now s c.loop-w.w within c.loop-w.ids.now c.loop-w.ranks.now _ _ _ _ c.args.from.entry_ranks.now c.loop-w.invariant
    c.list_len-n.result (list_at docs c.loop-w.w c.list_len-n.result within c.list_len-n.ensures.length)

pub blocks_in-requires-clause-planned : goal.blocks_in-requires-clause-planned
blocks_in-requires-clause-planned g c =
    planned_at (setup_sized c.args.docs.now.documents c.args.size.now) c.loop-w.w c.list_len-n.result c.requires.size.accepted
    (omega (arith, c.words-w-end.ensures.words, c.loop-w-test.true)) c.list_len-n.ensures.length

pub split_at-requires-in-loop-w : goal.split_at-requires-in-loop-w
split_at-requires-in-loop-w g c =
    let f = keyed_fn g.K.Keyed.prf g.K.Keyed.pad in
    let docs = c.args.docs.now.documents in
    let s = setup_sized docs c.args.size.now in
    let within : c.loop-w.w < length (words_of docs) = omega (arith, c.words-w-end.ensures.words, c.loop-w-test.true) in
    ranks_enough f c.args.master.now s c.loop-w.w within c.loop-w.ids.now c.loop-w.ranks.now _ _ _ _ c.args.from.entry_ranks.now c.loop-w.invariant
    c.blocks_in.result (c.blocks_in.ensures ∙ ap (λ n. block_count (plan s.shape n)) (list_at docs c.loop-w.w c.list_len-n.result within c.list_len-n.ensures.length))

-- a word has a place among all entries
word_within : (s : Setup) (w count : ℕ) → count ≡ length (setup_words s) → w < count → w < padded_words s
word_within s w count is less = omega (arith, is, less)

pub bounds-from-w : goal.bounds-from-w
bounds-from-w g c =
    let f = keyed_fn g.K.Keyed.prf g.K.Keyed.pad in
    let s = setup_sized c.args.docs.now.documents c.args.size.now in
    omega (arith, places_counted f c.args.master.now s c.args.from.entry_ranks.now c.requires.from.entry_ranks_are, word_within s c.loop-w.w c.words-w-end.result c.words-w-end.ensures.words c.loop-w-test.true)

-- an entry written over its slot
entry_put : (r size z y : ℕ) (bytes new : List ℕ) → z ≡ size → y ≡ size → (r + 1) * size ≤ length bytes → length new ≡ length (take (r * z + y - r * z) (drop (r * z) bytes))
    → 0 < size → parts size (put_mid (r * z) (r * z + y - r * z) bytes new) ≡ set (parts size bytes) r new
entry_put r size z y bytes new z_is y_is room same some =
    let y_z : y ≡ z = y_is ∙ sym z_is in
    let long : length new ≡ size = same ∙ ap (λ n. length (take (r * z + n - r * z) (drop (r * z) bytes))) y_z ∙ slot_room r z size bytes z_is room in
    ap (λ n. parts size (put_mid (r * z) (r * z + n - r * z) bytes new)) y_is
    ∙ ap (λ n. parts size (put_mid (r * n) (r * n + size - r * n) bytes new)) z_is
    ∙ parts-put_mid size r bytes new some room long

pub slice_bounds-entry-end : goal.slice_bounds-entry-end
slice_bounds-entry-end g c =
    let f = keyed_fn g.K.Keyed.prf g.K.Keyed.pad in
    let docs = c.args.docs.now.documents in
    let s = setup_sized docs c.args.size.now in
    let size = 17 + 8 * c.args.size.now.shape.b in
    let within : c.loop-w.w < length (words_of docs) = omega (arith, c.words-w-end.ensures.words, c.loop-w-test.true) in
    let place = labelled f c.args.master.now s c.args.from.entry_ranks.now c.requires.from.entry_ranks_are c.args.from.labels.now c.loop-w.w c.requires.from.labels_are (word_within s c.loop-w.w c.words-w-end.result c.words-w-end.ensures.words c.loop-w-test.true) in
    let r : ℕ = get_or c.args.from.entry_ranks.now c.loop-w.w 0 in
    let room : (r + 1) * size ≤ length c.loop-w.entries = slot_within r (length c.args.from.labels.now) size (length c.loop-w.entries) place.0 (c.loop-w.auto.entries ∙ c.requires.entries_size) in
    let one : r * c.entry_size.result ≡ r * size = ap (λ n. r * n) c.entry_size.ensures.size in
    omega (arith, room, one, c.entry_size-in-loop-w.ensures.size)

pub bounds-from-place : goal.bounds-from-place
bounds-from-place g c =
    let f = keyed_fn g.K.Keyed.prf g.K.Keyed.pad in
    let docs = c.args.docs.now.documents in
    let s = setup_sized docs c.args.size.now in
    (labelled f c.args.master.now s c.args.from.entry_ranks.now c.requires.from.entry_ranks_are c.args.from.labels.now c.loop-w.w c.requires.from.labels_are (word_within s c.loop-w.w c.words-w-end.result c.words-w-end.ensures.words c.loop-w-test.true)).0

pub write_entry-requires-clause-planned : goal.write_entry-requires-clause-planned
write_entry-requires-clause-planned g c =
    subst (λ n. IsSome (plan c.args.size.now.shape n)) (sym c.split_at.ensures.front_len)
    (planned_at (setup_sized c.args.docs.now.documents c.args.size.now) c.loop-w.w c.list_len-n.result c.requires.size.accepted
    (omega (arith, c.words-w-end.ensures.words, c.loop-w-test.true)) c.list_len-n.ensures.length)

pub write_blocks-requires-clause-most : goal.write_blocks-requires-clause-most
write_blocks-requires-clause-most g c =
    let f = keyed_fn g.K.Keyed.prf g.K.Keyed.pad in
    let docs = c.args.docs.now.documents in
    let s = setup_sized docs c.args.size.now in
    let within : c.loop-w.w < length (words_of docs) = omega (arith, c.words-w-end.ensures.words, c.loop-w-test.true) in
    omega (
      arith,
      c.split_at-in-loop-w.ensures.front_len,
      ranks_few f c.args.master.now s c.loop-w.w within c.loop-w.ids.now c.loop-w.ranks.now _ _ _ _ c.args.from.entry_ranks.now c.loop-w.invariant
          c.blocks_in.result (c.blocks_in.ensures ∙ ap (λ n. block_count (plan s.shape n)) (list_at docs c.loop-w.w c.list_len-n.result within c.list_len-n.ensures.length)),
      blocks_within s c.words-w-end.ensures.valid c.requires.size.accepted,
    )

pub write_blocks-requires-clause-places : goal.write_blocks-requires-clause-places
write_blocks-requires-clause-places g c = λ k d inside.
    let f = keyed_fn g.K.Keyed.prf g.K.Keyed.pad in
    let docs = c.args.docs.now.documents in
    let s = setup_sized docs c.args.size.now in
    let within : c.loop-w.w < length (words_of docs) = omega (arith, c.words-w-end.ensures.words, c.loop-w-test.true) in
    let places = c.split_at-in-loop-w.result.0.now in
    let low : get_or places k d < length (setup_ranks f c.args.master.now s) =
    rank_within f c.args.master.now s c.loop-w.w within c.loop-w.ids.now c.loop-w.ranks.now _ _ _ _ c.args.from.entry_ranks.now c.loop-w.invariant
    c.blocks_in.result places c.split_at-in-loop-w.ensures.front k d inside in
    slot_within (get_or places k d) (length (setup_ranks f c.args.master.now s)) (8 * c.args.size.now.shape.big) (length c.loop-w.array) low
    (c.loop-w.auto.array ∙ c.requires.array_size ∙ ap (λ rs. length rs * (8 * c.args.size.now.shape.big)) c.requires.from.block_ranks_are)

pub loop-w-preserved : goal.loop-w-preserved
loop-w-preserved g c =
    let f = keyed_fn g.K.Keyed.prf g.K.Keyed.pad in
    let docs = c.args.docs.now.documents in
    let s = setup_sized docs c.args.size.now in
    let w = c.loop-w.w in
    let size = 17 + 8 * c.args.size.now.shape.b in
    let within : w < length (words_of docs) = omega (arith, c.words-w-end.ensures.words, c.loop-w-test.true) in
    let word : List ℕ = word_bytes c.word.result.now in
    let word_is : word ≡ get_or (words_of docs) w [] = sym (get_or_from_slice_get (words_of docs) w word [] c.word.ensures) in
    let n_is = list_at docs w c.list_len-n.result within c.list_len-n.ensures.length in
    let count_is = c.blocks_in.ensures ∙ ap (λ n. block_count (plan s.shape n)) n_is in
    let place = labelled f c.args.master.now s c.args.from.entry_ranks.now c.requires.from.entry_ranks_are c.args.from.labels.now w c.requires.from.labels_are (word_within s w c.words-w-end.result c.words-w-end.ensures.words c.loop-w-test.true) in
    let r : ℕ = get_or c.args.from.entry_ranks.now w 0 in
    let room : (r + 1) * size ≤ length c.loop-w.entries = slot_within r (length c.args.from.labels.now) size (length c.loop-w.entries) place.0 (c.loop-w.auto.entries ∙ c.requires.entries_size) in
    let written : parts size (put_mid (r * c.entry_size.result) (r * c.entry_size.result + c.entry_size-in-loop-w.result - r * c.entry_size.result) c.loop-w.entries c.write_entry.new.out)
    ≡ set (parts size c.loop-w.entries) r c.write_entry.new.out =
    entry_put r size c.entry_size.result c.entry_size-in-loop-w.result c.loop-w.entries c.write_entry.new.out c.entry_size.ensures.size c.entry_size-in-loop-w.ensures.size room c.write_entry.auto.out (omega arith) in
    Remains-more f c.args.master.now s w within c.loop-w.ids.now c.loop-w.ranks.now _ _ _ _ c.args.from.entry_ranks.now c.loop-w.invariant
    c.list_len-n.result c.blocks_in.result n_is count_is
    word c.split_at.result.0.now c.split_at-in-loop-w.result.0.now word_is c.split_at.ensures.front c.split_at-in-loop-w.ensures.front
    c.list_pads-pads.result c.next.result c.next.new.self c.list_pads-pads.ensures c.next.ensures.slot c.next.ensures.after
    r (at c.args.from.labels.now r).tag c.write_entry.new.out c.split_at.result.1.now c.split_at-in-loop-w.result.1.now _ _ c.split_at.ensures.back c.split_at-in-loop-w.ensures.back (omega (arith, places_counted f c.args.master.now s c.args.from.entry_ranks.now c.requires.from.entry_ranks_are, within)) refl
    (place.1 ∙ word_label f c.args.master.now s w within) c.write_entry.ensures written c.write_blocks.ensures

pub returns-clause-entries : goal.returns-clause-entries
returns-clause-entries g c =
    let f = keyed_fn g.K.Keyed.prf g.K.Keyed.pad in
    let docs = c.args.docs.now.documents in
    let s = setup_sized docs c.args.size.now in
    (all_written f c.args.master.now s c.loop-w.w c.loop-w.ids.now c.loop-w.ranks.now _ _ _ _ c.args.from.entry_ranks.now
    (omega (arith, c.words-w-end.ensures.words, c.loop-w-test.false)) c.loop-w.invariant).0

pub returns-clause-array : goal.returns-clause-array
returns-clause-array g c =
    let f = keyed_fn g.K.Keyed.prf g.K.Keyed.pad in
    let docs = c.args.docs.now.documents in
    let s = setup_sized docs c.args.size.now in
    (all_written f c.args.master.now s c.loop-w.w c.loop-w.ids.now c.loop-w.ranks.now _ _ _ _ c.args.from.entry_ranks.now
    (omega (arith, c.words-w-end.ensures.words, c.loop-w-test.false)) c.loop-w.invariant).1
    ∙ ap (λ rs. placed (parts (8 * c.args.size.now.shape.big) c.args.array.now) rs (array_texts f c.args.master.now s 0 (words_of docs))) (sym c.requires.from.block_ranks_are)
