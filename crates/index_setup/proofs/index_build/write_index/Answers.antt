use Rattle.std.proofs.Common.{◌≡◌, ◌+◌, ◌*◌, ℕ, List, length, map, sym, ap, ◌∙◌, arith}
use Rattle.keyed_fn.specs.KeyedFn.{KeyedFn, keyed_fn}
use Rattle.list_packing.specs.Parts.{parts}
use Rattle.client_registry.proofs.SizedLaws.{accepted_entries, accepted_shape}
use Rattle.client_registry.specs.Acceptance.{padded_blocks, padded_words}
use Rattle.client_registry.specs.Setup.{Setup}
use Rattle.sse_frames.specs.Frames.{entry_bytes}
use Rattle.sse_model.proofs.BlocksWithin.{blocks_within}
use Rattle.index_setup.specs.Entries.{index_labels, setup_entries, setup_ranks}
use Rattle.index_setup.specs.Placed.{placed}
use Rattle.index_setup.specs.SizeOf.{setup_sized}
use Rattle.index_setup.proofs.AcceptedLaws.{few_entries}
use Rattle.index_setup.proofs.EntryPlaces.{labels_counted}
use Rattle.index_setup.proofs.ListWrites.{length-setup_ranks}
use Rattle.index_setup.proofs.RankWrites.{positions_within}
use Rattle.index_setup.proofs.SortedIndex.{array-placed, dictionary-placed}
use Rattle.index_setup.proofs.WrittenBack.{written_back}
use Rattle.index_setup.proofs.index_build.write_index.Goals as goal

pub ranks-requires-clause-most : goal.ranks-requires-clause-most
ranks-requires-clause-most g c =
    let f = keyed_fn g.K.Keyed.prf g.K.Keyed.pad in
    let s = setup_sized c.args.docs.now.documents c.args.size.now in
    omega (arith, labels_counted f c.args.master.now s c.args.labels.now c.requires.labels, few_entries s c.requires.size.accepted)

pub ranks-requires-clause-positions : goal.ranks-requires-clause-positions
ranks-requires-clause-positions g c =
    let f = keyed_fn g.K.Keyed.prf g.K.Keyed.pad in
    positions_within (index_labels f c.args.master.now (setup_sized c.args.docs.now.documents c.args.size.now)) c.args.labels.now c.requires.labels

-- a place for each block
ranks_counted : (f : KeyedFn) (key : List ℕ) (s : Setup) (ranks : List ℕ) → ranks ≡ setup_ranks f key s → length ranks ≡ padded_blocks s
ranks_counted f key s ranks are = ap length are ∙ length-setup_ranks f key s

pub write_texts-requires-clause-entries_size : goal.write_texts-requires-clause-entries_size
write_texts-requires-clause-entries_size g c =
    let f = keyed_fn g.K.Keyed.prf g.K.Keyed.pad in
    let s = setup_sized c.args.docs.now.documents c.args.size.now in
    ap length c.deref_mut.ensures.value
    ∙ sym c.in_ok-entries.entries.ok.0
    ∙ c.in_ok-entries.ensures.len
    ∙ c.dictionary_size.ensures
    ∙ ap (λ n. n * (17 + 8 * c.args.size.now.shape.b)) (c.requires.size.padded_words ∙ sym (labels_counted f c.args.master.now s c.args.labels.now c.requires.labels))

pub write_texts-requires-clause-array_size : goal.write_texts-requires-clause-array_size
write_texts-requires-clause-array_size g c =
    let f = keyed_fn g.K.Keyed.prf g.K.Keyed.pad in
    let s = setup_sized c.args.docs.now.documents c.args.size.now in
    ap length c.deref_mut-2.ensures.value
    ∙ sym c.in_ok-array.array.ok.0
    ∙ c.in_ok-array.ensures.len
    ∙ c.array_size.ensures
    ∙ ap (λ n. n * (8 * c.args.size.now.shape.big)) (c.requires.size.padded_blocks ∙ sym (ranks_counted f c.args.master.now s c.args.block_ranks.now c.requires.block_ranks))

pub new-requires-clause-most : goal.new-requires-clause-most
new-requires-clause-most g c =
    let s = setup_sized c.args.docs.now.documents c.args.size.now in
    omega (arith, c.requires.size.padded_words, accepted_entries s c.requires.size.accepted c.in_ok-ids.ensures.valid)

pub new-requires-clause-few_blocks : goal.new-requires-clause-few_blocks
new-requires-clause-few_blocks g c =
    let s = setup_sized c.args.docs.now.documents c.args.size.now in
    omega (arith, c.requires.size.padded_blocks, blocks_within s c.in_ok-ids.ensures.valid c.requires.size.accepted)

pub returns-clause-entries : goal.returns-clause-entries
returns-clause-entries g c =
    let f = keyed_fn g.K.Keyed.prf g.K.Keyed.pad in
    let s = setup_sized c.args.docs.now.documents c.args.size.now in
    let entries = c.in_ok-entries.entries in
    let new = c.write_texts.new.entries in
    let same : length new ≡ length entries.items = c.write_texts.auto.entries ∙ ap length c.deref_mut.ensures.value in
    let size : length entries.items ≡ padded_words s * (17 + 8 * c.args.size.now.shape.b) =
    sym entries.ok.0 ∙ c.in_ok-entries.ensures.len ∙ c.dictionary_size.ensures ∙ ap (λ n. n * (17 + 8 * c.args.size.now.shape.b)) c.requires.size.padded_words in
    c.new.ensures.entries
    ∙ written_back new entries.items entries.len entries.ok.0 same
    ∙ dictionary-placed f c.args.master.now s c.deref_mut.result.now new c.in_ok-entry_ranks.entry_ranks.items
    (ap length c.deref_mut.ensures.value ∙ size) (c.in_ok-entry_ranks.ensures (index_labels f c.args.master.now s) c.requires.labels)
    (c.write_texts.ensures.entries ∙ ap (λ rs. placed (parts (17 + 8 * c.args.size.now.shape.b) c.deref_mut.result.now) rs (map entry_bytes (setup_entries f c.args.master.now s))) c.deref.ensures.value)

pub returns-clause-array : goal.returns-clause-array
returns-clause-array g c =
    let f = keyed_fn g.K.Keyed.prf g.K.Keyed.pad in
    let s = setup_sized c.args.docs.now.documents c.args.size.now in
    let array = c.in_ok-array.array in
    let new = c.write_texts.new.array in
    let same : length new ≡ length array.items = c.write_texts.auto.array ∙ ap length c.deref_mut-2.ensures.value in
    let size : length array.items ≡ padded_blocks s * (8 * c.args.size.now.shape.big) =
    sym array.ok.0 ∙ c.in_ok-array.ensures.len ∙ c.array_size.ensures ∙ ap (λ n. n * (8 * c.args.size.now.shape.big)) c.requires.size.padded_blocks in
    c.new.ensures.array
    ∙ written_back new array.items array.len array.ok.0 same
    ∙ array-placed f c.args.master.now s c.deref_mut-2.result.now new c.args.block_ranks.now (accepted_shape s c.requires.size.accepted).1.0
    (ap length c.deref_mut-2.ensures.value ∙ size) c.requires.block_ranks c.write_texts.ensures.array
