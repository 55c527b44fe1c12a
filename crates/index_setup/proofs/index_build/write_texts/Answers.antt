use Rattle.std.proofs.Common.{◌≡◌, ◌<◌, ◌+◌, ◌*◌, ℕ, length, drop, map, get_or, sym, ap, subst, ◌∙◌, arith, length-drop}
use Rattle.keyed_fn.specs.KeyFormulas.{plain_key}
use Rattle.keyed_fn.specs.KeyedFn.{keyed_fn}
use Rattle.list_packing.specs.Parts.{parts}
use Rattle.client_registry.proofs.SizedLaws.{accepted_padded}
use Rattle.client_registry.specs.Acceptance.{blocks_of}
use Rattle.client_registry.specs.Documents.{words_of}
use Rattle.index_setup.specs.Entries.{entry_texts}
use Rattle.index_setup.specs.Placed.{dummy_block_texts, dummy_entry_texts, placed}
use Rattle.index_setup.specs.SizeOf.{setup_sized}
use Rattle.index_setup.proofs.AcceptedLaws.{few_entries}
use Rattle.index_setup.proofs.DummyWrites.{blocks_placed, block_places, dummy_places, entries_placed}
use Rattle.index_setup.proofs.EntryPlaces.{places_counted}
use Rattle.index_setup.proofs.ListWrites.{length-setup_ranks}
use Rattle.index_setup.proofs.PlacedLaws.{slot_within}
use Rattle.index_setup.proofs.index_build.write_texts.Goals as goal

pub split_at-requires : goal.split_at-requires
split_at-requires g c =
    let f = keyed_fn g.K.Keyed.prf g.K.Keyed.pad in
    let s = setup_sized c.args.docs.now.documents c.args.size.now in
    omega (arith, c.requires.size.own_words, places_counted f c.args.master.now s c.args.from.entry_ranks.now c.requires.from.entry_ranks_are)

pub split_at-requires-2 : goal.split_at-requires-2
split_at-requires-2 g c =
    let f = keyed_fn g.K.Keyed.prf g.K.Keyed.pad in
    let s = setup_sized c.args.docs.now.documents c.args.size.now in
    omega (arith, c.requires.size.own_blocks, ap length c.requires.from.block_ranks_are, length-setup_ranks f c.args.master.now s)

pub write_dummy_entries-requires-clause-count : goal.write_dummy_entries-requires-clause-count
write_dummy_entries-requires-clause-count g c =
    let f = keyed_fn g.K.Keyed.prf g.K.Keyed.pad in
    let s = setup_sized c.args.docs.now.documents c.args.size.now in
    let ranks = c.args.from.entry_ranks.now in
    omega (
      arith,
      ap length c.split_at.ensures.back,
      length-drop c.args.size.now.words ranks,
      places_counted f c.args.master.now s ranks c.requires.from.entry_ranks_are,
      few_entries s c.requires.size.accepted,
    )

pub write_dummy_entries-requires-clause-places : goal.write_dummy_entries-requires-clause-places
write_dummy_entries-requires-clause-places g c =
    let f = keyed_fn g.K.Keyed.prf g.K.Keyed.pad in
    let s = setup_sized c.args.docs.now.documents c.args.size.now in
    let ranks = c.args.from.entry_ranks.now in
    let sorted = c.args.from.labels.now in
    let there : c.split_at.result.1.now ≡ drop (length (words_of s.documents)) ranks = c.split_at.ensures.back ∙ ap (λ n. drop n ranks) c.requires.size.own_words in
    subst (λ places. (k d : ℕ) → k < length places → get_or places k d < length sorted) (sym there)
    (dummy_places f c.args.master.now s ranks c.requires.from.entry_ranks_are sorted c.requires.from.labels_are)

pub write_dummy_blocks-requires-clause-count : goal.write_dummy_blocks-requires-clause-count
write_dummy_blocks-requires-clause-count g c =
    let f = keyed_fn g.K.Keyed.prf g.K.Keyed.pad in
    let s = setup_sized c.args.docs.now.documents c.args.size.now in
    let ranks = c.args.from.block_ranks.now in
    omega (
      arith,
      ap length c.split_at-2.ensures.back,
      length-drop c.args.size.now.blocks ranks,
      ap length c.requires.from.block_ranks_are,
      length-setup_ranks f c.args.master.now s,
      accepted_padded s c.requires.size.accepted,
    )

pub write_dummy_blocks-requires-clause-places : goal.write_dummy_blocks-requires-clause-places
write_dummy_blocks-requires-clause-places g c = λ k d within.
    let f = keyed_fn g.K.Keyed.prf g.K.Keyed.pad in
    let s = setup_sized c.args.docs.now.documents c.args.size.now in
    let ranks = c.args.from.block_ranks.now in
    let places = c.split_at-2.result.1.now in
    let there : places ≡ drop (blocks_of s) ranks = c.split_at-2.ensures.back ∙ ap (λ n. drop n ranks) c.requires.size.own_blocks in
    let low = subst (λ ps. (i e : ℕ) → i < length ps → get_or ps i e < length ranks) (sym there) (block_places f c.args.master.now s ranks c.requires.from.block_ranks_are) in
    slot_within (get_or places k d) (length ranks) (8 * c.args.size.now.shape.big) (length c.write_lists.new.array) (low k d within) (c.write_lists.auto.array ∙ c.requires.array_size)

pub returns-clause-entries : goal.returns-clause-entries
returns-clause-entries g c =
    let f = keyed_fn g.K.Keyed.prf g.K.Keyed.pad in
    let key = plain_key f c.args.master.now 9 in
    let s = setup_sized c.args.docs.now.documents c.args.size.now in
    let slots = parts (17 + 8 * c.args.size.now.shape.b) c.args.entries.now in
    let ranks = c.args.from.entry_ranks.now in
    let sorted = c.args.from.labels.now in
    let labels = map (λ e. e.tag) sorted in
    let places = c.split_at.result.1.now in
    let own = entry_texts f c.args.master.now s 0 (words_of s.documents) in
    let there : places ≡ drop (length (words_of s.documents)) ranks = c.split_at.ensures.back ∙ ap (λ n. drop n ranks) c.requires.size.own_words in
    c.write_dummy_entries.ensures
    ∙ ap (λ before. placed before places (dummy_entry_texts f key s.shape labels places)) c.write_lists.ensures.entries
    ∙ ap (λ ps. placed (placed slots ranks own) ps (dummy_entry_texts f key s.shape labels ps)) there
    ∙ entries_placed f c.args.master.now s ranks c.requires.from.entry_ranks_are sorted c.requires.from.labels_are slots

pub returns-clause-array : goal.returns-clause-array
returns-clause-array g c =
    let f = keyed_fn g.K.Keyed.prf g.K.Keyed.pad in
    let key = plain_key f c.args.master.now 9 in
    let s = setup_sized c.args.docs.now.documents c.args.size.now in
    let slots = parts (8 * c.args.size.now.shape.big) c.args.array.now in
    let ranks = c.args.from.block_ranks.now in
    let places = c.split_at-2.result.1.now in
    let there : places ≡ drop (blocks_of s) ranks = c.split_at-2.ensures.back ∙ ap (λ n. drop n ranks) c.requires.size.own_blocks in
    c.write_dummy_blocks.ensures
    ∙ ap (λ before. placed before places (dummy_block_texts f key s.shape (length places))) c.write_lists.ensures.array
    ∙ blocks_placed f c.args.master.now s slots ranks places c.requires.from.block_ranks_are there
