use Rattle.std.proofs.Common.{◌≡◌, ◌<◌, ◌-◌, ◌++◌, ℕ, List, [], length, get_or, map, vec_len, sym, ap, ◌∙◌, arith}
use Rattle.std.specs.Prelude.{Some, slice_get}
use Rattle.std.specs.List.{range_with_len}
use Rattle.std.proofs.lemmas.List.{take_all}
use Rattle.std.proofs.lemmas.List.FromFn.{length-map-range_with_len}
use Rattle.std.proofs.lemmas.Option.{get_or_from_slice_get}
use Rattle.client_registry.proofs.SizedLaws.{accepted_padded}
use Rattle.client_registry.specs.Document.{Document}
use Rattle.client_registry.specs.Documents.{ids_with, list_lengths, words_of}
use Rattle.client_registry.specs.WordBytes.{word_bytes}
use Rattle.keyed_fn.specs.DummyFormulas.{dummy_tag}
use Rattle.keyed_fn.specs.KeyedFn.{keyed_fn}
use Rattle.keyed_fn.specs.KeyFormulas.{part_key, place_tag, plain_key}
use Rattle.two_level.specs.Plan.{plan, block_count}
use Rattle.two_level.specs.Shape.{Shape}
use Rattle.index_setup.specs.Entries.{block_tags}
use Rattle.index_setup.specs.SizeOf.{setup_sized}
use Rattle.client_tag_order.specs.Tagged.{tagged_from}
use Rattle.client_tag_order.proofs.InOrder.{length-tagged_from}
use Rattle.index_setup.proofs.AcceptedLaws.{dummy_blocks-counted, list_at, planned_at}
use Rattle.index_setup.proofs.KeyTags.{index_tags-are, own_tags}
use Rattle.index_setup.proofs.TagLists.{tagged-append, tagged-flat_map_more, tagged-flat_map_room}
use Rattle.index_setup.proofs.labels.tags_of.Goals as goal

pub blocks_in-count-requires : goal.blocks_in-count-requires
blocks_in-count-requires g c =
    let docs = c.args.docs.now.documents in
    let within : c.loop-w.w < length (words_of docs) = omega (arith, c.words-w-end.ensures.words) in
    record {
      some = c.list_len.ensures.some;
      planned = planned_at (setup_sized docs c.args.size.now) c.loop-w.w c.list_len.result c.requires.accepted within c.list_len.ensures.length;
    }

-- the blocks of the word at w, as the definition counts them
counted : (s : Shape) (docs : List Document) (w n count : ℕ) → w < length (words_of docs) → slice_get (list_lengths docs) w ≡ Some n → count ≡ block_count (plan s n)
    → count ≡ block_count (plan s (length (ids_with docs (get_or (words_of docs) w []))))
counted s docs w n count within at is = is ∙ ap (λ k. block_count (plan s k)) (list_at docs w n within at)

pub push_tags-requires : goal.push_tags-requires
push_tags-requires g c =
    let f = keyed_fn g.K.Keyed.prf g.K.Keyed.pad in
    let s : Shape = c.args.size.now.shape in
    let docs = c.args.docs.now.documents in
    let setup = setup_sized docs c.args.size.now in
    let w = c.loop-w.w in
    let within : w < length (words_of docs) = omega (arith, c.words-w-end.ensures.words) in
    let tags = λ (v : List ℕ). map (place_tag f (part_key f c.args.master.now 6 v)) (range_with_len 0 (block_count (plan s (length (ids_with docs v))))) in
    let count = counted s docs w c.list_len.result c.blocks_in-count.result within c.list_len.ensures.length c.blocks_in-count.ensures in
    let size : length (tags (get_or (words_of docs) w [])) ≡ c.blocks_in-count.result = length-map-range_with_len (place_tag f (part_key f c.args.master.now 6 (get_or (words_of docs) w []))) 0 (block_count (plan s (length (ids_with docs (get_or (words_of docs) w []))))) ∙ sym count in
    let room = tagged-flat_map_room tags (words_of docs) w c.loop-w.tags.items within c.loop-w.invariant in
    omega (arith, room, size, own_tags f c.args.master.now setup c.requires.accepted, c.loop-w.tags.ok.0)

pub loop-w-preserved : goal.loop-w-preserved
loop-w-preserved g c =
    let f = keyed_fn g.K.Keyed.prf g.K.Keyed.pad in
    let s : Shape = c.args.size.now.shape in
    let docs = c.args.docs.now.documents in
    let w = c.loop-w.w in
    let words = words_of docs in
    let within : w < length words = omega (arith, c.words-w-end.ensures.words) in
    let word = word_bytes c.word.result.now in
    let tags = λ (v : List ℕ) (n : ℕ). map (place_tag f (part_key f c.args.master.now 6 v)) (range_with_len 0 n) in
    let is : word ≡ get_or words w [] = sym (get_or_from_slice_get words w word [] c.word.ensures) in
    let count = counted s docs w c.list_len.result c.blocks_in-count.result within c.list_len.ensures.length c.blocks_in-count.ensures in
    c.in_ok-push_tags.ensures
    ∙ tagged-flat_map_more (λ v. tags v (block_count (plan s (length (ids_with docs v))))) words w c.loop-w.tags.items
    (tagged_from (vec_len c.loop-w.tags) (tags word c.blocks_in-count.result)) within c.loop-w.invariant
    (ap (λ v. tagged_from (vec_len c.loop-w.tags) (tags v c.blocks_in-count.result)) is
    ∙ ap (λ n. tagged_from (vec_len c.loop-w.tags) (tags (get_or words w []) n)) count
    ∙ ap (λ n. tagged_from n (tags (get_or words w []) (block_count (plan s (length (ids_with docs (get_or words w []))))))) c.loop-w.tags.ok.0)

pub push_dummy_tags-requires : goal.push_dummy_tags-requires
push_dummy_tags-requires g c =
    let f = keyed_fn g.K.Keyed.prf g.K.Keyed.pad in
    let docs = c.args.docs.now.documents in
    let setup = setup_sized docs c.args.size.now in
    let own = block_tags f c.args.master.now c.args.size.now.shape docs (words_of docs) in
    let are : c.loop-w.tags.items ≡ tagged_from 0 own =
    c.loop-w.invariant ∙ ap (λ vs. tagged_from 0 (block_tags f c.args.master.now c.args.size.now.shape docs vs)) (take_all c.loop-w.w (words_of docs) (omega (arith, c.words-w-end.ensures.words, c.loop-w-test.false))) in
    omega (arith, c.loop-w.tags.ok.0, ap length are, length-tagged_from 0 own, own_tags f c.args.master.now setup c.requires.accepted, c.requires.padded_blocks, accepted_padded setup c.requires.accepted)

pub returns : goal.returns
returns g c =
    let f = keyed_fn g.K.Keyed.prf g.K.Keyed.pad in
    let docs = c.args.docs.now.documents in
    let own = block_tags f c.args.master.now c.args.size.now.shape docs (words_of docs) in
    let are : c.loop-w.tags.items ≡ tagged_from 0 own =
    c.loop-w.invariant ∙ ap (λ vs. tagged_from 0 (block_tags f c.args.master.now c.args.size.now.shape docs vs)) (take_all c.loop-w.w (words_of docs) (omega (arith, c.words-w-end.ensures.words, c.loop-w-test.false))) in
    let dummies = λ (n : ℕ). map (dummy_tag f (plain_key f c.args.master.now 8)) (range_with_len 0 n) in
    tagged-append own (dummies (c.args.size.now.padded_blocks - c.args.size.now.blocks)) (vec_len c.loop-w.tags) c.loop-w.tags.items _ are c.loop-w.tags.ok.0 c.in_ok-push_dummy_tags.ensures
    ∙ ap (λ n. tagged_from 0 (own ++ dummies n)) (dummy_blocks-counted docs c.args.size.now c.requires)
    ∙ ap (tagged_from 0) (sym (index_tags-are f c.args.master.now (setup_sized docs c.args.size.now)))
