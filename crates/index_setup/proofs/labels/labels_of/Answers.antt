use Rattle.std.proofs.Common.{◌≡◌, ◌<◌, ◌-◌, ◌++◌, ℕ, length, map, get_or, vec_len, [], sym, ap, ◌∙◌, arith}
use Rattle.std.specs.List.{range_with_len}
use Rattle.std.proofs.lemmas.List.{length-map, take_all}
use Rattle.std.proofs.lemmas.Option.{get_or_from_slice_get}
use Rattle.client_registry.proofs.SizedLaws.{accepted_entries}
use Rattle.client_registry.specs.Documents.{words_of}
use Rattle.client_registry.specs.WordBytes.{word_bytes}
use Rattle.keyed_fn.specs.DummyFormulas.{dummy_label}
use Rattle.keyed_fn.specs.KeyedFn.{keyed_fn}
use Rattle.keyed_fn.specs.KeyFormulas.{list_label, part_key, plain_key}
use Rattle.index_setup.specs.Entries.{word_labels}
use Rattle.index_setup.specs.SizeOf.{setup_sized}
use Rattle.client_tag_order.specs.Tagged.{tagged_from}
use Rattle.client_tag_order.proofs.InOrder.{length-tagged_from}
use Rattle.index_setup.proofs.AcceptedLaws.{dummy_entries-counted}
use Rattle.index_setup.proofs.KeyTags.{index_labels-are}
use Rattle.index_setup.proofs.TagLists.{tagged-append, tagged-map_more}
use Rattle.index_setup.proofs.labels.labels_of.Goals as goal

pub loop-w-preserved : goal.loop-w-preserved
loop-w-preserved g c =
    let f = keyed_fn g.K.Keyed.prf g.K.Keyed.pad in
    let master = c.args.master.now in
    let words = words_of c.args.docs.now.documents in
    let w = c.loop-w.w in
    let within : w < length words = omega (arith, c.words-w-end.ensures.words) in
    let word = word_bytes c.word.result.now in
    let is : get_or words w [] ≡ word = get_or_from_slice_get words w word [] c.word.ensures in
    c.in_ok-push.ensures.items
    ∙ tagged-map_more (λ v. list_label f (part_key f master 1 v)) words w c.loop-w.labels.items c.list_label-tag.result within c.loop-w.invariant
    (c.list_label-tag.ensures ∙ ap (λ v. list_label f (part_key f master 1 v)) (sym is))

pub push_dummy_labels-requires : goal.push_dummy_labels-requires
push_dummy_labels-requires g c =
    let f = keyed_fn g.K.Keyed.prf g.K.Keyed.pad in
    let docs = c.args.docs.now.documents in
    let words = words_of docs in
    let own = word_labels f c.args.master.now words in
    let are : c.loop-w.labels.items ≡ tagged_from 0 own =
    c.loop-w.invariant ∙ ap (λ vs. tagged_from 0 (word_labels f c.args.master.now vs)) (take_all c.loop-w.w words (omega (arith, c.words-w-end.ensures.words, c.loop-w-test.false))) in
    omega (
      arith,
      c.loop-w.labels.ok.0,
      ap length are,
      length-tagged_from 0 own,
      length-map words (λ word. list_label f (part_key f c.args.master.now 1 word)),
      c.requires.own_words,
      c.requires.padded_words,
      accepted_entries (setup_sized docs c.args.size.now) c.requires.accepted c.words-w-end.ensures.valid,
    )

pub returns : goal.returns
returns g c =
    let f = keyed_fn g.K.Keyed.prf g.K.Keyed.pad in
    let docs = c.args.docs.now.documents in
    let words = words_of docs in
    let own = word_labels f c.args.master.now words in
    let are : c.loop-w.labels.items ≡ tagged_from 0 own =
    c.loop-w.invariant ∙ ap (λ vs. tagged_from 0 (word_labels f c.args.master.now vs)) (take_all c.loop-w.w words (omega (arith, c.words-w-end.ensures.words, c.loop-w-test.false))) in
    let dummies = λ (n : ℕ). map (dummy_label f (plain_key f c.args.master.now 8)) (range_with_len 0 n) in
    tagged-append own (dummies (c.args.size.now.padded_words - c.args.size.now.words)) (vec_len c.loop-w.labels) c.loop-w.labels.items _ are c.loop-w.labels.ok.0 c.in_ok-push_dummy_labels.ensures
    ∙ ap (λ n. tagged_from 0 (own ++ dummies n)) (dummy_entries-counted docs c.args.size.now c.requires)
    ∙ ap (tagged_from 0) (sym (index_labels-are f c.args.master.now (setup_sized docs c.args.size.now)))
