use Rattle.std.proofs.Common.{◌≡◌, ℕ, List, ◌<◌, ◌-◌, ◌^◌, [], length, map, not, sym, ap, subst, ◌∙◌, arith}
use Rattle.std.specs.Prelude.{All, IfOk, option_map, slice_index_or}
use Rattle.std.specs.Option.{option_or}
use Rattle.std.proofs.lemmas.List.{length-map}
use Rattle.add_counters.specs.NewEntry.{entry_text}
use Rattle.add_counters.specs.declared.entry.Entry.{Entry as Made}
use Rattle.client_registry.proofs.DistinctLaws.{IsDistinct-first_clash}
use Rattle.client_registry.specs.IdNumber.{id_number}
use Rattle.client_registry.specs.Registered.{facts, known_words}
use Rattle.index_setup.proofs.BuildErrors.{unmapped}
use Rattle.keyed_fn.specs.KeyedFn.{keyed_fn}
use Rattle.revocation_ids.specs.Places.{fresh_places, listed_places, word_at}
use Rattle.revocation_ids.specs.declared.numbered_word.NumberedWord.{NumberedWord}
use Rattle.sse_frames.proofs.Sorted.{length-by_bytes}
use Rattle.sse_frames.specs.Frames.{AddFrame, Entry, frame_bytes}
use Rattle.sse_frames.specs.Order.{by_bytes}
use Rattle.sse_model.specs.Compared.{equal_among}
use Rattle.client_tag_order.specs.Tagged.{IsOrderOf}
use Rattle.client_tag_order.specs.declared.tagged.Tagged.{Tagged}
use Rattle.client_core.specs.UpdateFaults.{equal_at, label_fault, number_fault}
use Rattle.client_core.specs.UpdateTexts.{entries_added, next_entry_of, number_of, numbers_added}
use Rattle.client_core.specs.declared.command_fault.CommandFault.TheVariants.{LabelClash, NumberClash}
use Rattle.client_core.proofs.DifferLaws.{Rises-numbers, Rises-sorted}
use Rattle.client_core.proofs.PlanLaws.{entries_are_added, fault_of_both, fresh_counters, labels_at, length-places, map-by_bytes, neither_named, none_equal, numbers_are_added, numbers_at}
use Rattle.client_core.proofs.update_plans.add_update.Goals as goal

pub split-requires-clause-few : goal.split-requires-clause-few
split-requires-clause-few g c =
    omega (arith, c.requires.few, ap length c.requires.numbered.words_are, length-map c.args.words.now (λ n. slice_index_or (known_words c.args.registry.now) n []))

pub entries_of-requires-clause-counters : goal.entries_of-requires-clause-counters
entries_of-requires-clause-counters g c =
    subst (All (λ place. (facts c.args.registry.now).counter (word_at c.args.registry.now place) < 2 ^ 32 - 1))
    (sym (c.as_slice-fresh.ensures.value ∙ c.in_ok-parts.ensures.fresh ∙ ap (λ id. fresh_places c.args.registry.now id c.args.words.now) c.id.ensures))
    (fresh_counters c.args.registry.now c.args.doc.now c.args.words.now c.requires.numbered.words_are c.requires.counters)

pub labels_of-requires : goal.labels_of-requires
labels_of-requires g c =
    omega (
      arith,
      c.requires.few,
      length-places c.args.registry.now c.args.doc.now c.args.words.now c.requires.numbered.words_are,
      ap length (c.as_slice-fresh.ensures.value ∙ c.in_ok-parts.ensures.fresh ∙ ap (λ id. fresh_places c.args.registry.now id c.args.words.now) c.id.ensures),
      ap length (c.as_slice-listed.ensures.value ∙ c.in_ok-parts.ensures.listed ∙ ap (λ id. listed_places c.args.registry.now id c.args.words.now) c.id.ensures),
      c.in_ok-made.ensures.count,
      ap length c.as_slice-made.ensures.value,
    )

pub sorted-requires : goal.sorted-requires
sorted-requires g c =
    omega (
      arith,
      c.requires.few,
      length-places c.args.registry.now c.args.doc.now c.args.words.now c.requires.numbered.words_are,
      ap length (c.as_slice-fresh.ensures.value ∙ c.in_ok-parts.ensures.fresh ∙ ap (λ id. fresh_places c.args.registry.now id c.args.words.now) c.id.ensures),
      ap length (c.as_slice-listed.ensures.value ∙ c.in_ok-parts.ensures.listed ∙ ap (λ id. listed_places c.args.registry.now id c.args.words.now) c.id.ensures),
      c.in_ok-made.ensures.count,
      c.in_ok-numbers.ensures.count,
    )

pub in_order-requires : goal.in_order-requires
in_order-requires g c =
    let label : Made → List ℕ = λ e. e.label in
    let tags = map label c.as_slice-made.result.now in
    let order : IsOrderOf tags c.as_slice-labels.result.now = subst (IsOrderOf tags) (sym c.as_slice-labels.ensures.value) (c.in_ok-labels-2.ensures.order tags c.in_ok-labels.ensures) in
    order

pub add_clash-clash-requires-clause-labels : goal.add_clash-clash-requires-clause-labels
add_clash-clash-requires-clause-labels g c =
    let label : Made → List ℕ = λ e. e.label in
    let tags = map label c.as_slice-made.result.now in
    let order : IsOrderOf tags c.as_slice-labels.result.now = subst (IsOrderOf tags) (sym c.as_slice-labels.ensures.value) (c.in_ok-labels-2.ensures.order tags c.in_ok-labels.ensures) in
    (tags, order, length-map c.as_slice-made.result.now label ∙ ap length c.as_slice-made.ensures.value ∙ c.in_ok-made.ensures.count)

pub add_clash-clash-requires-clause-numbers : goal.add_clash-clash-requires-clause-numbers
add_clash-clash-requires-clause-numbers g c =
    let number_order : IsOrderOf c.in_ok-numbers.numbers c.as_slice-numbers.result.now = subst (IsOrderOf c.in_ok-numbers.numbers) (sym c.as_slice-numbers.ensures.value) c.in_ok-numbers-2.ensures.order in
    (c.in_ok-numbers.numbers, number_order, c.in_ok-numbers.ensures.count)

pub checked_addition-requires-clause-count : goal.checked_addition-requires-clause-count
checked_addition-requires-clause-count g c =
    let tag : Tagged → List ℕ = λ e. e.tag in
    omega (
      arith,
      c.requires.few,
      length-places c.args.registry.now c.args.doc.now c.args.words.now c.requires.numbered.words_are,
      ap length (c.as_slice-fresh.ensures.value ∙ c.in_ok-parts.ensures.fresh ∙ ap (λ id. fresh_places c.args.registry.now id c.args.words.now) c.id.ensures),
      ap length (c.as_slice-listed.ensures.value ∙ c.in_ok-parts.ensures.listed ∙ ap (λ id. listed_places c.args.registry.now id c.args.words.now) c.id.ensures),
      c.in_ok-made.ensures.count,
      ap length c.as_slice-made.ensures.value,
      ap length (c.as_slice.ensures.value ∙ c.in_ok-entries.ensures),
      length-by_bytes (λ entry. entry.label) c.as_slice-made.result.now,
      c.in_ok-numbers.ensures.count,
      ap length (c.as_slice-2.ensures.value ∙ c.in_ok-sent.ensures ∙ ap (map tag) c.as_slice-numbers.ensures.value ∙ c.in_ok-numbers-2.ensures.numbers),
      length-by_bytes (λ number. number) c.in_ok-numbers.numbers,
    )

-- where no two values are equal, both rise in order
pub checked_addition-requires-clause-rise : goal.checked_addition-requires-clause-rise
checked_addition-requires-clause-rise g c =
    λ none.
    let tag : Tagged → List ℕ = λ e. e.tag in
    let label : Made → List ℕ = λ e. e.label in
    let tags = map label c.as_slice-made.result.now in
    let order : IsOrderOf tags c.as_slice-labels.result.now = subst (IsOrderOf tags) (sym c.as_slice-labels.ensures.value) (c.in_ok-labels-2.ensures.order tags c.in_ok-labels.ensures) in
    let number_order : IsOrderOf c.in_ok-numbers.numbers c.as_slice-numbers.result.now = subst (IsOrderOf c.in_ok-numbers.numbers) (sym c.as_slice-numbers.ensures.value) c.in_ok-numbers-2.ensures.order in
    let fresh = c.as_slice-fresh.result.now in
    let listed = c.as_slice-listed.result.now in
    let neither = neither_named (label_fault fresh tags) (number_fault listed c.in_ok-numbers.numbers) (sym (c.add_clash-clash.ensures tags c.in_ok-numbers.numbers order number_order) ∙ none) in
    let no_labels = none_equal fresh tags (unmapped (λ two. LabelClash two.0 two.1) (equal_at fresh tags) neither.0) in
    let no_numbers = none_equal listed c.in_ok-numbers.numbers (unmapped (λ two. NumberClash two.0 two.1) (equal_at listed c.in_ok-numbers.numbers) neither.1) in (
      Rises-sorted label c.as_slice-made.result.now c.as_slice.result.now (c.as_slice.ensures.value ∙ c.in_ok-entries.ensures) (IsDistinct-first_clash tags no_labels),
      Rises-numbers c.in_ok-numbers.numbers c.as_slice-2.result.now
          (c.as_slice-2.ensures.value ∙ c.in_ok-sent.ensures ∙ ap (map tag) c.as_slice-numbers.ensures.value ∙ c.in_ok-numbers-2.ensures.numbers) no_numbers,
    )

pub returns-clause-fault : goal.returns-clause-fault
returns-clause-fault g c =
    λ had some.
    let f = keyed_fn g.K.Keyed.prf g.K.Keyed.pad in
    let r = c.args.registry.now in
    let d = c.args.doc.now in
    let key = c.args.master.now in
    let ns = c.args.words.now in
    let are = c.requires.numbered.words_are in
    let fresh = c.as_slice-fresh.ensures.value ∙ c.in_ok-parts.ensures.fresh ∙ ap (λ id. fresh_places r id ns) c.id.ensures in
    let listed = c.as_slice-listed.ensures.value ∙ c.in_ok-parts.ensures.listed ∙ ap (λ id. listed_places r id ns) c.id.ensures in
    let entry : ℕ → NumberedWord → Entry = λ id place. next_entry_of f key (facts r) id (word_at r place) in
    let made : map entry_text c.in_ok-made.made.items ≡ map (entry d.id) (fresh_places r d.id ns) =
    c.in_ok-made.ensures.entries had ∙ ap (map (entry (id_number c.id-2.result))) fresh ∙ ap (λ id. map (entry id) (fresh_places r d.id ns)) c.id-2.ensures in
    let number_at : ℕ → NumberedWord → List ℕ = λ id place. number_of f key id (word_at r place) in
    let given : c.in_ok-numbers.numbers ≡ map (number_at d.id) (listed_places r d.id ns) =
    c.in_ok-numbers.ensures.numbers (c.entries_of.ensures.keeps had) ∙ ap (map (number_at (id_number c.id-3.result))) listed ∙ ap (λ id. map (number_at id) (listed_places r d.id ns)) c.id-3.ensures in
    let label : Made → List ℕ = λ e. e.label in
    let tags = map label c.as_slice-made.result.now in
    let order : IsOrderOf tags c.as_slice-labels.result.now = subst (IsOrderOf tags) (sym c.as_slice-labels.ensures.value) (c.in_ok-labels-2.ensures.order tags c.in_ok-labels.ensures) in
    let number_order : IsOrderOf c.in_ok-numbers.numbers c.as_slice-numbers.result.now = subst (IsOrderOf c.in_ok-numbers.numbers) (sym c.as_slice-numbers.ensures.value) c.in_ok-numbers-2.ensures.order in
    let labels = equal_among (λ w. not ((facts r).listed w d.id)) (λ w. (next_entry_of f key (facts r) d.id w).label) d.words in
    let numbers = equal_among (λ w. (facts r).listed w d.id) (number_of f key d.id) d.words in
    let at_labels : label_fault c.as_slice-fresh.result.now tags ≡ option_map (λ two. LabelClash two.0 two.1) labels =
    ap (λ ps. label_fault ps tags) fresh
    ∙ ap (λ es. label_fault (fresh_places r d.id ns) (map label es)) c.as_slice-made.ensures.value
    ∙ ap (option_map (λ two. LabelClash two.0 two.1)) (labels_at r d ns are f key c.in_ok-made.made.items made) in
    let at_numbers : number_fault c.as_slice-listed.result.now c.in_ok-numbers.numbers ≡ option_map (λ two. NumberClash two.0 two.1) numbers =
    ap (λ ps. number_fault ps c.in_ok-numbers.numbers) listed
    ∙ ap (option_map (λ two. NumberClash two.0 two.1)) (numbers_at r d ns are f key c.in_ok-numbers.numbers given) in
    c.checked_addition.ensures.fault some
    ∙ c.add_clash-clash.ensures tags c.in_ok-numbers.numbers order number_order
    ∙ (λ i. option_or (at_labels i) (at_numbers i))
    ∙ fault_of_both labels numbers

pub returns-clause-bytes : goal.returns-clause-bytes
returns-clause-bytes g c =
    λ had.
    let f = keyed_fn g.K.Keyed.prf g.K.Keyed.pad in
    let r = c.args.registry.now in
    let d = c.args.doc.now in
    let key = c.args.master.now in
    let ns = c.args.words.now in
    let are = c.requires.numbered.words_are in
    let fresh = c.as_slice-fresh.ensures.value ∙ c.in_ok-parts.ensures.fresh ∙ ap (λ id. fresh_places r id ns) c.id.ensures in
    let entry : ℕ → NumberedWord → Entry = λ id place. next_entry_of f key (facts r) id (word_at r place) in
    let made : map entry_text c.in_ok-made.made.items ≡ map (entry d.id) (fresh_places r d.id ns) =
    c.in_ok-made.ensures.entries had ∙ ap (map (entry (id_number c.id-2.result))) fresh ∙ ap (λ id. map (entry id) (fresh_places r d.id ns)) c.id-2.ensures in
    let listed = c.as_slice-listed.ensures.value ∙ c.in_ok-parts.ensures.listed ∙ ap (λ id. listed_places r id ns) c.id.ensures in
    let number_at : ℕ → NumberedWord → List ℕ = λ id place. number_of f key id (word_at r place) in
    let given : c.in_ok-numbers.numbers ≡ map (number_at d.id) (listed_places r d.id ns) =
    c.in_ok-numbers.ensures.numbers (c.entries_of.ensures.keeps had) ∙ ap (map (number_at (id_number c.id-3.result))) listed ∙ ap (λ id. map (number_at id) (listed_places r d.id ns)) c.id-3.ensures in
    let label : Entry → List ℕ = λ e. e.label in
    let tag : Tagged → List ℕ = λ e. e.tag in
    let sorted : map entry_text c.as_slice.result.now ≡ by_bytes label (entries_added f key (facts r) d) =
    ap (map entry_text) (c.as_slice.ensures.value ∙ c.in_ok-entries.ensures ∙ ap (by_bytes (λ e. e.label)) c.as_slice-made.ensures.value) ∙ map-by_bytes entry_text label c.in_ok-made.made.items
    ∙ ap (by_bytes label) (entries_are_added r d ns are f key c.in_ok-made.made.items made) in
    let rising : c.as_slice-2.result.now ≡ by_bytes (λ number. number) (numbers_added f key (facts r) d) =
    c.as_slice-2.ensures.value ∙ c.in_ok-sent.ensures ∙ ap (map tag) c.as_slice-numbers.ensures.value ∙ c.in_ok-numbers-2.ensures.numbers
    ∙ ap (by_bytes (λ number. number)) (numbers_are_added r d ns are f key c.in_ok-numbers.numbers given) in
    subst (λ (text : List Entry × List (List ℕ)). IfOk c.checked_addition.result (λ bytes. bytes.items ≡ frame_bytes (AddFrame c.args.q text.0 text.1)))
    (λ i. (sorted i, rising i)) c.checked_addition.ensures.bytes
