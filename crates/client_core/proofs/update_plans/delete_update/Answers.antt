use Rattle.std.proofs.Common.{◌≡◌, ◌<◌, List, ℕ, [], true, length, map, sym, ap, subst, ◌∙◌, arith}
use Rattle.std.specs.Prelude.{All, IfOk, IfSome, option_map, slice_index_or, unwrap_or}
use Rattle.std.proofs.lemmas.List.{length-map}
use Rattle.client_registry.specs.DocumentRule.{IsDocument}
use Rattle.client_registry.specs.IdNumber.{id_number}
use Rattle.client_registry.specs.Numbered.{document_by, words_by_number}
use Rattle.client_registry.specs.Registered.{facts, known_words}
use Rattle.index_setup.proofs.BuildErrors.{unmapped}
use Rattle.keyed_fn.specs.KeyedFn.{keyed_fn}
use Rattle.revocation_ids.specs.declared.numbered_word.NumberedWord.{NumberedWord}
use Rattle.sse_frames.proofs.Sorted.{length-by_bytes}
use Rattle.sse_frames.specs.Frames.{DeleteFrame, frame_bytes}
use Rattle.sse_frames.specs.Order.{by_bytes}
use Rattle.sse_model.proofs.UpdateGrammar.{few_words}
use Rattle.sse_model.specs.Compared.{equal_among}
use Rattle.client_tag_order.specs.Tagged.{IsOrderOf}
use Rattle.client_tag_order.specs.declared.tagged.Tagged.{Tagged}
use Rattle.client_core.specs.UpdateFaults.{equal_at, number_fault}
use Rattle.client_core.specs.UpdateTexts.{number_of}
use Rattle.client_core.specs.declared.command_fault.CommandFault.TheVariants.{NumberClash}
use Rattle.client_core.proofs.DifferLaws.{Rises-numbers}
use Rattle.client_core.proofs.PlanLaws.{All-unmap, all_equal, all_values, clash_of_numbers, none_equal}
use Rattle.client_core.proofs.update_plans.delete_update.Goals as goal

pub places_of-requires : goal.places_of-requires
places_of-requires g c =
    let valid = subst (λ o. IfSome o (λ doc. IsDocument (document_by (known_words c.args.registry.now) doc))) c.unwrap-doc.ensures c.get.ensures.valid in
    omega (arith, few_words (words_by_number (known_words c.args.registry.now) c.unwrap-doc.result.numbers.now) valid.accepted, length-map c.unwrap-doc.result.numbers.now (λ n. slice_index_or (known_words c.args.registry.now) n []))

pub numbers_of-requires : goal.numbers_of-requires
numbers_of-requires g c =
    let table = known_words c.args.registry.now in
    let numbered = subst (λ o. IfSome o (λ doc. All (λ n. n < length table) doc.numbers.now)) c.unwrap-doc.ensures c.get.ensures.numbered in
    subst (All (λ (place : NumberedWord). place.number < length table)) (sym c.as_slice-places.ensures.value)
    (All-unmap (λ n. n < length table) (λ (place : NumberedWord). place.number) c.in_ok-places.places.items (subst (All (λ n. n < length table)) (sym c.in_ok-places.ensures.numbers) numbered))

pub sorted-requires : goal.sorted-requires
sorted-requires g c =
    let valid = subst (λ o. IfSome o (λ doc. IsDocument (document_by (known_words c.args.registry.now) doc))) c.unwrap-doc.ensures c.get.ensures.valid in
    omega (
      arith,
      few_words (words_by_number (known_words c.args.registry.now) c.unwrap-doc.result.numbers.now) valid.accepted,
      length-map c.unwrap-doc.result.numbers.now (λ n. slice_index_or (known_words c.args.registry.now) n []),
      ap length c.as_slice-places.ensures.value,
      length-map c.in_ok-places.places.items (λ place. place.number),
      ap length c.in_ok-places.ensures.numbers,
      c.in_ok-numbers.ensures.count,
    )

pub number_clash-clash-requires : goal.number_clash-clash-requires
number_clash-clash-requires g c =
    let order : IsOrderOf c.in_ok-numbers.numbers c.as_slice-numbers.result.now = subst (IsOrderOf c.in_ok-numbers.numbers) (sym c.as_slice-numbers.ensures.value) c.in_ok-numbers-2.ensures.order in
    (c.in_ok-numbers.numbers, order, c.in_ok-numbers.ensures.count)

pub checked_deletion-requires-clause-count : goal.checked_deletion-requires-clause-count
checked_deletion-requires-clause-count g c =
    let tag : Tagged → List ℕ = λ e. e.tag in
    let valid = subst (λ o. IfSome o (λ doc. IsDocument (document_by (known_words c.args.registry.now) doc))) c.unwrap-doc.ensures c.get.ensures.valid in
    omega (
      arith,
      few_words (words_by_number (known_words c.args.registry.now) c.unwrap-doc.result.numbers.now) valid.accepted,
      length-map c.unwrap-doc.result.numbers.now (λ n. slice_index_or (known_words c.args.registry.now) n []),
      ap length c.as_slice-places.ensures.value,
      length-map c.in_ok-places.places.items (λ place. place.number),
      ap length c.in_ok-places.ensures.numbers,
      c.in_ok-numbers.ensures.count,
      ap length (c.as_slice.ensures.value ∙ c.in_ok-sent.ensures ∙ ap (map tag) c.as_slice-numbers.ensures.value ∙ c.in_ok-numbers-2.ensures.numbers),
      length-by_bytes (λ number. number) c.in_ok-numbers.numbers,
    )

pub checked_deletion-requires-clause-rise : goal.checked_deletion-requires-clause-rise
checked_deletion-requires-clause-rise g c =
    λ none.
    let tag : Tagged → List ℕ = λ e. e.tag in
    let order : IsOrderOf c.in_ok-numbers.numbers c.as_slice-numbers.result.now = subst (IsOrderOf c.in_ok-numbers.numbers) (sym c.as_slice-numbers.ensures.value) c.in_ok-numbers-2.ensures.order in
    let no_numbers = none_equal c.as_slice-places.result.now c.in_ok-numbers.numbers (unmapped (λ two. NumberClash two.0 two.1) (equal_at c.as_slice-places.result.now c.in_ok-numbers.numbers) (sym (c.number_clash-clash.ensures c.in_ok-numbers.numbers order) ∙ none)) in
    Rises-numbers c.in_ok-numbers.numbers c.as_slice.result.now
    (c.as_slice.ensures.value ∙ c.in_ok-sent.ensures ∙ ap (map tag) c.as_slice-numbers.ensures.value ∙ c.in_ok-numbers-2.ensures.numbers) no_numbers

pub returns-clause-fault : goal.returns-clause-fault
returns-clause-fault g c =
    λ had some.
    let f = keyed_fn g.K.Keyed.prf g.K.Keyed.pad in
    let r = c.args.registry.now in
    let key = c.args.master.now in
    let id = id_number c.args.id in
    let table = known_words r in
    let items = c.in_ok-places.places.items in
    let doc = c.unwrap-doc.result.numbers.now in
    let words : words_by_number table doc ≡ unwrap_or ((facts r).live id) [] =
    ap (λ o. unwrap_or o []) (sym (ap (option_map (λ d. words_by_number table d.numbers.now)) c.unwrap-doc.ensures) ∙ c.get.ensures.live) in
    let given : c.in_ok-numbers.numbers ≡ map (λ place. number_of f key id (slice_index_or table place.number [])) items =
    c.in_ok-numbers.ensures.numbers had ∙ ap (map (λ (place : NumberedWord). number_of f key id (slice_index_or table place.number []))) c.as_slice-places.ensures.value in
    let order : IsOrderOf c.in_ok-numbers.numbers c.as_slice-numbers.result.now = subst (IsOrderOf c.in_ok-numbers.numbers) (sym c.as_slice-numbers.ensures.value) c.in_ok-numbers-2.ensures.order in
    let clashes = equal_among (λ w. true) (number_of f key id) (unwrap_or ((facts r).live id) []) in
    let at : c.number_clash-clash.result ≡ option_map (λ two. NumberClash two.0 two.1) clashes =
    c.number_clash-clash.ensures c.in_ok-numbers.numbers order ∙ ap (λ ps. number_fault ps c.in_ok-numbers.numbers) c.as_slice-places.ensures.value
    ∙ ap (option_map (λ two. NumberClash two.0 two.1))
    (all_equal table doc items c.in_ok-places.ensures.numbers (number_of f key id) c.in_ok-numbers.numbers c.in_ok-places.ensures.positions given ∙ ap (equal_among (λ w. true) (number_of f key id)) words) in
    c.checked_deletion.ensures.fault some ∙ at ∙ clash_of_numbers clashes

pub returns-clause-bytes : goal.returns-clause-bytes
returns-clause-bytes g c =
    λ had.
    let tag : Tagged → List ℕ = λ e. e.tag in
    let f = keyed_fn g.K.Keyed.prf g.K.Keyed.pad in
    let r = c.args.registry.now in
    let key = c.args.master.now in
    let id = id_number c.args.id in
    let table = known_words r in
    let items = c.in_ok-places.places.items in
    let doc = c.unwrap-doc.result.numbers.now in
    let words : words_by_number table doc ≡ unwrap_or ((facts r).live id) [] =
    ap (λ o. unwrap_or o []) (sym (ap (option_map (λ d. words_by_number table d.numbers.now)) c.unwrap-doc.ensures) ∙ c.get.ensures.live) in
    let given : c.in_ok-numbers.numbers ≡ map (λ place. number_of f key id (slice_index_or table place.number [])) items =
    c.in_ok-numbers.ensures.numbers had ∙ ap (map (λ (place : NumberedWord). number_of f key id (slice_index_or table place.number []))) c.as_slice-places.ensures.value in
    subst (λ ns. IfOk c.checked_deletion.result (λ bytes. bytes.items ≡ frame_bytes (DeleteFrame c.args.q ns)))
    (c.as_slice.ensures.value ∙ c.in_ok-sent.ensures ∙ ap (map tag) c.as_slice-numbers.ensures.value ∙ c.in_ok-numbers-2.ensures.numbers
    ∙ ap (by_bytes (λ number. number)) (all_values table doc items c.in_ok-places.ensures.numbers (number_of f key id) c.in_ok-numbers.numbers given ∙ ap (map (number_of f key id)) words))
    c.checked_deletion.ensures.bytes
