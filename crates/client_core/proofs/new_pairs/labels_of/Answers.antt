use Rattle.std.proofs.Common.{◌≡◌, ◌+◌, ◌++◌, ◌∷◌, [], List, ℕ, get_or, length, map, sym, ap, take, ◌∙◌, arith}
use Rattle.std.proofs.lemmas.List.{length-map, length-take-le, map_push, take_more}
use Rattle.add_counters.specs.declared.entry.Entry.{Entry}
use Rattle.client_tag_order.proofs.InOrder.{make, tagged_from-push}
use Rattle.client_tag_order.specs.Tagged.{tagged_from}
use Rattle.client_core.proofs.new_pairs.labels_of.Goals as goal

pub loop-i-preserved : goal.loop-i-preserved
loop-i-preserved c =
    let i = c.loop-i.i in
    let entries = c.args.entries.now in
    let label : Entry → List ℕ = λ e. e.label in
    let none : Entry = record { label = []; sealed = [] } in
    let front = take i entries in
    let entry : Entry = get_or entries i none in
    let here : 0 + length (map label front) ≡ i = omega (arith, c.loop-i-test.true, length-take-le i entries, length-map front label) in
    c.in_ok-push.ensures.items
    ∙ ap (λ xs. xs ++ make entry.label i ∷ []) c.loop-i.invariant
    ∙ sym (ap (λ es. tagged_from 0 (map label es)) (take_more entries i none c.loop-i-test.true) ∙ ap (tagged_from 0) (map_push label front entry)
    ∙ tagged_from-push 0 (map label front) entry.label ∙ ap (λ (k : ℕ). tagged_from 0 (map label front) ++ make entry.label k ∷ []) here)
