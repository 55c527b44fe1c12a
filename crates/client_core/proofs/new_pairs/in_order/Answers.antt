use Rattle.std.proofs.Common.{◌++◌, ◌∷◌, [], map, take, get_or, sym, ap, ◌∙◌, arith}
use Rattle.std.proofs.lemmas.List.{map_push, take_all, take_more}
use Rattle.client_tag_order.specs.declared.tagged.Tagged.{Tagged}
use Rattle.client_core.proofs.OrderedEntries.{entries_in_order, entry_at, place_within}
use Rattle.client_core.proofs.new_pairs.in_order.Goals as goal

pub bounds-entries-label : goal.bounds-entries-label
bounds-entries-label c = place_within c.args.entries.now c.args.order.now c.requires c.loop-label.label-index _ c.loop-label-test.true

pub loop-label-preserved : goal.loop-label-preserved
loop-label-preserved c =
    let order = c.args.order.now in
    let i = c.loop-label.label-index in
    let none : Tagged = record { tag = []; position = 0 } in
    let at = entry_at c.args.entries.now in
    c.in_ok-push.ensures.items
    ∙ ap (λ xs. xs ++ at (get_or order i none) ∷ []) c.loop-label.invariant
    ∙ sym (ap (map at) (take_more order i none c.loop-label-test.true) ∙ map_push at (take i order) (get_or order i none))

pub returns : goal.returns
returns c =
    let order = c.args.order.now in
    c.loop-label.invariant ∙ ap (map (entry_at c.args.entries.now)) (take_all c.loop-label.label-index order (omega (arith, c.loop-label-test.false)))
    ∙ entries_in_order c.args.entries.now order c.requires
