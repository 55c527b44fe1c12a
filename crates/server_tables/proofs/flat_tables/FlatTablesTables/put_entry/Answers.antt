use Rattle.std.proofs.Common.{◌≡◌, None, sym, ap, ◌∙◌, arith}
use Rattle.std.specs.FinMap as map
use Rattle.server_tables.specs.Places.{piece_at}
use Rattle.server_tables.proofs.TableLemmas.{get-map_values, none_copied, unmapped, cell_placed, cell_inserted, changed_dictionary}
use Rattle.server_tables.proofs.flat_tables.FlatTablesTables.put_entry.Goals as goal

-- the label isn't among the places, and there is room for it
pub unwrap-requires : goal.unwrap-requires
unwrap-requires g c =
    let cells = c.self.inside.cells.items in
    let absent : map.get c.args.self.now.contents.dictionary c.args.label.now ≡ None = sym c.entry.ensures ∙ none_copied c.entry.result (sym c.is_some.ensures ∙ c.if-is_some.false) in
    let unplaced : map.get (g.C.LabelMap.entries c.self.inside.labels) c.args.label.now ≡ None =
    unmapped (piece_at cells) _ (sym (get-map_values (piece_at cells) (g.C.LabelMap.entries c.self.inside.labels) c.args.label.now) ∙ ap (λ t. map.get t.contents.dictionary c.args.label.now) c.self.view_is ∙ absent) in
    c.insert.ensures.has_room (omega (arith, c.in_ok-reserve.ensures.ok)) (ap (λ m. map.get m c.args.label.now) c.reserve.ensures.kept ∙ unplaced)

pub returns-clause-ok : goal.returns-clause-ok
returns-clause-ok g c =
    let inserted = rw c.unwrap.ensures at c.insert.ensures.ok in
    changed_dictionary _ _ _ _ _ _ c.self.view_is (λ m. map.insert m c.args.label.now c.args.cell.now) _
    (cell_inserted _ _ _ _ c.in_ok-place.ensures.ok _ _ _ _ c.args.label.now c.self.invariant (inserted ∙ ap (λ m. map.insert m c.args.label.now c.in_ok-place.place) c.reserve.ensures.kept))

pub invariant_of-self-2 : goal.invariant_of-self-2
invariant_of-self-2 g c =
    let inserted = rw c.unwrap.ensures at c.insert.ensures.ok in
    cell_placed _ _ _ _ c.in_ok-place.ensures.ok _ _ _ _ c.args.label.now c.self.invariant (inserted ∙ ap (λ m. map.insert m c.args.label.now c.in_ok-place.place) c.reserve.ensures.kept)
