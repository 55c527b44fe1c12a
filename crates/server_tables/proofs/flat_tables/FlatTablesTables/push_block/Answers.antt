use Rattle.std.proofs.Common.{[], ◌∷◌, ◌++◌, length, map, sym, ap, subst, ◌∙◌}
use Rattle.server_tables.specs.Places.{piece_at, ArePlaced}
use Rattle.server_tables.proofs.TableLemmas.{block_placed, block_pushed, changed_array}
use Rattle.server_tables.proofs.flat_tables.FlatTablesTables.push_block.Goals as goal

pub returns-clause-ok : goal.returns-clause-ok
returns-clause-ok g c =
    let pushed = rw c.unwrap.ensures at c.push.ensures.items in
    let places = pushed ∙ ap (λ ps. ps ++ c.in_ok-place.place ∷ []) c.reserve.ensures.items in
    changed_array _ _ _ _ _ _ c.self.view_is (λ blocks. blocks ++ c.args.block.now ∷ []) _
    (ap (map (piece_at c.append.new.bytes.items)) places ∙ block_pushed _ _ _ _ c.in_ok-place.ensures.ok c.self.inside.places.items c.self.invariant.blocks)

pub invariant_of-self-2 : goal.invariant_of-self-2
invariant_of-self-2 g c =
    let pushed = rw c.unwrap.ensures at c.push.ensures.items in
    let places = pushed ∙ ap (λ ps. ps ++ c.in_ok-place.place ∷ []) c.reserve.ensures.items in
    subst (λ ps. ArePlaced (length c.self.inside.cells.items) (length c.append.new.bytes.items) (g.C.LabelMap.entries c.self.inside.labels) ps) (sym places) (block_placed _ _ _ _ c.in_ok-place.ensures.ok _ _ _ c.self.invariant)
