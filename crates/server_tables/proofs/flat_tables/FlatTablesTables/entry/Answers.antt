use Rattle.std.proofs.Common.{Some, sym, ap, ◌∙◌}
use Rattle.std.specs.Option.{option_map, option_copied}
use Rattle.std.specs.FinMap as map
use Rattle.server_tables.specs.Places.{piece_at}
use Rattle.server_tables.proofs.TableLemmas.{get-map_values}
use Rattle.server_tables.proofs.flat_tables.FlatTablesTables.entry.Goals as goal

-- the label's place has its cell
pub returns : goal.returns
returns g c =
    let cells = c.self.inside.cells.items in
    ap (λ bytes. Some (piece_at bytes c.in_ok-place.place)) c.deref.ensures.value
    ∙ ap (option_map (piece_at cells)) c.in_ok-place.ensures
    ∙ sym (get-map_values (piece_at cells) (g.C.LabelMap.entries c.self.inside.labels) c.args.label.now)
    ∙ ap (λ t. map.get t.contents.dictionary c.args.label.now) c.self.view_is

pub returns-in_err-place : goal.returns-in_err-place
returns-in_err-place g c =
    let cells = c.self.inside.cells.items in
    ap option_copied c.from_residual.ensures
    ∙ ap (option_map (piece_at cells)) c.in_err-place.ensures
    ∙ sym (get-map_values (piece_at cells) (g.C.LabelMap.entries c.self.inside.labels) c.args.label.now)
    ∙ ap (λ t. map.get t.contents.dictionary c.args.label.now) c.self.view_is
