use Rattle.std.proofs.Common.{sym, ap, ◌∙◌}
use Rattle.std.specs.FinMap as map
use Rattle.server_tables.specs.Places.{piece_at}
use Rattle.server_tables.proofs.TableLemmas.{len-map_values}
use Rattle.server_tables.proofs.flat_tables.FlatTablesTables.entry_len.Goals as goal

-- a cell for each label
pub returns : goal.returns
returns g c = c.len.ensures ∙ sym (len-map_values (piece_at c.self.inside.cells.items) _) ∙ ap (λ t. map.len t.contents.dictionary) c.self.view_is
