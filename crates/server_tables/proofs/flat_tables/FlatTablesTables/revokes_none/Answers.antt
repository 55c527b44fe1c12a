use Rattle.std.proofs.Common.{ap, sym, ◌∙◌}
use Rattle.std.proofs.lemmas.Bool.{eqb-true, eq-eqb}
use Rattle.server_tables.proofs.TableLemmas.{label_set-none}
use Rattle.server_tables.proofs.flat_tables.FlatTablesTables.revokes_none.Goals as goal

-- no labels are no numbers
pub returns : goal.returns
returns g c =
    let held = ap (λ t. t.contents.revoked) c.self.view_is in
    let both = label_set-none (g.R.LabelMap.entries c.self.inside.revoked) in
    (λ yes. sym held ∙ both.0 (sym c.len.ensures ∙ eqb-true c.len.result 0 yes), λ none. eq-eqb c.len.result 0 (c.len.ensures ∙ both.1 (held ∙ none)))
