use Rattle.std.proofs.Common.{◌≡◌, true, false, refl, sym, ap, ◌∙◌}
use Rattle.std.specs.Option.{is_some}
use Rattle.std.specs.FinMap as map
use Rattle.server_tables.specs.declared.key.Key.{Key}
use Rattle.server_tables.proofs.BucketLemmas.{get-map_of, map_of-removed}
use Rattle.server_tables.proofs.bucket_map.BucketMapLabelMap.remove.Goals as goal

pub returns-clause-ok : goal.returns-clause-ok
returns-clause-ok g c =
    let key : Key = record { 0 = c.args.label.now } in
    map_of-removed c.self.inside.values.entries c.remove.new.self.entries key c.remove.ensures.updates.0
    ∙ ap (λ m. map.remove m.0 c.args.label.now) c.self.view_is

-- the table has the label
pub returns-clause-there : goal.returns-clause-there
returns-clause-there g c =
    let key : Key = record { 0 = c.args.label.now } in
    let there : map.contains_key c.args.self.now.0 c.args.label.now ≡ true =
    ap (λ m. map.contains_key m.0 c.args.label.now) (sym c.self.view_is) ∙ ap is_some (get-map_of c.self.inside.values.entries key ∙ sym c.in-Some.ensures.value) in
    (λ _. there, λ _. refl)

-- the table doesn't have it
pub returns-in_default-clause-there : goal.returns-in_default-clause-there
returns-in_default-clause-there g c =
    let key : Key = record { 0 = c.args.label.now } in
    let absent : map.contains_key c.args.self.now.0 c.args.label.now ≡ false =
    ap (λ m. map.contains_key m.0 c.args.label.now) (sym c.self.view_is) ∙ ap is_some (get-map_of c.self.inside.values.entries key ∙ sym c.in_default.ensures.value) in
    (λ e. cc, λ e. cc)
