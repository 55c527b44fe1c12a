use Rattle.std.proofs.Common.{sym, ap, ◌∙◌}
use Rattle.std.specs.FinMap as map
use Rattle.server_tables.specs.declared.key.Key.{Key}
use Rattle.server_tables.proofs.BucketLemmas.{get-map_of}
use Rattle.server_tables.proofs.bucket_map.BucketMapLabelMap.get.Goals as goal

-- the table finds what the map has
pub returns : goal.returns
returns g c =
    let key : Key = record { 0 = c.args.label.now } in
    c.copied.ensures ∙ c.get.ensures.value ∙ sym (get-map_of c.self.inside.values.entries key) ∙ ap (λ m. map.get m.0 c.args.label.now) c.self.view_is
