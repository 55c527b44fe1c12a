use Rattle.std.proofs.Common.{sym, ap, ◌∙◌}
use Rattle.std.specs.FinMap as map
use Rattle.server_tables.proofs.BucketLemmas.{len-map_of}
use Rattle.server_tables.proofs.bucket_map.BucketMapLabelMap.len.Goals as goal

-- a label for each entry
pub returns : goal.returns
returns g c = c.len.ensures.len ∙ sym (len-map_of _ c.len.ensures.unique) ∙ ap (λ m. map.len m.0) c.self.view_is
