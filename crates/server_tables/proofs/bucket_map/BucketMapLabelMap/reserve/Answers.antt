use Rattle.std.proofs.Common.{ap, ◌∙◌}
use Rattle.server_tables.proofs.BucketLemmas.{map_of-same}
use Rattle.server_tables.proofs.bucket_map.BucketMapLabelMap.reserve.Goals as goal

-- the entries may stand elsewhere, and are found alike
pub returns-clause-kept : goal.returns-clause-kept
returns-clause-kept g c =
    map_of-same c.self.inside.values.entries c.reserve.new.self.entries c.reserve.ensures.entries.2 ∙ ap (λ m. m.0) c.self.view_is
