use Rattle.std.proofs.Common.{ap, ◌∙◌}
use Rattle.std.specs.FinMap as map
use Rattle.server_tables.specs.declared.key.Key.{Key}
use Rattle.server_tables.proofs.BucketLemmas.{map_of-inserted}
use Rattle.server_tables.proofs.bucket_map.BucketMapLabelMap.insert.Goals as goal

pub returns-clause-ok : goal.returns-clause-ok
returns-clause-ok g c =
    let key : Key = record { 0 = c.args.label.now } in
    map_of-inserted c.self.inside.values.entries c.insert.new.self.entries key c.args.value c.in_ok-insert.ensures.updates.0
    ∙ ap (λ m. map.insert m.0 c.args.label.now c.args.value) c.self.view_is
