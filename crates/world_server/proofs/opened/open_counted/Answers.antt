use Rattle.world_disks.proofs.Left.{start_left}
use Rattle.world_server.proofs.Serving.{opened_serves}
use Rattle.world_server.specs.Serving.{spelled}
use Rattle.world_server.proofs.opened.open_counted.Goals as goal

pub returns-in-Ok-clause-made : goal.returns-in-Ok-clause-made
returns-in-Ok-clause-made g c = λ model taken is. opened_serves model c.args.disk.now c.start-started.new.disk c.in-Ok.store taken is c.in-Ok.ensures.started c.in-Ok.ensures.whole

pub returns-in-Ok-clause-disk : goal.returns-in-Ok-clause-disk
returns-in-Ok-clause-disk g c = λ model is. start_left (spelled model) c.args.disk.now c.start-started.new.disk is c.in-Ok.ensures.any_moment

pub returns-in-Err-clause-disk : goal.returns-in-Err-clause-disk
returns-in-Err-clause-disk g c = λ model is. start_left (spelled model) c.args.disk.now c.start-started.new.disk is c.in-Err.ensures.any_moment
