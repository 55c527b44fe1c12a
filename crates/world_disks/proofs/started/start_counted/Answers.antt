use Rattle.world_disks.proofs.Left.{start_left, started_holds}
use Rattle.world_disks.proofs.started.start_counted.Goals as goal

pub returns-in-Ok-clause-made : goal.returns-in-Ok-clause-made
returns-in-Ok-clause-made c = λ model is. started_holds model c.args.disk.now c.start-started.new.disk is c.in-Ok.journal c.in-Ok.ensures.started c.in-Ok.ensures.whole

pub returns-in-Ok-clause-disk : goal.returns-in-Ok-clause-disk
returns-in-Ok-clause-disk c = λ model is. start_left model c.args.disk.now c.start-started.new.disk is c.in-Ok.ensures.any_moment

pub returns-in-Err-clause-disk : goal.returns-in-Err-clause-disk
returns-in-Err-clause-disk c = λ model is. start_left model c.args.disk.now c.start-started.new.disk is c.in-Err.ensures.any_moment
