use Rattle.world_disks.proofs.Left.{doubts}
use Rattle.world_disks.proofs.appended.append_counted.Goals as goal

pub returns-clause-disk : goal.returns-clause-disk
returns-clause-disk c = λ payloads holds. doubts c.args.disk.now c.append.new.disk payloads c.args.payload.now (c.append.ensures.any_moment payloads holds.whole holds.is)
