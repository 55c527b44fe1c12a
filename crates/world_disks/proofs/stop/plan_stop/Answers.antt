use Rattle.world_disks.proofs.Left.{same_images, holds_quiet}
use Rattle.world_disks.proofs.stop.plan_stop.Goals as goal

pub returns-clause-disk : goal.returns-clause-disk
returns-clause-disk c = λ model is image now. is image (same_images c.args.disk.now c.fail_after.new.self c.fail_after.ensures.began c.fail_after.ensures.changes image now)

pub returns-clause-holds : goal.returns-clause-holds
returns-clause-holds c = λ payloads journal holds.
    holds_quiet payloads journal c.args.disk.now c.fail_after.new.self c.fail_after.ensures.file (same_images c.args.disk.now c.fail_after.new.self c.fail_after.ensures.began c.fail_after.ensures.changes) holds
