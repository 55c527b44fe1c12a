use Rattle.std.proofs.Common.{Some, ◌∙◌}
use Rattle.outside_memory_disk.specs.SteadyDisk.{file_of, images_of}
use Rattle.sse_client.proofs.InProcess.{inside, started_unused}
use Rattle.sse_client.proofs.in_process.new_link.Goals as goal

pub returns-in-Ok : goal.returns-in-Ok
returns-in-Ok g c =
    c.new-in-Ok.ensures
    ∙ started_unused c.in-Ok.store (file_of c.new-disk.result) (Some (file_of c.start.new.disk)) (images_of c.start.new.disk) (inside _ _ c.new-disk.ensures.content) c.in-Ok.ensures.started
