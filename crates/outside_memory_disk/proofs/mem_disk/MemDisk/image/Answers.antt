use Rattle.std.proofs.Common.{sym, subst}
use Rattle.outside_memory_disk.specs.MemDisk.{began_of, changes_on, images_of}
use Rattle.outside_memory_disk.proofs.PickedImages.{image_picked_is}
use Rattle.outside_memory_disk.proofs.mem_disk.MemDisk.image.Goals as goal

pub returns-clause-image : goal.returns-clause-image
returns-clause-image c =
    subst (images_of c.args.self.now) (sym c.in_ok-image.ensures.first)
    (image_picked_is c.args.pick (began_of c.args.self.now) (changes_on c.args.self.now))
