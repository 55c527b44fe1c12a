use Rattle.std.proofs.Common.{length}
use Rattle.sse_outside.proofs.DiskLaws.{torn_same}
use Rattle.sse_outside.proofs.file_disk.FileDiskDisk.write_at.Goals as goal

pub returns-in_err-noted-clause-torn : goal.returns-in_err-noted-clause-torn
returns-in_err-noted-clause-torn c image is = (image, is, torn_same c.args.at (length c.args.bytes.now) image)

pub returns-clause-torn : goal.returns-clause-torn
returns-clause-torn c image is = (image, is, torn_same c.args.at (length c.args.bytes.now) image)
