use Rattle.sse_outside.proofs.DiskLaws.{shortened_same}
use Rattle.sse_outside.proofs.file_disk.FileDiskDisk.cut.Goals as goal

pub returns-in_err-noted-clause-torn : goal.returns-in_err-noted-clause-torn
returns-in_err-noted-clause-torn c image is = (image, is, shortened_same c.args.len image)

pub returns-clause-torn : goal.returns-clause-torn
returns-clause-torn c image is = (image, is, shortened_same c.args.len image)
