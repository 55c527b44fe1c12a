-- The answer of a journal's call to a disk's refusal.
use Rattle.sse_outside.specs.declared.device_fault.DeviceFault.{DeviceFault}
use Rattle.sse_outside.specs.declared.device_fault.DeviceFault.TheVariants as device
use Rattle.sse_journal.specs.declared.append_fault.AppendFault.{AppendFault}
use Rattle.sse_journal.specs.declared.append_fault.AppendFault.TheVariants as appends
use Rattle.sse_journal.specs.declared.start_fault.StartFault.{StartFault}
use Rattle.sse_journal.specs.declared.start_fault.StartFault.TheVariants as starts

abbrev pub append_fault : DeviceFault → AppendFault
append_fault device.Failed = appends.DiskFault
append_fault device.NoMemory = appends.NoMemory

abbrev pub start_fault : DeviceFault → StartFault
start_fault device.Failed = starts.DiskFault
start_fault device.NoMemory = starts.NoMemory
