-- The text printed for each fault of a device.
use Rattle.std.specs.Prelude.{ℕ, List, codes}
use Rattle.sse_outside.specs.declared.device_fault.DeviceFault.{DeviceFault}
use Rattle.sse_outside.specs.declared.device_fault.DeviceFault.TheVariants.{Failed, NoMemory}

abbrev pub device_fault_text : DeviceFault → List ℕ
device_fault_text Failed = codes "the device failed"
device_fault_text NoMemory = codes "out of memory"
