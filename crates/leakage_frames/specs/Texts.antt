-- The text printed for a fault of the simulator.
use Rattle.std.specs.Prelude.{ℕ, List, ◌++◌, codes, decimal}
use Rattle.leakage_frames.specs.declared.fault.SimFault.{SimFault}
use Rattle.leakage_frames.specs.declared.fault.SimFault.TheVariants.{BadLeak, NoMemory}

abbrev pub sim_fault_text : SimFault → List ℕ
sim_fault_text (BadLeak command) = codes "the leakage of command " ++ decimal command ++ codes " from 0 names a command, a place or a draw that is not there"
sim_fault_text NoMemory = codes "out of memory"
