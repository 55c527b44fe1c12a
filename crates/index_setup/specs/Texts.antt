-- The text printed when an index can't be built. Words and blocks are numbered from 0, dummies after them.
use Rattle.std.specs.Prelude.{ℕ, List, ◌++◌, codes, decimal, ◌==◌, if◌then◌else◌}
use Rattle.index_setup.specs.declared.fault.BuildFault.{BuildFault}
use Rattle.index_setup.specs.declared.fault.BuildFault.TheVariants.{BadParameter, ListTooLong, TooManyBytes, LabelClash, PlaceClash, NoMemory}

abbrev pub build_fault_text : BuildFault → List ℕ
build_fault_text (BadParameter which value) =
    if which == 0 then codes "b is 1 to 64, not " ++ decimal value
    else if which == 1 then codes "B is 1 to 256, not " ++ decimal value
    else codes "Q is a power of two from 1 to 4096, not " ++ decimal value
build_fault_text (ListTooLong word n) =
    codes "the list of word " ++ (decimal word ++ (codes " has " ++ (decimal n ++ codes " identifiers, over b*B*B")))
build_fault_text (TooManyBytes n) = codes "at most 268435456 bytes fit, not " ++ decimal n
build_fault_text (LabelClash first second) =
    codes "the labels of the words " ++ (decimal first ++ (codes " and " ++ (decimal second ++ codes " are equal")))
build_fault_text (PlaceClash first second) =
    codes "the places of the blocks " ++ (decimal first ++ (codes " and " ++ (decimal second ++ codes " are equal")))
build_fault_text NoMemory = codes "out of memory"
