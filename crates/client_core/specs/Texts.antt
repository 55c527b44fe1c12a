-- The text printed when an addition or a deletion is not planned. Words are numbered from 0 in the document.
use Rattle.std.specs.Prelude.{ℕ, List, ◌++◌, codes, decimal}
use Rattle.client_core.specs.declared.command_fault.CommandFault.{CommandFault}
use Rattle.client_core.specs.declared.command_fault.CommandFault.TheVariants.{AlreadyLive, UnknownDocument, CounterFull, HistoryFull, LabelClash, NumberClash, NoMemory}

abbrev pub history_full_text : List ℕ
history_full_text = codes "a history has at most 4294967295 update frames, and this one had them"

abbrev pub command_fault_text : CommandFault → List ℕ
command_fault_text (AlreadyLive id) = codes "document " ++ decimal id ++ codes " is there already"
command_fault_text (UnknownDocument id) = codes "there is no document " ++ decimal id
command_fault_text (CounterFull position) = codes "word " ++ decimal position ++ codes " from 0 has had 4294967295 additions"
command_fault_text HistoryFull = history_full_text
command_fault_text (LabelClash first second) =
    codes "the labels of the words " ++ (decimal first ++ (codes " and " ++ (decimal second ++ codes " are equal")))
command_fault_text (NumberClash first second) =
    codes "the numbers of the words " ++ (decimal first ++ (codes " and " ++ (decimal second ++ codes " are equal")))
command_fault_text NoMemory = codes "out of memory"
