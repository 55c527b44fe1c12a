use Rattle.std.proofs.Common.{◌≡◌, take}
use Rattle.client_registry.specs.Documents.{ids_with}
use Rattle.client_registry.specs.WordBytes.{word_bytes}
use Rattle.client_registry.specs.declared.word.Word.{Word}
use Rattle.leakage_values.specs.Listed.{ids_in}
use Rattle.leakage_values.proofs.listed.list_setup.Given as goal

abbrev pub invariant-loop-i : goal.invariant-loop-i
invariant-loop-i l = (w : Word) → ids_in l.table.entries w ≡ ids_with (take l.i l.docs.documents) (word_bytes w)
