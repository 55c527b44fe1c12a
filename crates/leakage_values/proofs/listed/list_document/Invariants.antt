use Rattle.std.proofs.Common.{◌&&◌, true, take}
use Rattle.std.specs.Prelude.{bytes_eq}
use Rattle.std.specs.List.{list_any}
use Rattle.client_registry.specs.Documents.{words_of}
use Rattle.client_registry.specs.IdNumber.{id_number}
use Rattle.client_registry.specs.Numbered.{words_by_number}
use Rattle.leakage_values.specs.Listed.{ListsFor}
use Rattle.leakage_values.proofs.listed.list_document.Given as goal

abbrev pub invariant-loop-number : goal.invariant-loop-number
invariant-loop-number l =
    ListsFor l.initial.table.entries l.table.entries (id_number l.id) (λ w. list_any (bytes_eq w) (words_by_number (words_of l.docs.documents) (take l.number-index l.numbers)) && true)
