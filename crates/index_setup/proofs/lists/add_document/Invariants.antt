use Rattle.std.proofs.Common.{take}
use Rattle.client_registry.specs.Documents.{list_lengths, words_of}
use Rattle.client_registry.specs.Numbered.{words_by_number}
use Rattle.index_setup.specs.Lists.{HoldsLists}
use Rattle.index_setup.proofs.AddedWords.{lists_with}
use Rattle.index_setup.proofs.lists.add_document.Given as goal

-- the lists have the identifier after those of the first words of the document
abbrev pub invariant-loop-number : goal.invariant-loop-number
invariant-loop-number l =
    HoldsLists (list_lengths l.docs.documents) (lists_with l.docs.documents (take l.i l.docs.documents) l.id (words_by_number (words_of l.docs.documents) (take l.number-index l.number-items))) l.ids l.next
