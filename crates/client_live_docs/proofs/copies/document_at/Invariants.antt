use Rattle.std.proofs.Common.{◌≡◌, map, take}
use Rattle.client_registry.specs.Documents.{words_of}
use Rattle.client_registry.specs.Numbered.{words_by_number}
use Rattle.client_registry.specs.WordBytes.{word_bytes}
use Rattle.client_live_docs.proofs.copies.document_at.Given as goal

abbrev pub invariant-loop-number : goal.invariant-loop-number
invariant-loop-number l = map word_bytes l.words.items ≡ words_by_number (words_of l.fn.docs.documents) (take l.number-index l.number-items)
