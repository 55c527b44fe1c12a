-- The meaning of the fields of a document.
use Rattle.std.specs.Prelude.{map}
use Rattle.client_registry.specs.Document.{Document}
use Rattle.client_registry.specs.WordBytes.{word_bytes}
use Rattle.client_registry.specs.IdNumber.{id_number}
use Rattle.client_registry.specs.declared.document.Doc.TheInside.{Inside}

-- what contracts see of a document
abbrev pub document_of : Inside → Document
document_of doc = record { id = id_number doc.id; words = map word_bytes doc.words.items }
