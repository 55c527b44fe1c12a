-- The fault of a record whose word or document is bad.
use Rattle.client_registry.specs.declared.faults.DocFault.{DocFault}
use Rattle.client_registry.specs.declared.faults.DocFault.TheVariants as doc
use Rattle.client_registry.specs.declared.faults.DocsFault.{DocsFault}
use Rattle.client_registry.specs.declared.faults.DocsFault.TheVariants as docs
use Rattle.client_records.specs.declared.fault.ReadFault.{ReadFault}
use Rattle.client_records.specs.declared.fault.ReadFault.TheVariants.{BadRecord, NoMemory}

-- a document that the record has
abbrev pub doc_fault : DocFault → ReadFault
doc_fault doc.NoMemory = NoMemory
doc_fault (doc.TooManyWords n) = BadRecord
doc_fault (doc.RepeatedWord position) = BadRecord

-- a document after those before it in the record of a setup
abbrev pub docs_fault : DocsFault → ReadFault
docs_fault docs.NoMemory = NoMemory
docs_fault (docs.AlreadyLive id) = BadRecord
docs_fault (docs.TooManyDocuments n) = BadRecord
docs_fault (docs.TooManyPairs n) = BadRecord
