-- The meaning of a record of the code.
use Rattle.std.specs.Prelude.{◌≡◌, ℕ, List, Result, Ok, Err}
use Rattle.client_registry.specs.IdNumber.{id_number}
use Rattle.client_registry.specs.Setup.{setup_with}
use Rattle.client_records.specs.Records.{RecordText, SetsUp, Adds, Deletes, Rekeys, IsRecordOf, IsNoRecord}
use Rattle.client_records.specs.TakenMemory.{TakesMemory}
use Rattle.client_records.specs.declared.fault.ReadFault.{ReadFault}
use Rattle.client_records.specs.declared.fault.ReadFault.TheVariants.{BadRecord, NoMemory}
use Rattle.client_records.specs.declared.client_record.Record.{Record}
use Rattle.client_records.specs.declared.client_record.Record.TheVariants.{Setup, Add, Delete, Renewal}

-- what a record says
abbrev pub record_text : Record → RecordText
record_text (Setup mark docs b big pad) = SetsUp mark (setup_with docs.documents b big pad)
record_text (Add doc) = Adds doc
record_text (Delete id) = Deletes (id_number id)
record_text (Renewal mark) = Rekeys mark

-- the documents of a setup are hashed under these two numbers
abbrev pub HasKeys : ℕ × ℕ → Record → Type 0
HasKeys keys (Setup mark docs b big pad) = docs.keys ≡ keys
HasKeys keys (Add doc) = Unit {0}
HasKeys keys (Delete id) = Unit {0}
HasKeys keys (Renewal mark) = Unit {0}

-- the answer to bytes that are to be a record: what they say, or that they say nothing; or it is out of memory, at bytes for
-- which memory is taken
abbrev pub ReadsRecord : ℕ × ℕ → List ℕ → Result Record ReadFault → Type 0
ReadsRecord keys payload (Ok r) = IsRecordOf payload (record_text r) × HasKeys keys r
ReadsRecord keys payload (Err BadRecord) = IsNoRecord payload
ReadsRecord keys payload (Err NoMemory) = TakesMemory payload
