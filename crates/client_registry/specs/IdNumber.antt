-- The number that an identifier of the code is.
use Rattle.std.specs.Prelude.{ℕ}
use Rattle.client_registry.specs.declared.doc_id.DocId.{DocId}

-- the number of an identifier
abbrev pub id_number : DocId → ℕ
id_number id = id.number
