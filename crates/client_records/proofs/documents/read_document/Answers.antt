use Rattle.std.proofs.Common.{rules, ◌≡◌, map, Err, arith}
use Rattle.client_registry.specs.WordBytes.{word_bytes}
use Rattle.client_records.specs.declared.fault.ReadFault.TheVariants.{BadRecord}
use Rattle.client_records.proofs.Absent.{no_document_refused}
use Rattle.client_records.proofs.MemoryLaws.{begins_document}
use Rattle.client_records.proofs.documents.read_document.Goals as goal

pub returns-in_err-doc-clause-none : goal.returns-in_err-doc-clause-none
returns-in_err-doc-clause-none c =
    λ bad. let was : c.document_of.result ≡ Err BadRecord = search rules in
    no_document_refused c.args.unread.now c.read_u64.new.self c.in_ok-number.number (search rules) c.in_ok-number.ensures.read c.read_u16.new.self c.in_ok-count.count (search rules)
    c.in_ok-count.ensures.read (map word_bytes c.in_ok-words.words.items) c.read_words.new.unread c.in_ok-words.ensures.read c.in_ok-words.ensures.words (c.document_of.ensures.refused was)

pub returns-in_err-room-clause-memory : goal.returns-in_err-room-clause-memory
returns-in_err-room-clause-memory c =
    λ _. begins_document c.args.unread.now c.read_u64.new.self c.read_u16.new.self c.in_ok-number.number c.in_ok-count.count (omega (arith, c.in_ok-id.id.some, c.in_ok-id.ensures.ok)) (search rules) c.in_ok-number.ensures.read c.in_ok-count.ensures.read

pub returns-in_err-doc-clause-memory : goal.returns-in_err-doc-clause-memory
returns-in_err-doc-clause-memory c =
    λ _. begins_document c.args.unread.now c.read_u64.new.self c.read_u16.new.self c.in_ok-number.number c.in_ok-count.count (omega (arith, c.in_ok-id.id.some, c.in_ok-id.ensures.ok)) (search rules) c.in_ok-number.ensures.read c.in_ok-count.ensures.read
