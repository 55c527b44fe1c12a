use Rattle.std.proofs.Common.{rules, ◌≡◌, Err}
use Rattle.client_records.specs.declared.fault.ReadFault.TheVariants.{BadRecord, NoMemory}
use Rattle.client_records.proofs.Absent.{no_documents_more, no_documents_whole}
use Rattle.client_records.proofs.documents.read_whole_documents.Goals as goal

pub returns-in_err-read_end-clause-none : goal.returns-in_err-read_end-clause-none
returns-in_err-read_end-clause-none c =
    λ _. no_documents_more c.args.unread c.read_u32.new.self c.in_ok-count.count (search rules) c.in_ok-count.ensures.read c.in_ok-docs.docs.documents c.read_documents.new.unread c.in_ok-docs.ensures.documents
    c.in_ok-docs.ensures.read c.in_err-read_end.ensures.more

pub returns-in_err-docs-clause-none : goal.returns-in_err-docs-clause-none
returns-in_err-docs-clause-none c =
    λ bad. let was : c.read_documents.result ≡ Err BadRecord = search rules in
    no_documents_whole c.args.unread c.read_u32.new.self c.in_ok-count.count (search rules) c.in_ok-count.ensures.read (c.read_documents.ensures.none was)

pub returns-in_err-docs-clause-memory : goal.returns-in_err-docs-clause-memory
returns-in_err-docs-clause-memory c =
    λ memory. let was : c.read_documents.result ≡ Err NoMemory = search rules in
    record {
      count = c.in_ok-count.count;
      rest = c.read_u32.new.self;
      fits = search rules;
      are = c.in_ok-count.ensures.read;
      begins = c.read_documents.ensures.memory was;
    }
