use Rattle.client_records.proofs.Absent.{no_document_more}
use Rattle.client_records.proofs.documents.read_whole_document.Goals as goal

pub returns-in_err-read_end-clause-none : goal.returns-in_err-read_end-clause-none
returns-in_err-read_end-clause-none c =
    λ _. no_document_more c.args.unread c.read_document.new.unread c.in_ok-doc.doc c.in_ok-doc.ensures.valid c.in_ok-doc.ensures.read c.in_err-read_end.ensures.more
