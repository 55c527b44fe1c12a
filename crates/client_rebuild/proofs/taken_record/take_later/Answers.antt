use Rattle.std.proofs.Common.{ap}
use Rattle.client_registry.specs.HashNumbers.{hash_numbers}
use Rattle.client_records.specs.RecordView.{record_text}
use Rattle.client_records.specs.declared.client_record.Record.{Record}
use Rattle.client_rebuild.specs.Rebuilds.{said}
use Rattle.client_rebuild.proofs.taken_record.take_later.Goals as goal

pub returns-in-Add : goal.returns-in-Add
returns-in-Add c = c.take_update.ensures (hash_numbers c.args.keys) c.args.marks.now.items (record_text c.args.next) (ap (λ (r : Record). said (record_text r)) c.in-Add.is)

pub returns-in-Delete : goal.returns-in-Delete
returns-in-Delete c = c.take_update-in-Delete.ensures (hash_numbers c.args.keys) c.args.marks.now.items (record_text c.args.next) (ap (λ (r : Record). said (record_text r)) c.in-Delete.is)

pub returns : goal.returns
returns c = c.take_renewal.ensures (record_text c.args.next) (ap (λ (r : Record). said (record_text r)) c.in-Renewal.is)
