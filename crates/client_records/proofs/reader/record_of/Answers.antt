use Rattle.std.proofs.Common.{sym, ◌∙◌}
use Rattle.client_registry.specs.HashNumbers.{hash_numbers}
use Rattle.client_records.proofs.RecordReads.{reads_kind}
use Rattle.client_records.proofs.reader.record_of.Goals as goal

pub returns-in-18 : goal.returns-in-18
returns-in-18 c =
    reads_kind (hash_numbers c.args.keys) c.args.payload.now c.read_u8.new.self c.in_ok-kind.kind 0x12 c.read_addition.result (sym c.new-unread.ensures ∙ c.in_ok-kind.ensures.read) c.in-18.is
    (c.read_addition.ensures (hash_numbers c.args.keys))

pub returns-in-19 : goal.returns-in-19
returns-in-19 c =
    reads_kind (hash_numbers c.args.keys) c.args.payload.now c.read_u8.new.self c.in_ok-kind.kind 0x13 c.read_deletion.result (sym c.new-unread.ensures ∙ c.in_ok-kind.ensures.read) c.in-19.is
    (c.read_deletion.ensures (hash_numbers c.args.keys))

pub returns-in-21 : goal.returns-in-21
returns-in-21 c =
    reads_kind (hash_numbers c.args.keys) c.args.payload.now c.read_u8.new.self c.in_ok-kind.kind 0x15 c.read_renewal.result (sym c.new-unread.ensures ∙ c.in_ok-kind.ensures.read) c.in-21.is
    (c.read_renewal.ensures (hash_numbers c.args.keys))
