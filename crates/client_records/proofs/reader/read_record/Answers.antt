use Rattle.client_registry.specs.HashNumbers.{hash_numbers}
use Rattle.client_records.proofs.RecordReads.{reads_found, reads_keys, reads_memory, reads_none, reads_only}
use Rattle.client_records.proofs.reader.read_record.Goals as goal

pub returns-clause-found : goal.returns-clause-found
returns-clause-found c = reads_found (hash_numbers c.args.keys) c.args.payload.now c.record_of.result c.record_of.ensures

pub returns-clause-only : goal.returns-clause-only
returns-clause-only c = reads_only (hash_numbers c.args.keys) c.args.payload.now c.record_of.result c.record_of.ensures

pub returns-clause-none : goal.returns-clause-none
returns-clause-none c = reads_none (hash_numbers c.args.keys) c.args.payload.now c.record_of.result c.record_of.ensures

pub returns-clause-keys : goal.returns-clause-keys
returns-clause-keys c = reads_keys (hash_numbers c.args.keys) c.args.payload.now c.record_of.result c.record_of.ensures

pub returns-clause-memory : goal.returns-clause-memory
returns-clause-memory c = reads_memory (hash_numbers c.args.keys) c.args.payload.now c.record_of.result c.record_of.ensures
