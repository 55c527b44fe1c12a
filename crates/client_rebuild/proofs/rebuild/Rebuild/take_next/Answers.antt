use Rattle.std.proofs.Common.{inl}
use Rattle.client_registry.specs.HashNumbers.{hash_numbers}
use Rattle.client_rebuild.proofs.RebuildLaws.{no_record_taken}
use Rattle.client_rebuild.proofs.rebuild.Rebuild.take_next.Goals as goal

pub returns-in-Ok-clause-takes : goal.returns-in-Ok-clause-takes
returns-in-Ok-clause-takes c = λ payloads was. c.take_said.ensures.taken payloads c.args.payload.now was c.in-Ok.ensures.found c.in-Ok.ensures.keys

pub returns-in-Err-BadRecord-clause-takes : goal.returns-in-Err-BadRecord-clause-takes
returns-in-Err-BadRecord-clause-takes c = λ payloads was.
    no_record_taken (Unit {0}) (hash_numbers c.args.self.now.hash_keys) c.args.self.now.marks.items payloads c.args.payload.now c.args.self.now.last was c.records.result c.records.ensures (c.in-Err-BadRecord.ensures.none (search c.in-Err-BadRecord.field-0-is))

pub returns-in-Err-NoMemory-clause-takes : goal.returns-in-Err-NoMemory-clause-takes
returns-in-Err-NoMemory-clause-takes c = λ payloads was. (inl (c.in-Err-NoMemory.ensures.memory (search c.in-Err-NoMemory.field-0-is)), was)
