use Rattle.client_registry.specs.HashNumbers.{hash_numbers}
use Rattle.client_rebuild.proofs.RebuildLaws.{rebuilds_with, takes_bad, takes_before, takes_memory, takes_nowhere, takes_opens, takes_taken}
use Rattle.client_rebuild.specs.Rebuilds.{Rebuilds}
use Rattle.client_rebuild.proofs.rebuild.Rebuild.take.Goals as goal

pub returns-clause-taken : goal.returns-clause-taken
returns-clause-taken c =
    λ payloads was.
    takes_taken (hash_numbers c.args.self.now.hash_keys) payloads c.args.payload.now c.take_next.new.self.marks.items c.take_next.new.self.last c.take_next.result (c.take_next.ensures.takes payloads was)
    (λ ps. Rebuilds ps c.take_next.new.self) (rebuilds_with c.args.self.now c.take_next.new.self c.take_next.ensures.hash_keys)

pub returns-clause-before : goal.returns-clause-before
returns-clause-before c =
    λ payloads was.
    takes_before (hash_numbers c.args.self.now.hash_keys) payloads c.args.payload.now c.take_next.new.self.marks.items c.take_next.new.self.last c.take_next.result (c.take_next.ensures.takes payloads was)
    (λ ps. Rebuilds ps c.take_next.new.self) (rebuilds_with c.args.self.now c.take_next.new.self c.take_next.ensures.hash_keys)

pub returns-clause-bad : goal.returns-clause-bad
returns-clause-bad c =
    λ payloads n was.
    takes_bad (hash_numbers c.args.self.now.hash_keys) payloads c.args.payload.now c.take_next.new.self.marks.items c.take_next.new.self.last c.take_next.result (c.take_next.ensures.takes payloads was)
    c.args.self.now.marks.items c.args.self.now.last was n

pub returns-clause-opens : goal.returns-clause-opens
returns-clause-opens c =
    λ payloads first es was.
    takes_opens (hash_numbers c.args.self.now.hash_keys) payloads c.args.payload.now c.take_next.new.self.marks.items c.take_next.new.self.last c.take_next.result (c.take_next.ensures.takes payloads was)
    first es

pub returns-clause-nowhere : goal.returns-clause-nowhere
returns-clause-nowhere c =
    λ payloads was.
    takes_nowhere (hash_numbers c.args.self.now.hash_keys) payloads c.args.payload.now c.take_next.new.self.marks.items c.take_next.new.self.last c.take_next.result (c.take_next.ensures.takes payloads was)

pub returns-clause-memory : goal.returns-clause-memory
returns-clause-memory c =
    λ payloads was.
    takes_memory (hash_numbers c.args.self.now.hash_keys) payloads c.args.payload.now c.take_next.new.self.marks.items c.take_next.new.self.last c.take_next.result (c.take_next.ensures.takes payloads was)
