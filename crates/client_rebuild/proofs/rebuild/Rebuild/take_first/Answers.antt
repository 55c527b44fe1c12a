use Rattle.std.proofs.Common.{◌≡◌, rules, Err}
use Rattle.client_registry.specs.HashNumbers.{hash_numbers}
use Rattle.client_records.specs.RecordView.{record_text}
use Rattle.client_rebuild.proofs.RebuildLaws.{refused_at, taken_at, unmarked_at}
use Rattle.client_rebuild.proofs.rebuild.Rebuild.take_first.Goals as goal

pub returns-in_err-mark-clause-taken : goal.returns-in_err-mark-clause-taken
returns-in_err-mark-clause-taken c =
    λ payloads payload was none is has.
    let keys = hash_numbers c.args.self.now.hash_keys in
    let result : c.from_residual.result ≡ Err c.in_err-mark.field-0.0 = search rules in
    refused_at keys payloads payload (record_text c.args.next) is c.args.self.now.marks.items c.args.self.now.last none was c.from_residual.result c.in_err-mark.field-0.0 result
    (c.in_err-mark.ensures keys has)

pub returns-in-Ok-clause-taken : goal.returns-in-Ok-clause-taken
returns-in-Ok-clause-taken c =
    λ payloads payload was none is has.
    let keys = hash_numbers c.args.self.now.hash_keys in
    taken_at keys payloads payload (record_text c.args.next) is c.args.self.now.marks.items c.args.self.now.last none was c.in_ok-mark.mark c.in_ok-mark.first c.push.new.self.items c.replace.new.dest
    c.replace.ensures.after c.in-Ok.ensures.items (c.in_ok-mark.ensures keys has)

pub returns-in-Err-clause-taken : goal.returns-in-Err-clause-taken
returns-in-Err-clause-taken c =
    λ payloads payload was none is has.
    let keys = hash_numbers c.args.self.now.hash_keys in
    unmarked_at keys payloads payload (record_text c.args.next) is c.args.self.now.marks.items c.args.self.now.last none was (Unit {0}) c.in_ok-mark.mark c.in_ok-mark.first c.push.new.self.items
    c.in-Err.ensures.items (c.in_ok-mark.ensures keys has)
