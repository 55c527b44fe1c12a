use Rattle.std.proofs.Common.{◌≡◌, None, rules, Some, sym, subst, ◌∙◌}
use Rattle.client_registry.specs.HashNumbers.{hash_numbers}
use Rattle.client_records.specs.RecordView.{record_text}
use Rattle.client_rebuild.proofs.RebuildLaws.{later_taken}
use Rattle.client_rebuild.specs.Rebuilds.{IsTaken, Takes}
use Rattle.client_rebuild.proofs.rebuild.Rebuild.take_said.Goals as goal

pub returns-in-None-clause-taken : goal.returns-in-None-clause-taken
returns-in-None-clause-taken c =
    λ payloads payload was is has.
    let keys = hash_numbers c.args.self.now.hash_keys in
    let none : c.args.self.now.last ≡ None = search rules in
    c.take_first.ensures.taken payloads payload (subst (IsTaken keys c.args.self.now.marks.items payloads) (none ∙ sym c.replace.ensures.after) was) c.replace.ensures.after is has

pub returns-in-Some-clause-taken : goal.returns-in-Some-clause-taken
returns-in-Some-clause-taken c =
    λ payloads payload was is has.
    let keys = hash_numbers c.args.self.now.hash_keys in
    let some : c.args.self.now.last ≡ Some c.in-Some.last = search rules in
    subst (λ last. Takes keys payloads payload c.take_later-last.new.marks.items last c.take_later-last.result.1) (sym c.replace-in-Some.ensures.after)
    (later_taken keys payloads payload (record_text c.args.next) is c.args.self.now.marks.items c.in-Some.last (subst (IsTaken keys c.args.self.now.marks.items payloads) some was)
    c.take_later-last.result.0 c.take_later-last.new.marks.items c.take_later-last.result.1 c.take_later-last.ensures)
