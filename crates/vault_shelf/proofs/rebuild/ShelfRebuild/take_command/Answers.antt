use Rattle.std.proofs.Common.{sym, ◌∙◌, subst}
use Rattle.vault_shelf.specs.Rebuilds.{IsSettled, Takes}
use Rattle.vault_shelf.proofs.RebuildLaws.{record_number, settled, taken_marked, unread_with}
use Rattle.vault_shelf.proofs.rebuild.ShelfRebuild.take_command.Goals as goal

pub returns-in-None-clause-takes : goal.returns-in-None-clause-takes
returns-in-None-clause-takes c =
    λ payloads taken.
    let was = c.args.self.now in
    let now = c.settle.new.self in
    let s : IsSettled was.mark payloads now.shelf = settled was.mark payloads was.shelf now.shelf was.last.items (taken_marked was.mark was.marked payloads was.shelf was.last.items c.requires taken) c.settle.ensures.keeps c.settle.ensures.keeps_apart in
    (c.next_number.ensures ∙ record_number was.mark payloads now.shelf s, unread_with was.mark payloads now.shelf c.args.payload.now s (sym c.in-None.ensures.command))

pub returns-in-Some-clause-takes : goal.returns-in-Some-clause-takes
returns-in-Some-clause-takes c =
    λ payloads taken.
    let was = c.args.self.now in
    let now = c.settle.new.self in
    let s : IsSettled was.mark payloads now.shelf = settled was.mark payloads was.shelf now.shelf was.last.items (taken_marked was.mark was.marked payloads was.shelf was.last.items c.requires taken) c.settle.ensures.keeps c.settle.ensures.keeps_apart in
    subst (λ m. Takes m payloads c.args.payload.now c.take_read.new.self.marked c.take_read.new.self.shelf c.take_read.new.self.last.items c.take_read.result) c.settle.ensures.mark
    (c.take_read.ensures.takes payloads (subst (λ m. IsSettled m payloads now.shelf) (sym c.settle.ensures.mark) s))
