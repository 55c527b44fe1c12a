use Rattle.std.proofs.Common.{sym, ◌∙◌}
use Rattle.vault_shelf.specs.CommandView.{command_view}
use Rattle.vault_shelf.proofs.RebuildLaws.{opens_with, record_number, refused_with, takes_apart}
use Rattle.vault_shelf.proofs.rebuild.ShelfRebuild.take_read.Goals as goal

pub returns-then-is_some-clause-takes : goal.returns-then-is_some-clause-takes
returns-then-is_some-clause-takes c =
    λ payloads s.
    let was = c.args.self.now in (
      c.next_number.ensures ∙ record_number was.mark payloads was.shelf s,
      refused_with was.mark payloads was.shelf c.args.payload.now (command_view c.args.command.now) c.refusal.result s c.requires.recorded c.requires.record_is (sym c.is_some.ensures ∙ c.if-is_some.true) c.refusal.ensures.fault,
    )

pub returns-in-Ok-clause-takes : goal.returns-in-Ok-clause-takes
returns-in-Ok-clause-takes c =
    λ payloads s.
    let was = c.args.self.now in
    let now = c.keep_apart.new.self in
    takes_apart was.mark now.marked payloads was.shelf now.shelf c.args.payload.now now.last.items (command_view c.args.command.now) c.refusal.result s (c.keep_apart.ensures.marked ∙ c.requires.marked) c.in-Ok.ensures.last
    c.requires.recorded c.requires.record_is (sym c.is_some.ensures ∙ c.if-is_some.false) c.refusal.ensures.fault c.keep_apart.ensures.keeps

pub returns-in-Err-clause-takes : goal.returns-in-Err-clause-takes
returns-in-Err-clause-takes c =
    λ payloads s.
    let was = c.args.self.now in
    opens_with was.mark payloads was.shelf c.args.payload.now (command_view c.args.command.now) c.refusal.result s c.requires.recorded c.requires.record_is (sym c.is_some.ensures ∙ c.if-is_some.false) c.refusal.ensures.fault
