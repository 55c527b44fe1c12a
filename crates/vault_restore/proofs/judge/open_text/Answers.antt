use Rattle.std.proofs.Common.{inl, ◌+◌, sym, ap, ◌∙◌}
use Rattle.vault_shelf.specs.OpenedView.{text_in}
use Rattle.vault_restore.specs.Slots.{Stops}
use Rattle.vault_restore.proofs.Judged.{too_long}
use Rattle.vault_restore.proofs.judge.open_text.Goals as goal

pub returns-in-TooLong : goal.returns-in-TooLong
returns-in-TooLong g c =
    inl
    (too_long (c.args.v + 1) c.args.bytes.now _ c.in_ok-open.field-0 (text_in c.open.new.self) (rw c.from.ensures at c.in_ok-open.ensures.fetched) c.in-TooLong.is ∙ ap Stops (sym c.bad.ensures))
