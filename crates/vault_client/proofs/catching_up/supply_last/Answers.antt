use Rattle.std.proofs.Common.{ℕ, ◌+◌, sym, ap, ◌∙◌, subst}
use Rattle.keyed_fn.specs.KeyedFn.{keyed_fn}
use Rattle.vault_shelf.specs.CommandView.{command_view}
use Rattle.vault_shelf.specs.ShelfView.{Keeps}
use Rattle.vault_client.specs.CatchingUp.{elsewhere_than, left_by}
use Rattle.vault_client.proofs.CaughtUp.{found_elsewhere, supplied_again, supplied_none, unsupplied}
use Rattle.vault_client.proofs.LastCommands.{left_by-last}
use Rattle.vault_client.proofs.catching_up.supply_last.Goals as goal

pub returns-in_err-send_command-clause-supplies : goal.returns-in_err-send_command-clause-supplies
returns-in_err-send_command-clause-supplies g c before keeps =
    unsupplied (keyed_fn g.K.Keyed.prf g.K.Keyed.pad) c.args.tools.now.keys before (command_view c.args.command.now) c.requires.recorded c.args.shelf.now keeps c.args.next (c.if-next-low.true ∙ c.sent-low.ensures)
    _ _ c.from_residual.result c.in_err-send_command.field-0.0 c.from_residual.ensures.1 (c.in_err-send_command.ensures.sent (left_by before) keeps)

pub returns-then-next-low-clause-supplies : goal.returns-then-next-low-clause-supplies
returns-then-next-low-clause-supplies g c before keeps =
    supplied_again (keyed_fn g.K.Keyed.prf g.K.Keyed.pad) c.args.tools.now.keys before (command_view c.args.command.now) c.requires.recorded c.args.shelf.now keeps c.args.next (c.if-next-low.true ∙ c.sent-low.ensures)
    _ _ (c.in_ok-send_command.ensures.sent (left_by before) keeps)

pub returns-then-next-low-clause-keeps : goal.returns-then-next-low-clause-keeps
returns-then-next-low-clause-keeps g c before keeps = subst (Keeps c.carry.new.self) (sym (left_by-last before (command_view c.args.command.now))) (c.carry.ensures.keeps (left_by before) keeps)

pub returns-then-next-low-2-clause-supplies : goal.returns-then-next-low-2-clause-supplies
returns-then-next-low-2-clause-supplies g c before keeps =
    supplied_none (keyed_fn g.K.Keyed.prf g.K.Keyed.pad) c.args.tools.now.keys before (command_view c.args.command.now) c.requires.recorded c.args.shelf.now keeps c.args.next
    (c.if-next-low-2.true ∙ ap (λ (n : ℕ). n + 1) c.sent-low.ensures) _

pub returns-then-next-low-2-clause-keeps : goal.returns-then-next-low-2-clause-keeps
returns-then-next-low-2-clause-keeps g c before keeps =
    subst (Keeps c.carry-then-next-low-2.new.self) (sym (left_by-last before (command_view c.args.command.now))) (c.carry-then-next-low-2.ensures.keeps (left_by before) keeps)

pub returns-clause-supplies : goal.returns-clause-supplies
returns-clause-supplies g c before keeps =
    found_elsewhere (keyed_fn g.K.Keyed.prf g.K.Keyed.pad) c.args.tools.now.keys before (command_view c.args.command.now) c.requires.recorded c.args.shelf.now keeps c.args.next
    (λ e. c.if-next-low.false (e ∙ sym c.sent-low.ensures)) (λ e. c.if-next-low-2.false (e ∙ ap (λ (n : ℕ). n + 1) (sym c.sent-low.ensures))) _ c.elsewhere.result
    (c.elsewhere.ensures ∙ ap (λ (n : ℕ). elsewhere_than n (n + 1) c.args.next) c.sent-low.ensures)
