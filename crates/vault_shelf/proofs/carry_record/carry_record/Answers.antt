use Rattle.std.proofs.Common.{◌≡◌, ◌∷◌, [], sym, ap, ◌∙◌, subst}
use Rattle.vault_shelf.proofs.Fronts.{shelf_of-append}
use Rattle.vault_shelf.specs.Shelves.{empty_shelf, shelf_after, shelf_of}
use Rattle.vault_shelf.specs.CommandView.{command_view}
use Rattle.vault_shelf.specs.ShelfView.{Keeps}
use Rattle.vault_shelf.proofs.RecordGrammar.{one_command}
use Rattle.vault_shelf.proofs.carry_record.carry_record.Goals as goal

pub returns-in-Some-clause-keeps_apart : goal.returns-in-Some-clause-keeps_apart
returns-in-Some-clause-keeps_apart c =
    λ cs apart.
    let command = command_view c.in-Some.command in
    let same : command ≡ apart.command = one_command command apart.command c.in-Some.ensures.recorded apart.recorded (sym c.in-Some.ensures.found ∙ apart.last_is) in
    subst (Keeps c.carry.new.self)
    (ap (shelf_after (shelf_of empty_shelf apart.before)) same ∙ sym (shelf_of-append empty_shelf apart.before (apart.command ∷ [])) ∙ ap (shelf_of empty_shelf) (sym apart.are))
    (c.carry.ensures.keeps (shelf_of empty_shelf apart.before) apart.keeps)
