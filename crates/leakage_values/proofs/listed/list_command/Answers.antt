use Rattle.std.proofs.Common.{◌&&◌, not, [], ◌∷◌, ◌++◌, sym, subst, ◌∙◌}
use Rattle.std.specs.Prelude.{bytes_eq, if◌then◌else◌}
use Rattle.std.specs.List.{IsDistinct, list_any}
use Rattle.std.proofs.lemmas.List.{append-nil}
use Rattle.std.proofs.lemmas.Result.{on_ok_weaker}
use Rattle.client_registry.proofs.DistinctLaws.{IsDistinct-words}
use Rattle.client_registry.specs.Command.{Add, Delete, Search}
use Rattle.client_registry.specs.IdNumber.{id_number}
use Rattle.client_registry.specs.WordBytes.{word_bytes}
use Rattle.leakage_history.specs.Commands.{command_of}
use Rattle.leakage_values.proofs.ListedLaws.{lists-command}
use Rattle.leakage_values.specs.Listed.{Lists, ids_in}
use Rattle.leakage_values.proofs.listed.list_command.Goals as goal

pub list_addition-requires : goal.list_addition-requires
list_addition-requires c = subst (IsDistinct bytes_eq) (sym c.words.ensures.words) (IsDistinct-words _ c.words.ensures.valid.accepted)

pub returns-in-Add : goal.returns-in-Add
returns-in-Add c =
    let old = c.args.table.now.entries in
    let new = c.list_addition.new.table.entries in
    on_ok_weaker c.list_addition.result
    (λ lists s past tells had.
    subst (λ command. Lists new s (past ++ command_of command ∷ [])) (sym c.in-Add.is)
    (lists-command old new s past (Add c.in-Add.doc) had
    (λ w.
    lists w
    ∙ (λ i. ids_in old w ++ (if list_any (bytes_eq (word_bytes w)) (c.words.ensures.words i) && not ((tells i).listed (word_bytes w) (c.id.ensures i)) then c.id.ensures i ∷ [] else [])))))
    c.list_addition.ensures

pub returns-in-Delete : goal.returns-in-Delete
returns-in-Delete c s past tells had =
    let es = c.args.table.now.entries in
    subst (λ command. Lists es s (past ++ command_of command ∷ [])) (sym c.in-Delete.is)
    (lists-command es es s past (Delete (id_number c.in-Delete.field-0)) had (λ w. sym (append-nil (ids_in es w))))

pub returns-in-Search : goal.returns-in-Search
returns-in-Search c s past tells had =
    let es = c.args.table.now.entries in
    subst (λ command. Lists es s (past ++ command_of command ∷ [])) (sym c.in-Search.is)
    (lists-command es es s past (Search (word_bytes c.in-Search.field-0)) had (λ w. sym (append-nil (ids_in es w))))
