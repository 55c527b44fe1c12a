use Rattle.std.proofs.Common.{◌≡◌, ◌++◌, ◌∷◌, [], Bool, true, false, not, ◌&&◌, is_some, sym, ap, subst, refl, ◌∙◌}
use Rattle.std.proofs.lemmas.Bool.{and_parts}
use Rattle.std.specs.Prelude.{OnOk}
use Rattle.client_registry.specs.Command.{Delete}
use Rattle.client_registry.specs.IdNumber.{id_number}
use Rattle.client_registry.proofs.RegistryLaws.{none_there}
use Rattle.client_registry.specs.Facts.{has_counters}
use Rattle.client_registry.specs.WordBytes.{word_bytes}
use Rattle.client_registry.specs.Registered.{Represents, facts}
use Rattle.leakage_history.specs.Commands.{command_of}
use Rattle.leakage_history.specs.Refusal.{is_accepted_by}
use Rattle.leakage_history.proofs.Refusals.{facts-search}
use Rattle.leakage_history.proofs.registration.register.Goals as goal

not_true : (b : Bool) → not b ≡ true → b ≡ false
not_true false h = refl
not_true true h = sym h

pub add_numbered-requires-clause-dead : goal.add_numbered-requires-clause-dead
add_numbered-requires-clause-dead c =
    let f = facts c.args.registry.now in
    let d = c.in-Add.doc in
    let accepted : (not (is_some (f.live d.id)) && has_counters f d) ≡ true = ap (λ command. is_accepted_by f (command_of command)) (sym c.in-Add.is) ∙ c.requires.accepted in
    ap (λ x. x.live d.id) c.reserve_numbered.ensures.facts ∙ none_there (f.live d.id) (not_true (is_some (f.live d.id)) (and_parts (not (is_some (f.live d.id))) (has_counters f d) accepted).0)

pub returns-in_ok-numbers-in-Add-clause-ok : goal.returns-in_ok-numbers-in-Add-clause-ok
returns-in_ok-numbers-in-Add-clause-ok c =
    λ s past stands.
    subst (λ command. Represents c.add_numbered.new.self s (past ++ command_of command ∷ [])) (sym c.in-Add.is) (c.add_numbered.ensures.history s past (c.reserve_numbered.ensures.facts ∙ stands))

pub returns-in-Search-clause-ok : goal.returns-in-Search-clause-ok
returns-in-Search-clause-ok c =
    λ s past stands.
    subst (λ command. Represents c.args.registry.now s (past ++ command_of command ∷ [])) (sym c.in-Search.is) (stands ∙ facts-search s past (word_bytes c.in-Search.field-0))

pub returns-in-Delete-clause-ok : goal.returns-in-Delete-clause-ok
returns-in-Delete-clause-ok c =
    λ s past stands.
    subst (λ command. Represents c.delete.new.self s (past ++ command_of command ∷ [])) (sym c.in-Delete.is)
    (subst (λ r. OnOk r (Represents c.delete.new.self s (past ++ Delete (id_number c.in-Delete.id) ∷ []))) c.unwrap.ensures (c.delete.ensures.history s past stands))
