use Rattle.std.proofs.Common.{◌≡◌, ◌++◌, ◌∷◌, [], None, Some, nat_eq, length, refl, sym, ap, ◌∙◌}
use Rattle.std.specs.Prelude.{is_some}
use Rattle.std.proofs.lemmas.Bool.{true≢false}
use Rattle.std.specs.Map.{lookup}
use Rattle.client_registry.specs.IdNumber.{id_number}
use Rattle.client_registry.specs.Registered.{facts, kept_of}
use Rattle.client_registry.specs.declared.listed.Listed.{Listed}
use Rattle.client_registry.proofs.EntryLaws.{facts-made, insert_entry-made, kept-made, sound-made}
use Rattle.client_registry.proofs.RegistryLaws.{kept_as, kept_found}
use Rattle.client_registry.proofs.registry.Registry.make_entry.Goals as goal

pub returns-in-Some-clause-entry : goal.returns-in-Some-clause-entry
returns-in-Some-clause-entry c =
    let id = id_number c.args.id in
    let listed = c.in-Some.listed.now in
    (kept_as id listed, ap (λ v. kept_of v id) (sym c.self.view_is) ∙ kept_found c.self.inside id (Some listed) c.in-Some.ensures.value, sym (c.len.ensures ∙ listed.numbers.ok.0))

pub returns-in_err-insert-clause-succeeds : goal.returns-in_err-insert-clause-succeeds
returns-in_err-insert-clause-succeeds c =
    λ there.
    let id = id_number c.args.id in
    absurd (true≢false (sym there ∙ ap is_some (ap (λ v. kept_of v id) (sym c.self.view_is) ∙ kept_found c.self.inside id None c.in_default.ensures.value)))

-- the new entry
abbrev empty : goal.Joined-branch-2 → Listed
empty c = record { numbers = c.new-numbers.result; live = None }

absent : (c : goal.Joined-branch-2) → lookup (λ k. nat_eq (id_number c.args.id) (id_number k)) c.self.inside.documents.entries ≡ None
absent c = sym c.in_default.ensures.value

entries : (c : goal.Joined-branch-2) → c.insert.new.self.entries ≡ c.self.inside.documents.entries ++ (c.args.id, empty c) ∷ []
entries c = c.in_ok-insert.ensures.entries ∙ insert_entry-made c.args.id (empty c) c.self.inside.documents.entries (absent c)

pub invariant_of-self-2 : goal.invariant_of-self-2
invariant_of-self-2 c = sound-made c.args.id (empty c) c.self.inside c.insert.new.self (entries c) refl c.new-numbers.ensures.items c.insert.ensures.hasher c.self.invariant

pub returns-clause-facts : goal.returns-clause-facts
returns-clause-facts c = facts-made c.args.id (empty c) c.self.inside c.insert.new.self (entries c) refl c.new-numbers.ensures.items ∙ ap facts c.self.view_is

pub returns-clause-entry : goal.returns-clause-entry
returns-clause-entry c =
    (kept_as (id_number c.args.id) (empty c), kept-made c.args.id (empty c) c.self.inside c.insert.new.self (entries c) refl c.new-numbers.ensures.items (absent c), ap length c.new-numbers.ensures.items)

pub returns-clause-stays : goal.returns-clause-stays
returns-clause-stays c =
    λ there.
    let id = id_number c.args.id in
    absurd (true≢false (sym there ∙ ap is_some (ap (λ v. kept_of v id) (sym c.self.view_is) ∙ kept_found c.self.inside id None c.in_default.ensures.value)))
