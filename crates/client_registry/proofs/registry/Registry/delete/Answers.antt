use Rattle.std.proofs.Common.{◌≡◌, Some, is_some, nat_eq, position, refl, sym, ap, ◌∙◌}
use Rattle.std.specs.Map.{keys_of, lookup}
use Rattle.indexmap.specs.IndexMap.{with_value_at}
use Rattle.client_registry.specs.Command.{Delete}
use Rattle.client_registry.specs.Facts.{facts_after}
use Rattle.client_registry.specs.IdNumber.{id_number}
use Rattle.client_registry.specs.Registered.{facts}
use Rattle.client_registry.specs.RegistryView.{IsKept}
use Rattle.client_registry.specs.WordTable.{table_words}
use Rattle.client_registry.proofs.EntryLaws.{facts-retired, All_replaced, IsKept-retired}
use Rattle.client_registry.proofs.FactsLaws.{facts-delete}
use Rattle.client_registry.proofs.RegistryLaws.{has_entry, kept_sound}
use Rattle.client_registry.proofs.registry.Registry.delete.Goals as goal

pub unwrap-place-requires : goal.unwrap-place-requires
unwrap-place-requires c =
    c.get_index_of.ensures.found
    ∙ has_entry c.self.inside (id_number c.args.id) (ap (λ v. is_some ((facts v).live (id_number c.args.id))) c.self.view_is ∙ sym c.is_live.ensures ∙ c.if-not-is_live.false)

place : (c : goal.After-self-1) → position (λ k. nat_eq (id_number c.args.id) (id_number k)) (keys_of c.self.inside.documents.entries) ≡ Some c.unwrap-place.result
place c = sym c.get_index_of.ensures.index ∙ c.unwrap-place.ensures

old : (c : goal.After-self-1) → Some c.index_mut.result.now ≡ lookup (λ k. nat_eq (id_number c.args.id) (id_number k)) c.self.inside.documents.entries
old c = sym c.index_mut.ensures.value ∙ rw c.unwrap-place.ensures at c.get_index_of.ensures.value

pub invariant_of-self : goal.invariant_of-self
invariant_of-self c =
    let had = c.self.invariant in
    let id = id_number c.args.id in
    let table = table_words c.self.inside.words.entries in
    let kept = kept_sound c.self.inside had id c.index_mut.result.now (old c) in
    record {
      words_differ = had.words_differ;
      kept = All_replaced (IsKept table) c.self.inside.documents.entries id c.unwrap-place.result (place c) c.retire.new.self (IsKept-retired table id c.index_mut.result.now c.retire.new.self kept c.retire.ensures.live c.retire.ensures.numbers c.retire.ensures.in_order) had.kept;
      few = had.few;
      next = had.next;
      again = had.again;
      hashers = had.hashers;
      bound = had.bound;
    }

pub returns-clause-ok : goal.returns-clause-ok
returns-clause-ok c =
    facts-retired c.self.inside (with_value_at c.self.inside.documents c.unwrap-place.result c.retire.new.self) (id_number c.args.id) c.unwrap-place.result c.index_mut.result.now c.retire.new.self
    (place c) refl (old c) c.retire.ensures.live c.retire.ensures.numbers
    ∙ ap (λ v. facts_after (facts v) (Delete (id_number c.args.id))) c.self.view_is

pub returns-clause-history : goal.returns-clause-history
returns-clause-history c = λ s past stands. returns-clause-ok c ∙ ap (λ f. facts_after f (Delete (id_number c.args.id))) stands ∙ facts-delete s past (id_number c.args.id)
