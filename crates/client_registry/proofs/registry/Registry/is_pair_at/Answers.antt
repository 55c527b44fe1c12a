use Rattle.std.proofs.Common.{◌≡◌, ◌<◌, [], None, Some, length, get_or, nat_eq, false, Option, sym, ap, subst, ◌∙◌, arith}
use Rattle.std.specs.Prelude.{All, option_and_then, option_map, slice_get}
use Rattle.std.specs.List.{list_any, IsDistinct}
use Rattle.std.specs.Map.Iter.{deref_pair}
use Rattle.std.specs.Option.{option_map_or}
use Rattle.std.specs.Str.{bytes_eq}
use Rattle.std.proofs.lemmas.Option.{get_or_from_slice_get, slice_get-map, slice_get_within}
use Rattle.client_registry.specs.IdNumber.{id_number}
use Rattle.client_registry.specs.Numbered.{words_by_number}
use Rattle.client_registry.specs.Registered.{kept_of, known_words, Kept}
use Rattle.client_registry.specs.RegistryView.{kept_entry, registered_of, IsKept}
use Rattle.client_registry.specs.WordTable.{table_words}
use Rattle.client_registry.proofs.Positions.{found_at_place}
use Rattle.client_registry.proofs.RegistryLaws.{known_table, number_among}
use Rattle.client_registry.proofs.registry.Registry.is_pair_at.Goals as goal

-- the entry at the place, as it stands in the table
there : (c : goal.After-unwrap) → slice_get c.self.inside.documents.entries c.in-Some.place ≡ Some (deref_pair c.unwrap.result)
there c = sym c.get_index.ensures.entry ∙ ap (option_map deref_pair) c.unwrap.ensures

sound : (c : goal.After-unwrap) → IsKept (table_words c.self.inside.words.entries) (kept_entry (deref_pair c.unwrap.result))
sound c =
    let es = c.self.inside.documents.entries in
    let e = deref_pair c.unwrap.result in
    subst (λ x. IsKept (table_words c.self.inside.words.entries) (kept_entry x)) (get_or_from_slice_get es c.in-Some.place e e (there c))
    (c.self.invariant.kept c.in-Some.place e (slice_get_within es c.in-Some.place e (there c)))

pub has-requires-clause-within : goal.has-requires-clause-within
has-requires-clause-within c = omega (arith, (sound c).within, c.unwrap.result.1.now.numbers.ok.0)

pub has-requires-clause-in_order : goal.has-requires-clause-in_order
has-requires-clause-in_order c = (sound c).in_order

pub returns-in-Some : goal.returns-in-Some
returns-in-Some c =
    let id = id_number c.args._id in
    let n = c.args.number in
    let es = c.self.inside.documents.entries in
    let listed = c.unwrap.result.1.now in
    let known = known_words (registered_of c.self.inside) in
    let within : n < length known = omega (arith, c.requires.number, ap (λ v. length (known_words v)) c.self.view_is) in
    let differ = subst (IsDistinct bytes_eq) (sym (known_table c.self.inside)) c.self.invariant.words_differ in
    let numbered = subst (λ ws. All (λ m. m < length ws) listed.numbers.items) (sym (known_table c.self.inside)) (sound c.before).numbered in
    let kept = c.args.self.now.kept in
    let at : slice_get kept c.in-Some.place ≡ Some (kept_entry (deref_pair c.unwrap.result)) =
    ap (λ v. slice_get v.kept c.in-Some.place) (sym c.self.view_is) ∙ slice_get-map kept_entry es c.in-Some.place ∙ ap (option_map kept_entry) (there c.before) in
    let found : kept_of c.args.self.now id ≡ Some (kept_entry (deref_pair c.unwrap.result)) =
    found_at_place (λ (k : Kept). nat_eq id k.id) kept ∙ ap (option_and_then (slice_get kept)) (sym c.requires.entry ∙ c.in-Some.is) ∙ at in
    let told = λ (o : Option Kept). option_map_or (λ (k : Kept). list_any (bytes_eq (get_or (known_words c.args.self.now) n [])) (words_by_number (known_words c.args.self.now) k.numbers)) o false in
    c.has.ensures
    ∙ number_among known differ n within listed.numbers.items numbered
    ∙ ap (λ ks. list_any (bytes_eq (get_or ks n [])) (words_by_number ks listed.numbers.items)) (ap known_words c.self.view_is)
    ∙ sym (ap told found)

pub returns-in-None : goal.returns-in-None
returns-in-None c =
    let id = id_number c.args._id in
    let kept = c.args.self.now.kept in
    let found : kept_of c.args.self.now id ≡ None =
    found_at_place (λ (k : Kept). nat_eq id k.id) kept ∙ ap (option_and_then (slice_get kept)) (sym c.requires.entry ∙ c.in-None.is) in
    sym (ap (λ o. option_map_or (λ (k : Kept). list_any (bytes_eq (get_or (known_words c.args.self.now) c.args.number [])) (words_by_number (known_words c.args.self.now) k.numbers)) o false) found)
