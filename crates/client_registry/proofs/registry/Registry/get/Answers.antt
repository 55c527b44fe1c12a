use Rattle.std.proofs.Common.{◌≡◌, ◌≤◌, ◌<◌, None, Some, length, take, unwrap_or, sym, ap, subst, ◌∙◌, arith}
use Rattle.std.specs.Prelude.{All, option_map}
use Rattle.std.proofs.lemmas.List.{length-take-le}
use Rattle.std.proofs.lemmas.List.Elements.{All-take}
use Rattle.client_registry.specs.DocumentRule.{IsDocument}
use Rattle.client_registry.specs.IdNumber.{id_number}
use Rattle.client_registry.specs.Numbered.{words_by_number}
use Rattle.client_registry.specs.Registered.{facts, known_words}
use Rattle.client_registry.specs.RegistryView.{registered_of, IsKept}
use Rattle.client_registry.specs.WordTable.{table_words}
use Rattle.client_registry.proofs.RegistryLaws.{entry_found, kept_as, known_table, live_found}
use Rattle.client_registry.proofs.registry.Registry.get.Goals as goal

pub returns-in_err-listed-clause-live : goal.returns-in_err-listed-clause-live
returns-in_err-listed-clause-live c =
    ap (option_map (λ doc. words_by_number (known_words c.args.self.now) doc.numbers.now)) c.from_residual.ensures
    ∙ sym (live_found c.self.inside (id_number c.args.id) None c.in_err-listed.ensures.value)
    ∙ ap (λ v. (facts v).live (id_number c.args.id)) c.self.view_is

pub returns-in_err-live-clause-live : goal.returns-in_err-live-clause-live
returns-in_err-live-clause-live c =
    let known = known_words (registered_of c.self.inside) in
    let listed = c.in_ok-listed.listed.now in
    ap (option_map (λ doc. words_by_number (known_words c.args.self.now) doc.numbers.now)) c.from_residual-in_err-live.ensures
    ∙ sym (ap (option_map (λ n. words_by_number known (take n listed.numbers.items))) c.in_err-live.was)
    ∙ sym (live_found c.self.inside (id_number c.args.id) (Some listed) c.in_ok-listed.ensures.value)
    ∙ ap (λ v. (facts v).live (id_number c.args.id)) c.self.view_is

-- what is kept of the identifier
kept : (c : goal.After-deref) → IsKept (table_words c.self.inside.words.entries) (kept_as (id_number c.args.id) c.in_ok-listed.listed.now)
kept c = entry_found (IsKept (table_words c.self.inside.words.entries)) (id_number c.args.id) c.self.inside.documents.entries c.in_ok-listed.listed.now c.self.invariant.kept (sym c.in_ok-listed.ensures.value)

within : (c : goal.After-deref) → c.in_ok-live.live ≤ length c.deref.result.now
within c = omega (arith, (kept c).within, ap (λ o. unwrap_or o 0) c.in_ok-live.was, ap length c.deref.ensures.value)

pub slice_bounds-result-end : goal.slice_bounds-result-end
slice_bounds-result-end c = sym (length-take-le c.in_ok-live.live c.deref.result.now (within c))

pub returns-clause-live : goal.returns-clause-live
returns-clause-live c =
    let known = known_words (registered_of c.self.inside) in
    let listed = c.in_ok-listed.listed.now in
    ap (λ v. Some (words_by_number (known_words v) (take c.in_ok-live.live c.deref.result.now))) (sym c.self.view_is)
    ∙ ap (λ ns. Some (words_by_number known (take c.in_ok-live.live ns))) c.deref.ensures.value
    ∙ sym (ap (option_map (λ n. words_by_number known (take n listed.numbers.items))) c.in_ok-live.was)
    ∙ sym (live_found c.self.inside (id_number c.args.id) (Some listed) c.in_ok-listed.ensures.value)
    ∙ ap (λ v. (facts v).live (id_number c.args.id)) c.self.view_is

pub returns-clause-numbered : goal.returns-clause-numbered
returns-clause-numbered c =
    let table = table_words c.self.inside.words.entries in
    let same : table ≡ known_words c.args.self.now = sym (known_table c.self.inside) ∙ ap known_words c.self.view_is in
    let all = subst (All (λ n. n < length table)) (sym c.deref.ensures.value) (kept c).numbered in
    subst (λ ws. All (λ n. n < length ws) (take c.in_ok-live.live c.deref.result.now)) same (All-take (λ n. n < length table) c.in_ok-live.live c.deref.result.now all)

pub returns-clause-valid : goal.returns-clause-valid
returns-clause-valid c =
    let table = table_words c.self.inside.words.entries in
    let same : table ≡ known_words c.args.self.now = sym (known_table c.self.inside) ∙ ap known_words c.self.view_is in
    subst IsDocument
    (ap (λ ws. record { id = id_number c.args.id; words = words_by_number ws (take c.in_ok-live.live c.in_ok-listed.listed.now.numbers.items) }) same
    ∙ ap (λ ns. record { id = id_number c.args.id; words = words_by_number (known_words c.args.self.now) (take c.in_ok-live.live ns) }) (sym c.deref.ensures.value))
    ((kept c).valid c.in_ok-live.live c.in_ok-live.was)
