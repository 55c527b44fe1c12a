use Rattle.std.proofs.Common.{rules, ◌≡◌, [], sym, ap, subst, ◌∙◌, refl}
use Rattle.std.specs.Prelude.{IfOk, slice_index_or}
use Rattle.std.proofs.lemmas.Option.{get_or_from_slice_get}
use Rattle.add_counters.specs.NewEntry.{entry_text, new_entry}
use Rattle.client_registry.specs.IdNumber.{id_number}
use Rattle.client_registry.specs.Registered.{known_words}
use Rattle.client_registry.specs.WordBytes.{word_bytes}
use Rattle.keyed_fn.specs.KeyedFn.{keyed_fn}
use Rattle.word_keys.specs.KeyPair.{plus_keys}
use Rattle.client_core.proofs.KeyLaws.{Keeps-plus}
use Rattle.client_core.proofs.kept_keys.KeptKeys.entry.Goals as goal

pub returns-clause-keeps : goal.returns-clause-keeps
returns-clause-keeps g c =
    rw (← c.self.view_is) (
    λ had.
    let f = keyed_fn g.K.Keyed.prf g.K.Keyed.pad in
    let table = known_words c.args.registry.now in
    let word = get_or_from_slice_get table c.args.number (word_bytes c.word.result.now) [] c.word.ensures in
    Keeps-plus f c.args.master.now table _ _ c.args.number c.plus_keys-keys.result
    (c.requires.within, c.plus_keys-keys.ensures ∙ ap (plus_keys f c.args.master.now) (sym word)) c.in_ok-insert.ensures.updates.0 refl had
    )

pub returns-clause-entry : goal.returns-clause-entry
returns-clause-entry g c =
    λ had.
    let f = keyed_fn g.K.Keyed.prf g.K.Keyed.pad in
    let table = known_words c.args.registry.now in
    let id = id_number c.args.id in
    let word = get_or_from_slice_get table c.args.number (word_bytes c.word.result.now) [] c.word.ensures in
    subst (λ r. IfOk r (λ entry. entry_text entry ≡ new_entry f c.plus_keys-keys.result c.counter_at-counter.result id)) c.unwrap-entry.ensures c.next_entry-2.ensures.entry
    ∙ ap (λ keys. new_entry f keys c.counter_at-counter.result id) (c.plus_keys-keys.ensures ∙ ap (plus_keys f c.args.master.now) (sym word))
    ∙ ap (λ n. new_entry f (plus_keys f c.args.master.now (slice_index_or table c.args.number [])) n id) c.counter_at-counter.ensures

pub returns-in-Some-clause-entry : goal.returns-in-Some-clause-entry
returns-in-Some-clause-entry g c = rw (← c.self.view_is) (search rules)
