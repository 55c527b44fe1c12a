use Rattle.std.proofs.Common.{rules, ◌++◌, ◌∷◌, [], sym, ap, ◌∙◌, refl}
use Rattle.std.proofs.lemmas.Option.{get_or_from_slice_get}
use Rattle.client_registry.specs.IdNumber.{id_number}
use Rattle.client_registry.specs.Registered.{known_words}
use Rattle.client_registry.specs.WordBytes.{word_bytes}
use Rattle.keyed_fn.specs.KeyedFn.{keyed_fn}
use Rattle.keyed_fn.specs.KeyFormulas.{part_key, revocation}
use Rattle.client_core.proofs.KeyLaws.{Keeps-revocation}
use Rattle.client_core.proofs.kept_keys.KeptKeys.push_number.Goals as goal

pub returns-clause-keeps : goal.returns-clause-keeps
returns-clause-keeps g c =
    rw (← c.self.view_is) (
    λ had.
    let f = keyed_fn g.K.Keyed.prf g.K.Keyed.pad in
    let table = known_words c.args.registry.now in
    let word = get_or_from_slice_get table c.args.number (word_bytes c.word.result.now) [] c.word.ensures in
    Keeps-revocation f c.args.master.now table _ _ c.args.number c.revocation_key-key.result
    (c.requires.within, c.revocation_key-key.ensures ∙ ap (part_key f c.args.master.now 5) (sym word)) c.in_ok-insert.ensures.updates.0 refl had
    )

pub returns-clause-number : goal.returns-clause-number
returns-clause-number g c =
    λ had.
    let f = keyed_fn g.K.Keyed.prf g.K.Keyed.pad in
    let table = known_words c.args.registry.now in
    let word = get_or_from_slice_get table c.args.number (word_bytes c.word.result.now) [] c.word.ensures in
    c.in_ok-push.ensures.ok
    ∙ ap (λ key. c.args.numbers.now ++ revocation f key (id_number c.args.id) ∷ []) (c.revocation_key-key.ensures ∙ ap (part_key f c.args.master.now 5) (sym word))

pub returns-in-Some-clause-number : goal.returns-in-Some-clause-number
returns-in-Some-clause-number g c = rw (← c.self.view_is) (search rules)
