use Rattle.std.proofs.Common.{◌≡◌, ◌++◌, [], get_or, map, sym, ap, ◌∙◌, arith}
use Rattle.std.proofs.lemmas.List.{take_all}
use Rattle.std.proofs.lemmas.Option.{get_or_from_slice_get}
use Rattle.client_registry.specs.Documents.{words_of}
use Rattle.client_registry.specs.WordBytes.{word_bytes}
use Rattle.leakage_values.proofs.More.{more-words}
use Rattle.leakage_values.specs.Numbered.{number_of_word}
use Rattle.leakage_values.specs.SetupDrawings.{entry_by_number}
use Rattle.leakage_values.proofs.setup.push_entries.Goals as goal

pub loop-w-preserved : goal.loop-w-preserved
loop-w-preserved c =
    let words = words_of c.args.docs.now.documents in
    let is : get_or words c.loop-w.w [] ≡ word_bytes c.word.result.now = get_or_from_slice_get words c.loop-w.w (word_bytes c.word.result.now) [] c.word.ensures in
    c.in_ok-push.ensures.ok
    ∙ more-words (λ word. entry_by_number c.args.epoch (number_of_word c.args.words.now word)) words c.loop-w.w c.args.drawings.now c.loop-w.drawings c.entry.result
    (omega (arith, c.words-w-end.ensures.words, c.loop-w-test.true)) c.loop-w.invariant
    (c.entry.ensures ∙ ap (entry_by_number c.args.epoch) (c.number_of.ensures ∙ ap (number_of_word c.args.words.now) (sym is)))

pub returns : goal.returns
returns c =
    let words = words_of c.args.docs.now.documents in
    c.loop-w.invariant
    ∙ ap (λ ws. c.args.drawings.now ++ map (λ word. entry_by_number c.args.epoch (number_of_word c.args.words.now word)) ws) (take_all c.loop-w.w words (omega (arith, c.words-w-end.ensures.words, c.loop-w-test.false)))
