use Rattle.std.proofs.Common.{◌≡◌, ◌<◌, ◌++◌, [], get_or, length, map, sym, ap, ◌∙◌, arith}
use Rattle.std.specs.List.{range_with_len}
use Rattle.std.proofs.lemmas.List.{get_or-map}
use Rattle.std.proofs.lemmas.Option.{get_or_from_slice_get}
use Rattle.client_registry.specs.Documents.{ids_with, list_lengths, words_of}
use Rattle.client_registry.specs.Setup.{setup_with}
use Rattle.client_registry.specs.WordBytes.{word_bytes}
use Rattle.two_level.specs.Plan.{plan, block_count}
use Rattle.leakage_values.proofs.More.{more-pieces}
use Rattle.leakage_values.specs.Numbered.{number_of_word}
use Rattle.leakage_values.specs.SetupDrawings.{block_by_number}
use Rattle.sse_model.specs.Positions.{word_blocks}
use Rattle.leakage_values.proofs.setup.push_blocks.Goals as goal

pub loop-w-preserved : goal.loop-w-preserved
loop-w-preserved c pad =
    let docs = c.args.docs.now.documents in
    let ws = words_of docs in
    let w = c.loop-w.w in
    let within : w < length ws = omega (arith, c.words-w-end.ensures.words, c.loop-w-test.true) in
    let word : get_or ws w [] ≡ word_bytes c.word.result.now = get_or_from_slice_get ws w (word_bytes c.word.result.now) [] c.word.ensures in
    let n : c.list_len.result ≡ length (ids_with docs (get_or ws w [])) =
    sym (get_or_from_slice_get (list_lengths docs) w c.list_len.result 0 c.list_len.ensures.length) ∙ get_or-map (λ v. length (ids_with docs v)) ws w [] 0 within in
    more-pieces (λ v. map (block_by_number c.args.epoch (number_of_word c.args.words.now v)) (range_with_len 0 (word_blocks (setup_with docs c.args.shape.b c.args.shape.big pad) v))) ws w [] c.args.drawings.now c.loop-w.drawings c.push_blocks_of.new.drawings
    within (c.loop-w.invariant pad)
    (c.in_ok-push_blocks_of.ensures
    ∙ (λ i. c.loop-w.drawings ++ map (block_by_number c.args.epoch ((c.number_of.ensures ∙ ap (number_of_word c.args.words.now) (sym word)) i)) (range_with_len 0 ((c.blocks_in-count.ensures ∙ ap (λ k. block_count (plan c.args.shape k)) n) i))))
