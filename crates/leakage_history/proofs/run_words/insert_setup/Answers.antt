use Rattle.std.proofs.Common.{◌≤◌, [], length, take, map, sym, ap, ◌∙◌, arith}
use Rattle.std.proofs.lemmas.List.{append-nil, take_all}
use Rattle.client_registry.specs.Documents.{all_words, first_seen, words_of}
use Rattle.client_registry.specs.WordBytes.{word_bytes}
use Rattle.leakage_history.proofs.FirstSeen.{first_seen-again, inserted_after}
use Rattle.client_live_docs.proofs.Pushing.{take-one_more}
use Rattle.leakage_history.proofs.run_words.insert_setup.Goals as goal

pub loop-number-preserved : goal.loop-number-preserved
loop-number-preserved c =
    let words = words_of c.args.docs.now.documents in
    let n = c.loop-number.number in
    ap (map word_bytes) c.in_ok-insert.ensures.keys
    ∙ inserted_after c.loop-number.words.keys c.word.result.now (take n words) c.loop-number.invariant
    ∙ ap first_seen (sym (take-one_more words n (word_bytes c.word.result.now) c.word.ensures))

pub returns : goal.returns
returns c =
    let words = all_words c.args.docs.now.documents in
    let all : length (first_seen words) ≤ c.loop-number.number = omega (arith, c.words-number-end.ensures.words, c.loop-number-test.false) in
    c.loop-number.invariant
    ∙ ap first_seen (take_all c.loop-number.number (first_seen words) all ∙ sym (append-nil (first_seen words)))
    ∙ first_seen-again words []
    ∙ ap first_seen (append-nil words)
