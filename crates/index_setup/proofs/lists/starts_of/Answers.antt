use Rattle.std.proofs.Common.{◌<◌, ◌+◌, ◌++◌, ◌∷◌, [], length, take, sym, ap, ◌∙◌, arith}
use Rattle.std.proofs.lemmas.List.{take_all, length-map}
use Rattle.client_registry.specs.Documents.{ids_with, list_lengths, words_of}
use Rattle.index_setup.specs.Lists.{starts_from}
use Rattle.index_setup.proofs.FlatLists.{sum_lengths-more, sum_lengths-within, starts_from-more}
use Rattle.index_setup.proofs.lists.starts_of.Goals as goal

pub overflow_add-start : goal.overflow_add-start
overflow_add-start c =
    let within : c.loop-w.w < length (words_of c.args.docs.now.documents) = omega (arith, c.words-w-end.ensures.words) in
    let most = sum_lengths-within c.args.docs.now.documents c.words-w-end.ensures.valid c.loop-w.w c.list_len-start.result within c.list_len-start.ensures.length in
    omega (arith, most, c.loop-w.invariant.start)

pub loop-w-preserved : goal.loop-w-preserved
loop-w-preserved c =
    let docs = c.args.docs.now.documents in
    let lens = list_lengths docs in
    let w = c.loop-w.w in
    let within : w < length (words_of docs) = omega (arith, c.words-w-end.ensures.words) in
    record {
      starts =
          c.in_ok-push.ensures.items
          ∙ ap (λ ks. ks ++ c.loop-w.start ∷ []) c.loop-w.invariant.starts
          ∙ ap (λ k. starts_from 0 (take w lens) ++ k ∷ []) c.loop-w.invariant.start
          ∙ sym (starts_from-more lens w (omega (arith, within, length-map (words_of docs) (λ word. length (ids_with docs word)))));
      start =
          ap (λ k. k + c.list_len-start.result) c.loop-w.invariant.start
          ∙ sym (sum_lengths-more docs c.words-w-end.ensures.valid w c.list_len-start.result within c.list_len-start.ensures.length);
    }

pub returns : goal.returns
returns c =
    let lens = list_lengths c.args.docs.now.documents in
    c.loop-w.invariant.starts
    ∙ ap (starts_from 0) (take_all c.loop-w.w lens (omega (arith, c.words-w-end.ensures.words, c.loop-w-test.false, length-map (words_of c.args.docs.now.documents) (λ word. length (ids_with c.args.docs.now.documents word)))))
