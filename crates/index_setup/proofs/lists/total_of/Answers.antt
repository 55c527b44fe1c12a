use Rattle.std.proofs.Common.{◌<◌, ◌+◌, length, sym, ap, ◌∙◌, arith}
use Rattle.std.specs.Prelude.{sum}
use Rattle.std.proofs.lemmas.List.{take_all, length-map}
use Rattle.client_registry.specs.Documents.{ids_with, list_lengths, words_of}
use Rattle.index_setup.proofs.ListsWithin.{lists_within}
use Rattle.index_setup.proofs.FlatLists.{sum_lengths-more, sum_lengths-within}
use Rattle.index_setup.proofs.lists.total_of.Goals as goal

pub overflow_add-sum : goal.overflow_add-sum
overflow_add-sum c =
    let within : c.loop-w.w < length (words_of c.args.docs.now.documents) = omega (arith, c.words-w-end.ensures.words) in
    let most = sum_lengths-within c.args.docs.now.documents c.words-w-end.ensures.valid c.loop-w.w c.list_len.result within c.list_len.ensures.length in
    omega (arith, most, c.loop-w.invariant)

pub loop-w-preserved : goal.loop-w-preserved
loop-w-preserved c =
    let within : c.loop-w.w < length (words_of c.args.docs.now.documents) = omega (arith, c.words-w-end.ensures.words) in
    ap (λ k. k + c.list_len.result) c.loop-w.invariant
    ∙ sym (sum_lengths-more c.args.docs.now.documents c.words-w-end.ensures.valid c.loop-w.w c.list_len.result within c.list_len.ensures.length)

pub returns-clause-total : goal.returns-clause-total
returns-clause-total c =
    let lens = list_lengths c.args.docs.now.documents in
    c.loop-w.invariant
    ∙ ap sum (take_all c.loop-w.w lens (omega (arith, c.words-w-end.ensures.words, c.loop-w-test.false, length-map (words_of c.args.docs.now.documents) (λ word. length (ids_with c.args.docs.now.documents word)))))

pub returns-clause-most : goal.returns-clause-most
returns-clause-most c = omega (arith, returns-clause-total c, lists_within c.args.docs.now.documents c.words-w-end.ensures.valid)
