use Rattle.std.proofs.Common.{◌≡◌, ◌+◌, Some, true, length, take, ap, sym, ◌∙◌, arith, below_more}
use Rattle.std.specs.Prelude.{is_none, sum_by}
use Rattle.std.proofs.lemmas.List.{length-map}
use Rattle.std.proofs.lemmas.List.Sums.{sum_by_more}
use Rattle.std.proofs.lemmas.Option.{get_or_from_slice_get, slice_get_within}
use Rattle.two_level.specs.Plan.{plan, block_count}
use Rattle.client_registry.specs.Documents.{list_lengths, ids_with, words_of}
use Rattle.client_registry.specs.Setup.{setup_of}
use Rattle.client_registry.proofs.AcceptanceLaws.{list_refusal-none, list_refusal-at, is_planned, is_unplanned}
use Rattle.client_registry.proofs.size.count_blocks.Goals as goal
use Rattle.client_registry.specs.declared.faults.SizeFault.TheVariants.{ListTooLong}

pub returns-in_default-clause-too_long : goal.returns-in_default-clause-too_long
returns-in_default-clause-too_long c =
    let docs = c.args.docs.now.documents in
    let w = c.loop-word.word in
    let n = c.list_len-n.result in
    let o = plan c.args.shape n in
    let long : is_none o ≡ true = is_unplanned o (sym c.in_default.ensures.planned) in
    list_refusal-at (setup_of docs c.args.shape.b c.args.shape.big) w n c.list_len-n.ensures.length c.loop-word.invariant.short long ∙ ap (λ m. Some (ListTooLong w m)) (sym c.from.ensures)

pub loop-word-preserved : goal.loop-word-preserved
loop-word-preserved c =
    let docs = c.args.docs.now.documents in
    let lens = list_lengths docs in
    let w = c.loop-word.word in
    let n = c.list_len-n.result in
    let o = plan c.args.shape n in
    let planned = is_planned o c.in-Some.more (sym c.in-Some.ensures.planned) in
    let here = get_or_from_slice_get lens w n 0 c.list_len-n.ensures.length in
    let within = slice_get_within lens w n c.list_len-n.ensures.length in
    record {
      short = below_more _ _ c.loop-word.invariant.short (ap (λ m. is_none (plan c.args.shape m)) here ∙ planned.0);
      counted =
          ap (λ k. k + c.in-Some.more) c.loop-word.invariant.counted
          ∙ ap (λ k. sum_by (λ m. block_count (plan c.args.shape m)) (take w lens) + k) (sym planned.1 ∙ ap (λ m. block_count (plan c.args.shape m)) (sym here))
          ∙ sym (sum_by_more (λ m. block_count (plan c.args.shape m)) lens w 0 within);
      within = omega (arith, c.loop-word.invariant.within, c.in-Some.ensures.within, c.list_len-n.ensures.within, c.words-word-end.ensures.valid.documents);
    }

pub returns-clause-fit : goal.returns-clause-fit
returns-clause-fit c =
    let docs = c.args.docs.now.documents in
    let count : length (list_lengths docs) ≡ c.words-word-end.result = length-map (words_of docs) (λ v. length (ids_with docs v)) ∙ sym c.words-word-end.ensures.words in
    list_refusal-none (setup_of docs c.args.shape.b c.args.shape.big) (λ k lt. c.loop-word.invariant.short k (omega (arith, count, lt)))
