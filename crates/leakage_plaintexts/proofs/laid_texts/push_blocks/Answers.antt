use Rattle.std.proofs.Common.{◌<◌, length, sym, ap, subst, refl, ◌∙◌, arith}
use Rattle.std.specs.Prelude.{IsSome}
use Rattle.client_registry.specs.Documents.{words_of}
use Rattle.two_level.specs.Plan.{plan, block_count}
use Rattle.index_setup.proofs.AcceptedLaws.{list_at, planned_at}
use Rattle.index_setup.specs.SizeOf.{setup_sized}
use Rattle.leakage_plaintexts.proofs.ListWalk.{Left-first, Left-more, blocks_left, blocks_more, ids_enough, no_blocks, ranks_enough, walked}
use Rattle.leakage_plaintexts.proofs.laid_texts.push_blocks.Goals as goal

pub loop-w-init : goal.loop-w-init
loop-w-init c = record {
  left = Left-first (setup_sized c.args.docs.now.documents c.args.size.now) c.args.ranks.now c.args.ids.now c.args.ranks.now c.requires.ids refl;
  texts = refl;
}

pub split_at-requires : goal.split_at-requires
split_at-requires c =
    let docs = c.args.docs.now.documents in
    let s = setup_sized docs c.args.size.now in
    let within : c.loop-w.w < length (words_of docs) = omega (arith, c.words-w-end.ensures.words, c.loop-w-test.true) in
    ids_enough s c.args.ranks.now c.requires.ranks c.loop-w.w within c.loop-w.ids.now c.loop-w.ranks.now c.loop-w.invariant.left
    c.list_len-n.result (list_at docs c.loop-w.w c.list_len-n.result within c.list_len-n.ensures.length)

pub blocks_in-requires-clause-planned : goal.blocks_in-requires-clause-planned
blocks_in-requires-clause-planned c =
    planned_at (setup_sized c.args.docs.now.documents c.args.size.now) c.loop-w.w c.list_len-n.result c.requires.size.accepted
    (omega (arith, c.words-w-end.ensures.words, c.loop-w-test.true)) c.list_len-n.ensures.length

pub split_at-requires-in-loop-w : goal.split_at-requires-in-loop-w
split_at-requires-in-loop-w c =
    let docs = c.args.docs.now.documents in
    let s = setup_sized docs c.args.size.now in
    let within : c.loop-w.w < length (words_of docs) = omega (arith, c.words-w-end.ensures.words, c.loop-w-test.true) in
    ranks_enough s c.args.ranks.now c.requires.ranks c.loop-w.w within c.loop-w.ids.now c.loop-w.ranks.now c.loop-w.invariant.left
    c.blocks_in.result (c.blocks_in.ensures ∙ ap (λ n. block_count (plan s.shape n)) (list_at docs c.loop-w.w c.list_len-n.result within c.list_len-n.ensures.length))

pub push_blocks_of-requires-clause-planned : goal.push_blocks_of-requires-clause-planned
push_blocks_of-requires-clause-planned c =
    subst (λ n. IsSome (plan c.args.size.now.shape n)) (sym c.split_at.ensures.front_len)
    (planned_at (setup_sized c.args.docs.now.documents c.args.size.now) c.loop-w.w c.list_len-n.result c.requires.size.accepted
    (omega (arith, c.words-w-end.ensures.words, c.loop-w-test.true)) c.list_len-n.ensures.length)

pub push_blocks_of-requires-clause-ranks : goal.push_blocks_of-requires-clause-ranks
push_blocks_of-requires-clause-ranks c =
    c.split_at-in-loop-w.ensures.front_len ∙ c.blocks_in.ensures ∙ ap (λ n. block_count (plan c.args.size.now.shape n)) (sym c.split_at.ensures.front_len)

pub loop-w-preserved : goal.loop-w-preserved
loop-w-preserved c =
    let docs = c.args.docs.now.documents in
    let s = setup_sized docs c.args.size.now in
    let all = c.args.ranks.now in
    let w = c.loop-w.w in
    let within : w < length (words_of docs) = omega (arith, c.words-w-end.ensures.words, c.loop-w-test.true) in
    let n_is = list_at docs w c.list_len-n.result within c.list_len-n.ensures.length in
    let count_is = c.blocks_in.ensures ∙ ap (λ n. block_count (plan s.shape n)) n_is in
    record {
      left = Left-more s all c.requires.ranks w within c.loop-w.ids.now c.loop-w.ranks.now c.loop-w.invariant.left c.list_len-n.result c.blocks_in.result n_is count_is
          c.split_at.result.0.now c.split_at-in-loop-w.result.0.now c.split_at.ensures.front c.split_at-in-loop-w.ensures.front
          c.split_at.result.1.now c.split_at-in-loop-w.result.1.now c.split_at.ensures.back c.split_at-in-loop-w.ensures.back;
      texts =
          blocks_more s all c.requires.ranks w within c.loop-w.ids.now c.loop-w.ranks.now c.loop-w.invariant.left c.list_len-n.result c.blocks_in.result n_is count_is
          c.split_at.result.0.now c.split_at-in-loop-w.result.0.now c.split_at.ensures.front c.split_at-in-loop-w.ensures.front
          c.loop-w.texts _ c.in_ok-push_blocks_of.ensures
          ∙ c.loop-w.invariant.texts;
    }

pub returns : goal.returns
returns c =
    let docs = c.args.docs.now.documents in
    let s = setup_sized docs c.args.size.now in
    let all = c.args.ranks.now in
    walked c.loop-w.texts (blocks_left s all c.loop-w.w) c.args.texts.now (blocks_left s all 0)
    (no_blocks s all c.loop-w.w (omega (arith, c.words-w-end.ensures.words, c.loop-w-test.false))) c.loop-w.invariant.texts

pub push_blocks_of-requires-clause-most : goal.push_blocks_of-requires-clause-most
push_blocks_of-requires-clause-most c =
    let docs = c.args.docs.now.documents in
    let s = setup_sized docs c.args.size.now in
    let within : c.loop-w.w < length (words_of docs) = omega (arith, c.words-w-end.ensures.words, c.loop-w-test.true) in
    omega (arith, c.split_at-in-loop-w.ensures.front_len)
