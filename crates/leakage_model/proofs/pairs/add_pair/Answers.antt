use Rattle.std.proofs.Common.{◌≡◌, ◌++◌, ◌∷◌, [], Ok, Err, false, sym, ap, ◌∙◌}
use Rattle.std.specs.Prelude.{Result, OnErr, if◌then◌else◌}
use Rattle.client_registry.specs.IdNumber.{id_number}
use Rattle.leakage_frames.specs.Views.{origin_view}
use Rattle.leakage_model.proofs.PairEntries.{pairs-new, sent-absent}
use Rattle.leakage_model.specs.Pairs.{pair_with, pairs_in}
use Rattle.leakage_model.specs.WordFacts.{lists, new_pair, sent_among}
use Rattle.leakage_model.proofs.pairs.add_pair.Goals as goal

pub returns-clause-ok : goal.returns-clause-ok
returns-clause-ok c =
    let id = id_number c.args.id in
    let there = origin_view c.args.there in
    let old = pairs_in c.args.pairs.now.entries in
    let none : lists id old ≡ false = sym c.send_number.ensures.found ∙ c.if-send_number.false in
    let kept : pairs_in c.send_number.new.pairs.entries ≡ old = c.send_number.ensures.sent ∙ sent-absent id there false old none in
    ap pairs_in c.in_ok-insert.ensures.entries
    ∙ pairs-new c.send_number.new.pairs.entries c.args.id c.listed_pair.result (ap (lists id) kept ∙ none)
    ∙ (λ i. kept i ++ pair_with id (c.listed_pair.ensures i) ∷ [])
    ∙ ap (λ b. if b then sent_among id there false old else old ++ new_pair id there ∷ []) (sym none)

pub returns-in_err-insert-clause-err : goal.returns-in_err-insert-clause-err
returns-in_err-insert-clause-err c =
    let id = id_number c.args.id in
    let old = pairs_in c.args.pairs.now.entries in
    let none : lists id old ≡ false = sym c.send_number.ensures.found ∙ c.if-send_number.false in
    let kept : pairs_in c.send_number.new.pairs.entries ≡ old = c.send_number.ensures.sent ∙ sent-absent id (origin_view c.args.there) false old none in
    of_err c.from_residual.result (ap pairs_in c.in_err-insert.ensures.err ∙ kept)
  where
    of_err : {T E P : Type 0} (r : Result T E) → P → OnErr r P
    of_err (Ok v) p = tt
    of_err (Err v) p = p
