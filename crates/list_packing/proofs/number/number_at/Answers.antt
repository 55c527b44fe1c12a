use Rattle.std.proofs.Common.{◌*◌, take, sym, ap, ◌∙◌}
use Rattle.std.specs.Int.{w64, from_be_bytes}
use Rattle.std.proofs.lemmas.List.{take_rest}
use Rattle.list_packing.proofs.NumbersLemmas.{numbers_of-at}
use Rattle.list_packing.proofs.number.number_at.Goals as goal

pub returns : goal.returns
returns c =
    let numbers = c.args.numbers.now in
    c.from_be_bytes.ensures
    ∙ ap (from_be_bytes w64) (c.in-Some.ensures.cases.same ∙ ap (take 8) (take_rest numbers (8 * c.args.i)))
    ∙ sym (numbers_of-at numbers c.args.i c.requires)
