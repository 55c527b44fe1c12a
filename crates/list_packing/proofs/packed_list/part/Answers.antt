use Rattle.std.proofs.Common.{◌*◌, ◌≤◌, arith, length, drop, sym, ◌∙◌, ap, take}
use Rattle.std.proofs.lemmas.List.{take_all, take_rest}
use Rattle.list_packing.proofs.PartsLemmas.{parts-at}
use Rattle.list_packing.proofs.packed_list.part.Goals as goal

-- the last part
pub returns-then-rest-width : goal.returns-then-rest-width
returns-then-rest-width g c =
    let list = c.args.list.now in
    let start = c.args.i * c.args.width in
    let rest = take_rest list start in
    let short : length (drop start list) ≤ c.args.width = omega (arith, ap length rest, c.if-rest-width.true) in
    rest ∙ sym (take_all c.args.width (drop start list) short) ∙ sym (parts-at c.args.width list c.args.i c.requires.within)

pub returns : goal.returns
returns g c =
    let list = c.args.list.now in
    let start = c.args.i * c.args.width in
    ap (take c.args.width) (take_rest list start) ∙ sym (parts-at c.args.width list c.args.i c.requires.within)
