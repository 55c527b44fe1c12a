use Rattle.std.proofs.Common.{◌*◌, ◌-◌, ◌≤◌, length, sym, ap, arith, replicate, ◌++◌, ◌∙◌}
use Rattle.list_packing.specs.Numbers.{number_bytes}
use Rattle.list_packing.proofs.NumbersLemmas.{number_bytes-filled}
use Rattle.list_packing.proofs.PartsLemmas.{blocks-part, part-within}
use Rattle.list_packing.proofs.packed_list.pack.Goals as goal

-- a part is no longer than the width
pub write_numbers-requires : goal.write_numbers-requires
write_numbers-requires c =
    let short : length c.part.result.now ≤ c.args.width = part-within c.args.width c.args.numbers.now c.args.i c.part.result.now c.part.ensures in
    omega (arith, c.requires.size)

pub returns : goal.returns
returns c =
    let part = c.part.result.now in
    c.write_numbers.ensures
    ∙ ap (λ n. number_bytes part ++ replicate (n - 8 * length part) 0) c.requires.size
    ∙ sym (number_bytes-filled c.args.width part)
    ∙ ap number_bytes (sym (blocks-part c.args.width c.args.numbers.now c.args.i part c.requires.within c.part.ensures))
