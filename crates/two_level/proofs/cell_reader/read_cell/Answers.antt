use Rattle.std.proofs.Common.{◌≡◌, drop, arith}
use Rattle.std.specs.Prelude.{slice_index}
use Rattle.std.proofs.lemmas.Grind.{common_steps}
use Rattle.list_packing.specs.Numbers.{numbers_of}
use Rattle.two_level.specs.Read.{cell_read}
use Rattle.two_level.proofs.FormLemmas.{cell_read-refused}
use Rattle.two_level.proofs.cell_reader.read_cell.Goals as goal

pub returns-in_err-count-clause-no_list : goal.returns-in_err-count-clause-no_list
returns-in_err-count-clause-no_list c =
    let e : c.from_residual.result ≡ cell_read c.args.blocks (slice_index c.args.clear.now 0) (numbers_of (drop 1 c.args.clear.now)) = grind (arith, common_steps) in
    cell_read-refused c.args.blocks c.args.clear.now c.from_residual.result (omega (arith, c.requires.numbers)) e
