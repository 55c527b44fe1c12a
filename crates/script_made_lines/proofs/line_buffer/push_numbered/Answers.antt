use Rattle.std.proofs.Common.{◌≡◌, ◌≤◌, length, ap, arith}
use Rattle.std.specs.Fmt.{decimal}
use Rattle.std.proofs.lemmas.Fmt.{length-decimal-le}
use Rattle.script_made_lines.proofs.line_buffer.push_numbered.Goals as goal

pub returns-clause-three : goal.returns-clause-three
returns-clause-three c few =
    let digits : length c.format.result.now ≡ length (decimal c.args.n) = ap length c.format.ensures.text in
    let three : length (decimal c.args.n) ≤ 3 = length-decimal-le 3 c.args.n (omega arith) few (omega (arith, few)) in
    omega (arith, digits, three, c.push_str.ensures.len, c.push_str-2.ensures.len)
