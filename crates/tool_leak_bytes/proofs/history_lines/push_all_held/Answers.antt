use Rattle.std.proofs.Common.{arith}
use Rattle.tool_leak_bytes.proofs.history_lines.push_all_held.Goals as goal

pub epoch-history-requires : goal.epoch-history-requires
epoch-history-requires c = omega (arith, c.loop-number-test.true, c.len-number-end.ensures.len)
