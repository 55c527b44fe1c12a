use Rattle.std.proofs.Common.{◌≡◌, filter, take}
use Rattle.leakage_draws.specs.Sides.{is_sent}
use Rattle.leakage_draws.proofs.frames.sent_texts.Given as goal

abbrev pub invariant-loop-text : goal.invariant-loop-text
invariant-loop-text l = l.frames ≡ filter is_sent (take l.text-index l.passing)
