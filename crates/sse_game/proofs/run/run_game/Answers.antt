use Rattle.std.proofs.Common.{inl}
use Rattle.sse_game.proofs.run.run_game.Goals as goal

pub returns-in-Ok : goal.returns-in-Ok
returns-in-Ok g c = record { runs = inl (record { commands = c.in-Ok.counts.commands; bytes = c.in-Ok.counts.bytes; duel = c.in-Ok.ensures.counts; prints = c.print_counts.ensures.prints }) }
