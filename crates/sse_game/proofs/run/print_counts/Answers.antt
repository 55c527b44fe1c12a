use Rattle.std.proofs.Common.{inr, ◌∙◌}
use Rattle.sse_game.proofs.RunLaws.{prints_short}
use Rattle.sse_game.specs.Runs.{shows}
use Rattle.sse_game.proofs.run.print_counts.Goals as goal

pub returns-in-Err : goal.returns-in-Err
returns-in-Err g c = record {
  prints = inr (prints_short c.in-Err.fault c.from.result _ _
      (shows (g.W.Sink.written c.args.sink.now) (g.W.Sink.faults c.args.sink.now) (g.W.Sink.shortages c.args.sink.now))
      (shows (g.W.Sink.written c.print_all.new.sink) (g.W.Sink.faults c.print_all.new.sink) (g.W.Sink.shortages c.print_all.new.sink))
      (shows (g.W.Sink.written c.finish_game.new.sink) (g.W.Sink.faults c.finish_game.new.sink) (g.W.Sink.shortages c.finish_game.new.sink))
      c.finish_game.result
      c.in-Err.ensures.front (c.as_bytes.ensures.value ∙ c.as_str.ensures.value ∙ c.game_line-line.ensures)
      c.in-Err.ensures.failed c.in-Err.ensures.shortage c.from.ensures (record { status_is = c.finish_game.ensures.status; line = c.finish_game.ensures.line }));
}
