use Rattle.std.proofs.Common.{drop, map, ap, subst, ◌∙◌}
use Rattle.std.specs.Prelude.{string_bytes}
use Rattle.script_game.specs.GameWords.{game_of}
use Rattle.sse_game.proofs.RunLaws.{RunsProgram-words}
use Rattle.sse_game.specs.Runs.{RunsDuel, shows}
use Rattle.sse_game.proofs.run.run_program.Goals as goal

pub returns-in-Words : goal.returns-in-Words
returns-in-Words g c = record {
  runs =
      let old = shows (g.W.Sink.written c.args.sink.now) (g.W.Sink.faults c.args.sink.now) (g.W.Sink.shortages c.args.sink.now) in
      let new = shows (g.W.Sink.written c.duel_run.new.sink) (g.W.Sink.faults c.duel_run.new.sink) (g.W.Sink.shortages c.duel_run.new.sink) in
      RunsProgram-words _ c.args.given.now _ old new c.duel_run.result c.in-Words.is
      (subst (λ words. RunsDuel _ (game_of (map (λ word. string_bytes word) words)) old new c.duel_run.result) (c.behind_name.ensures ∙ ap (drop 1) c.deref.ensures.value) c.duel_run.ensures.runs);
}
