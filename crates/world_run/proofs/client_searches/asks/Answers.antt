use Rattle.std.proofs.Common.{sym, ◌∙◌}
use Rattle.world_run.proofs.Asking.{asks_so}
use Rattle.world_run.proofs.client_searches.asks.Goals as goal

pub returns-in-Ok : goal.returns-in-Ok
returns-in-Ok c = record {
  asking = λ f first h phase is.
      asks_so f first h phase c.args.it c.asking.result c.args.word.now c.args.asked.now c.push.new.self is (sym c.is_free.ensures ∙ c.if-not-is_free.false) c.asking.ensures.state c.asking.ensures.same c.in-Ok.ensures.ok;
}
