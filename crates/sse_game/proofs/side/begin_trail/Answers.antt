use Rattle.std.proofs.Common.{List, [], length, sym, ap, subst, ◌∙◌, arith}
use Rattle.client_registry.proofs.HistoryLaws.{IsHistory-last}
use Rattle.client_registry.specs.Acceptance.{size_refusal}
use Rattle.client_registry.specs.Command.{Command}
use Rattle.client_registry.specs.Epochs.{begins}
use Rattle.client_registry.specs.Run.{Run, last_run}
use Rattle.client_registry.specs.Setup.{Setup}
use Rattle.leakage_model.specs.TrailFacts.{Follows}
use Rattle.sse_game.specs.Side.{epochs_at}
use Rattle.sse_game.proofs.side.begin_trail.Goals as goal

pub begin_at-requires-clause-sized : goal.begin_at-requires-clause-sized
begin_at-requires-clause-sized c =
    ap (λ (r : Run). size_refusal r.setup) c.last.ensures.run ∙ (IsHistory-last (epochs_at c.args.side.now) c.requires.numbered.kept.0).setup

pub returns-clause-side : goal.returns-clause-side
returns-clause-side c =
    let es = epochs_at c.args.side.now in
    record {
      numbers = record {
        commands = c.requires.numbered.commands;
        frames = c.requires.numbered.frames;
        whole = c.requires.numbered.whole;
        kept = c.requires.numbered.kept;
      };
      trail =
          subst (λ (cs : List Command). Follows c.in_ok-side.field-0 (begins es) (last_run es).setup cs) (sym c.requires.alone)
          (subst (λ (s : Setup). Follows c.in_ok-side.field-0 (begins es) s []) (ap (λ (r : Run). r.setup) c.last.ensures.run)
          (c.in_ok-side.ensures.follows (begins es) (omega (arith, c.requires.numbered.commands, ap length c.requires.alone))));
    }
