use Rattle.std.proofs.Common.{◌++◌, map, ap, ◌∙◌}
use Rattle.client_registry.specs.Run.{Run}
use Rattle.client_registry.specs.Sized.{run_words}
use Rattle.leakage_history.specs.HashedRun.{run_of}
use Rattle.def_leakage.specs.DrawnValues.{draws}
use Rattle.leakage_draws.proofs.SheetDraws.{draws-sheet}
use Rattle.leakage_draws.specs.Given.{sheet_table}
use Rattle.leakage_frames.specs.Views.{draw_view}
use Rattle.leakage_draws.proofs.drawn.draws.Goals as goal

pub returns-clause-own : goal.returns-clause-own
returns-clause-own c = λ o own.
    let run : Run = run_of c.args.history.now in
    c.in_ok-push_draws.ensures o own ∙ ap (λ front. map (map draw_view) front ++ draws (sheet_table c.args.sheet.now (run_words run)) o run) c.new-all.ensures

pub returns-clause-agreed : goal.returns-clause-agreed
returns-clause-agreed c = λ o own t is.
    let run : Run = run_of c.args.history.now in
    returns-clause-own c o own ∙ draws-sheet c.args.sheet.now (run_words run) o run t is
