use Rattle.std.proofs.Common.{◌≡◌, map, subst, IfOk}
use Rattle.client_registry.specs.Run.{Offsets}
use Rattle.leakage_history.specs.HashedRun.{run_of}
use Rattle.leakage_values.specs.Numbered.{numbered_drawing}
use Rattle.def_leakage.specs.DrawnValues as model
use Rattle.leakage_values.proofs.draw_list.drawings.Goals as goal

pub returns : goal.returns
returns c =
    subst (λ ws. IfOk c.drawings_by_number.result (λ all. (o : Offsets) → o.epoch ≡ c.args.epoch → all ≡ map (map (numbered_drawing ws)) (model.drawings o (run_of c.args.history.now))))
    c.in_ok-words.ensures c.drawings_by_number.ensures
