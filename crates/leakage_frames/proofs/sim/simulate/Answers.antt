use Rattle.std.proofs.Common.{◌≡◌, ℕ, List, map, sym, subst, ◌∙◌}
use Rattle.std.specs.Prelude.{◌↔◌}
use Rattle.leakage_frames.proofs.BadLaws.{fault_told, made_whole}
use Rattle.leakage_frames.specs.Steps.{IsFirstBad, bytes_simulated}
use Rattle.leakage_frames.specs.Views.{draw_view, leak_view}
use Rattle.leakage_frames.specs.declared.fault.SimFault.TheVariants.{BadLeak}
use Rattle.leakage_frames.specs.declared.leak.Leak as leaks
use Rattle.leakage_frames.specs.declared.leak.Draw as draws
use Rattle.leakage_frames.proofs.sim.simulate.Goals as goal

pub returns-in-Ok-clause-bad : goal.returns-in-Ok-clause-bad
returns-in-Ok-clause-bad c =
    made_whole c.in-Ok.texts (map leak_view c.args.leaks.now) (map (map draw_view) c.args.draws.now) c.in-Ok.texts
    ((λ i. bytes_simulated (map leak_view (sym c.as_slice.ensures i)) (map (map draw_view) (sym c.as_slice-2.ensures i))) ∙ c.in-Ok.ensures)

pub returns-in-Err-clause-bad : goal.returns-in-Err-clause-bad
returns-in-Err-clause-bad c =
    let tells : List leaks.Leak → List (List draws.Draw) → Type 0 =
    λ leaks draws. (command : ℕ) → (c.first_fault.result ≡ BadLeak command) ↔ IsFirstBad command (map leak_view leaks) (map (map draw_view) draws) in
    fault_told c.first_fault.result (λ command. IsFirstBad command (map leak_view c.args.leaks.now) (map (map draw_view) c.args.draws.now))
    (subst (tells c.args.leaks.now) c.as_slice-in-Err-2.ensures
    (subst (λ leaks. tells leaks c.as_slice-in-Err-2.result.now) c.as_slice-in-Err.ensures c.first_fault.ensures))
