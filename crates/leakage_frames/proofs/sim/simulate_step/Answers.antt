use Rattle.std.proofs.Common.{◌≡◌, ℕ, List, length, map, None, ap, sym, subst, ◌∙◌}
use Rattle.std.specs.Prelude.{◌↔◌}
use Rattle.sse_simulator.specs.Simulator.{frames_simulated}
use Rattle.leakage_frames.proofs.BadLaws.{step_told}
use Rattle.leakage_frames.specs.MadeFrames.{kept_view}
use Rattle.leakage_frames.specs.Views.{draw_view, leak_view}
use Rattle.leakage_frames.specs.declared.fault.SimFault.TheVariants.{BadLeak}
use Rattle.leakage_frames.specs.declared.leak.Draw as draws
use Rattle.leakage_frames.proofs.sim.simulate_step.Goals as goal

pub returns-in-Err-clause-bad : goal.returns-in-Err-clause-bad
returns-in-Err-clause-bad c =
    let stored = c.as_slice-in-Err.result.now in
    let leak = leak_view c.args.leak.now in
    let tells : List draws.Draw → Type 0 =
    λ draws. (q command : ℕ) → (c.fault_of.result ≡ BadLeak command) ↔ ((frames_simulated (map kept_view stored) q leak (map draw_view draws) ≡ None) × (command ≡ length stored)) in
    step_told c.args.sim.now stored leak (map draw_view c.args.draws.now) c.fault_of.result
    (ap (λ sim. sim.kept) (sym c.sim.view_is) ∙ ap (map kept_view) (sym (c.as_slice-in-Err.ensures ∙ c.in-Err.ensures.unchanged)))
    (subst tells c.as_slice-in-Err-2.ensures c.fault_of.ensures)
