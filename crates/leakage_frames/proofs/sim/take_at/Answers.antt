use Rattle.std.proofs.Common.{◌≡◌, ℕ, ◌∷◌, ◌++◌, [], List, map, suc, take, Some, sym, ap, subst, ◌∙◌, add-one}
use Rattle.std.specs.Prelude.{option_copied}
use Rattle.std.specs.List.{slice_get}
use Rattle.sse_simulator.specs.Leaks.{Leak, Draw}
use Rattle.sse_simulator.specs.Simulator.{Sim}
use Rattle.leakage_frames.proofs.RunLaws.{HasRun-push, on_ok_both, taken, taken_at}
use Rattle.leakage_frames.specs.MadeFrames.{HasRun, kept_view}
use Rattle.leakage_frames.specs.Views.{draw_view, leak_view}
use Rattle.leakage_frames.proofs.sim.take_at.Goals as goal

pub returns-in-Some : goal.returns-in-Some
returns-in-Some c =
    let k = c.args.k in
    let leaks : List Leak = map leak_view c.args.leaks.now in
    let drawn : List (List Draw) = map (map draw_view) c.args.draws.now in
    let before : Sim = record { kept = map kept_view c.args.kept.now; next = c.args.passing.now.next } in
    let after : Sim = record { kept = map kept_view c.take.new.kept; next = c.take.new.passing.next } in
    let at : slice_get c.args.draws.now k ≡ Some c.in-Some.own.now = sym c.item_at.ensures ∙ ap option_copied c.in-Some.is in
    let own : List Draw = map draw_view c.as_slice.result.now in
    let there : take (suc k) drawn ≡ take k drawn ++ own ∷ [] =
    taken_at (map draw_view) c.args.draws.now k c.in-Some.own.now at ∙ ap (λ draws. take k drawn ++ map draw_view draws ∷ []) (sym c.as_slice.ensures) in
    on_ok_both c.take.result c.take.ensures.made c.take.ensures.kept
    (λ made kept run.
    subst (λ (n : ℕ). HasRun n leaks drawn c.take.new.passing.texts after) (sym (add-one k))
    (HasRun-push leaks drawn k (leak_view c.index-leaks-k.result) own (taken leak_view c.args.leaks.now k c.index-leaks-k.result c.requires c.index-leaks-k.is) there
    c.args.passing.now.texts c.take.new.passing.texts before c.take.new.passing.next (map kept_view c.take.new.kept) run made kept))
