use Rattle.std.proofs.Common.{◌≡◌, ℕ, suc, ◌<◌, List, [], ◌∷◌, ◌++◌, length, map, get_or, take, drop, Some, refl, sym, ap, subst, ◌∙◌, arith, add-one}
use Rattle.std.specs.Prelude.{is_some}
use Rattle.std.specs.List.{slice_get}
use Rattle.std.proofs.lemmas.List.{length-map, take-map, take_more}
use Rattle.std.proofs.lemmas.Option.{slice_get_past, slice_get_read}
use Rattle.sse_simulator.specs.Leaks.{Leak, Draw, AddLeak}
use Rattle.sse_simulator.specs.Simulator.{frames_simulated}
use Rattle.leakage_frames.proofs.AbsentLaws.{viewed_at}
use Rattle.leakage_frames.proofs.BadLaws.{CanRun-push, bad_here}
use Rattle.leakage_frames.proofs.RunLaws.{drop_head, drop_none, taken}
use Rattle.leakage_frames.specs.MadeFrames.{CanRun, kept_each}
use Rattle.leakage_frames.specs.Views.{draw_view, leak_view}
use Rattle.leakage_frames.proofs.absent.is_made_at.Goals as goal

pub returns-then-k-draws-clause-bad : goal.returns-then-k-draws-clause-bad
returns-then-k-draws-clause-bad c =
    let k = c.args.k in
    let leaks : List Leak = map leak_view c.args.leaks.now in
    let drawn : List (List Draw) = map (map draw_view) c.args.draws.now in
    let within : k < length leaks = subst (λ (n : ℕ). k < n) (sym (length-map c.args.leaks.now leak_view)) c.requires in
    let past : drop k drawn ≡ [] = drop_none drawn k (slice_get_past drawn k (omega (arith, c.if-k-draws.true, length-map c.args.draws.now (map draw_view)))) in
    λ none can.
    bad_here leaks drawn k (get_or leaks k (AddLeak [])) within (ap (λ (n : ℕ). take n leaks) (sym (add-one k)) ∙ take_more leaks k (AddLeak []) within)
    (λ draws others q is. absurd (none_cons draws others (sym past ∙ is))) can
  where
    none_cons : (draws : List Draw) (others : List (List Draw)) → [] ≡ draws ∷ others → ⊥
    none_cons draws others is = cc

fronts : (c : goal.After-is_made)
    → kept_each (take c.args.k (map leak_view c.args.leaks.now)) (take c.args.k (map (map draw_view) c.args.draws.now))
    ≡ kept_each (map leak_view c.split_at.result.0.now) (map (map draw_view) c.split_at-2.result.0.now)
fronts c =
    λ i. kept_each ((take-map leak_view c.args.k c.args.leaks.now ∙ ap (map leak_view) (sym c.split_at.ensures.front)) i)
    ((take-map (map draw_view) c.args.k c.args.draws.now ∙ ap (map (map draw_view)) (sym c.split_at-2.ensures.front)) i)

here : (c : goal.After-is_made) → take (suc c.args.k) (map leak_view c.args.leaks.now) ≡ take c.args.k (map leak_view c.args.leaks.now) ++ leak_view c.index-leaks-k.result ∷ []
here c = taken leak_view c.args.leaks.now c.args.k c.index-leaks-k.result c.requires c.index-leaks-k.is

inside : (c : goal.After-is_made) → c.args.k < length c.args.draws.now
inside c = omega (arith, c.if-k-draws.false)

pub returns-clause-made : goal.returns-clause-made
returns-clause-made c =
    let k = c.args.k in
    let leaks : List Leak = map leak_view c.args.leaks.now in
    let drawn : List (List Draw) = map (map draw_view) c.args.draws.now in
    let leak : Leak = leak_view c.index-leaks-k.result in
    let own : List Draw = map draw_view c.as_slice.result.now in
    let there : take (suc k) drawn ≡ take k drawn ++ own ∷ [] =
    taken (map draw_view) c.args.draws.now k c.index-draws-k.result (inside c) c.index-draws-k.is ∙ ap (λ ds. take k drawn ++ map draw_view ds ∷ []) (sym c.as_slice.ensures) in
    λ made can.
    subst (λ (n : ℕ). CanRun n leaks drawn) (sym (add-one k))
    (CanRun-push leaks drawn k leak own (subst (λ (n : ℕ). k < n) (sym (length-map c.args.leaks.now leak_view)) c.requires)
    (subst (λ (n : ℕ). k < n) (sym (length-map c.args.draws.now (map draw_view))) (inside c)) (here c) there
    (λ q. ap (λ kept. is_some (frames_simulated kept q leak own)) (fronts c) ∙ c.is_made.ensures q ∙ made) can)

pub returns-clause-bad : goal.returns-clause-bad
returns-clause-bad c =
    let k = c.args.k in
    let leaks : List Leak = map leak_view c.args.leaks.now in
    let drawn : List (List Draw) = map (map draw_view) c.args.draws.now in
    let leak : Leak = leak_view c.index-leaks-k.result in
    let at : slice_get drawn k ≡ Some (map draw_view c.as_slice.result.now) =
    viewed_at (map draw_view) c.args.draws.now k c.as_slice.result.now
    (slice_get_read c.args.draws.now (length c.args.draws.now) k c.as_slice.result.now refl (inside c)
    (c.as_slice.ensures ∙ c.index-draws-k.is ∙ ap (λ ds. get_or c.args.draws.now k ds) (sym c.as_slice.ensures))) in
    λ bad can.
    bad_here leaks drawn k leak (subst (λ (n : ℕ). k < n) (sym (length-map c.args.leaks.now leak_view)) c.requires) (here c)
    (λ draws others q is.
    ap (λ own. is_some (frames_simulated (kept_each (take k leaks) (take k drawn)) q leak own)) (sym (drop_head drawn k (map draw_view c.as_slice.result.now) draws others at is))
    ∙ ap (λ kept. is_some (frames_simulated kept q leak (map draw_view c.as_slice.result.now))) (fronts c) ∙ c.is_made.ensures q ∙ bad) can
