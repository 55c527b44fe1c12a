use Rattle.std.proofs.Common.{◌++◌, List, map, sym, ap, ◌∙◌, arith}
use Rattle.std.proofs.lemmas.List.{get_or-map, length-map, take_all}
use Rattle.client_registry.specs.Command.{Command, Delete}
use Rattle.leakage_history.specs.Commands.{command_of}
use Rattle.leakage_values.specs.declared.drawn.Drawing.{Drawing}
use Rattle.leakage_draws.proofs.BesideLaws.{more-beside}
use Rattle.leakage_draws.specs.Beside.{beside}
use Rattle.leakage_draws.specs.Clears.{clear_by}
use Rattle.leakage_draws.specs.Given.{draw_given}
use Rattle.leakage_frames.specs.Views.{draw_view}
use Rattle.sse_simulator.specs.Leaks.{Draw}
use Rattle.leakage_draws.proofs.drawn.push_later.Goals as goal

pub loop-k-preserved : goal.loop-k-preserved
loop-k-preserved c =
    let values = c.args.sheet.now in
    let k = c.loop-k.k in
    let commands = c.args.commands.now in
    let own : List Drawing → Command → List Draw = λ ds x. map (λ d. draw_given values d (clear_by x)) ds in
    more-beside (map draw_view) own c.args.drawings.now (map command_of commands) k _ (Delete 0) (map (map draw_view) c.args.all.now) c.loop-k.all _ c.in_ok-command_draws.field-0
    (omega (arith, c.loop-k-test.true, c.requires)) (omega (arith, c.loop-k-test.true, length-map commands command_of)) c.loop-k.invariant c.in_ok-push.ensures.ok
    (c.in_ok-command_draws.ensures
    ∙ (λ i. own ((c.as_slice.ensures ∙ c.index-drawings-k.is) i) (command_of (c.index-commands-k.is i)))
    ∙ ap (own _) (sym (get_or-map command_of commands k _ (Delete 0) (omega (arith, c.loop-k-test.true)))))

pub returns : goal.returns
returns c =
    let n = c.loop-k.k in
    c.loop-k.invariant
    ∙ (λ i. map (map draw_view) c.args.all.now ++ beside (λ ds x. map (λ d. draw_given c.args.sheet.now d (clear_by x)) ds) (take_all n c.args.drawings.now (omega (arith, c.loop-k-test.false, c.requires)) i)
    (take_all n (map command_of c.args.commands.now) (omega (arith, c.loop-k-test.false, length-map c.args.commands.now command_of)) i))
