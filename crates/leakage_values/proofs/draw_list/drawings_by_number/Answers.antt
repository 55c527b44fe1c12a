use Rattle.std.proofs.Common.{◌+◌, ◌++◌, ◌∷◌, [], List, map, take, drop, sym, ap, subst, ◌∙◌}
use Rattle.std.proofs.lemmas.List.{map-append, take_all}
use Rattle.client_registry.proofs.OverLaws.{over-append}
use Rattle.client_registry.specs.Command.{Command}
use Rattle.client_registry.specs.Over.{over}
use Rattle.client_registry.specs.Setup.{Setup}
use Rattle.leakage_history.specs.Commands.{command_of}
use Rattle.leakage_values.proofs.FrontLaws.{front_then, front_rest, accepted_by, accepted_here, apart_here}
use Rattle.leakage_values.specs.Numbered.{numbered_drawing}
use Rattle.leakage_values.specs.Replayed.{Follows}
use Rattle.def_leakage.specs.DrawnValues.{drawings_of_setup, drawings_by}
use Rattle.leakage_values.proofs.draw_list.drawings_by_number.Goals as goal

pub loop-command-init : goal.loop-command-init
loop-command-init c = record {
  follows = c.in_ok-replay.ensures;
  all = c.in_ok-push.ensures.ok ∙ ap (λ ds. ds ++ c.in_ok-setup_drawings.field-0 ∷ []) c.new-all.ensures ∙ ap (λ d. d ∷ []) c.in_ok-setup_drawings.ensures;
}

pub take_turn-requires-clause-accepted : goal.take_turn-requires-clause-accepted
take_turn-requires-clause-accepted c =
    let s : Setup = c.args.history.now.setup in
    let items = c.commands-command-items.result.now in
    let i = c.loop-command.command-index in
    let front : List Command = map command_of (take i items) in
    let rest : List Command = map command_of (drop (i + 1) items) in
    accepted_by c.loop-command.replay.registry s front (command_of c.command-item.result) c.loop-command.invariant.follows.registry
    (accepted_here s c.args.history.now.later front (command_of c.command-item.result) rest
    (sym c.commands-command-items.ensures.commands ∙ front_rest command_of items i c.command-item.result c.loop-command-test.true c.command-item.is)
    c.commands-command-items.ensures.valid.accepted)

pub loop-command-preserved : goal.loop-command-preserved
loop-command-preserved c =
    let s : Setup = c.args.history.now.setup in
    let items = c.commands-command-items.result.now in
    let i = c.loop-command.command-index in
    let x = c.command-item.result in
    let front : List Command = map command_of (take i items) in
    let rest : List Command = map command_of (drop (i + 1) items) in
    let apart = apart_here s c.args.history.now.later front (command_of x ∷ rest) c.commands-command-items.ensures.valid.collected
    (sym c.commands-command-items.ensures.commands ∙ front_rest command_of items i x c.loop-command-test.true c.command-item.is) c.commands-command-items.ensures.valid.accepted in
    let then = front_then command_of items i x c.loop-command-test.true c.command-item.is in
    record {
      follows = subst (λ cs. Follows c.take_turn.new.replay s cs) (sym then) (c.in-Ok.ensures.follows s front c.loop-command.invariant.follows apart);
      all =
          c.in-Ok.ensures.drawn s front c.loop-command.invariant.follows apart
          ∙ ap (λ ds. ds ++ map (numbered_drawing c.args.words.now) (drawings_by c.args.epoch s front (command_of x)) ∷ []) c.loop-command.invariant.all
          ∙ ap (λ ds. map (numbered_drawing c.args.words.now) (drawings_of_setup c.args.epoch s) ∷ ds)
          (sym (map-append (map (numbered_drawing c.args.words.now)) (over (drawings_by c.args.epoch s) [] front) (drawings_by c.args.epoch s front (command_of x) ∷ []))
          ∙ ap (map (map (numbered_drawing c.args.words.now))) (sym (over-append (drawings_by c.args.epoch s) [] front (command_of x ∷ [])) ∙ ap (over (drawings_by c.args.epoch s) []) (sym then)));
    }

pub returns : goal.returns
returns c o is =
    let s : Setup = c.args.history.now.setup in
    c.loop-command.invariant.all
    ∙ ap (λ cs. map (map (numbered_drawing c.args.words.now)) (drawings_of_setup c.args.epoch s ∷ over (drawings_by c.args.epoch s) [] cs))
    (ap (map command_of) (take_all c.loop-command.command-index c.commands-command-items.result.now c.loop-command-test.false) ∙ c.commands-command-items.ensures.commands)
    ∙ ap (λ e. map (map (numbered_drawing c.args.words.now)) (drawings_of_setup e s ∷ over (drawings_by e s) [] c.args.history.now.later)) (sym is)
