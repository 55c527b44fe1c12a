use Rattle.std.proofs.Common.{◌+◌, ◌++◌, ◌∷◌, [], List, map, take, drop, sym, ap, subst, ◌∙◌}
use Rattle.std.proofs.lemmas.List.{map-append, take_all}
use Rattle.client_registry.proofs.OverLaws.{over-append}
use Rattle.client_registry.specs.Command.{Command}
use Rattle.client_registry.specs.Over.{over}
use Rattle.client_registry.specs.Setup.{Setup}
use Rattle.leakage_history.specs.Commands.{command_of}
use Rattle.leakage_values.proofs.FrontLaws.{front_then, front_rest, accepted_by, accepted_here}
use Rattle.leakage_values.specs.Listed.{IsListing}
use Rattle.leakage_values.specs.Numbered.{numbered}
use Rattle.sse_model.specs.Drawn.{probed_by}
use Rattle.leakage_values.proofs.probed.probed_by_words.Goals as goal

pub take_turn-requires-clause-accepted : goal.take_turn-requires-clause-accepted
take_turn-requires-clause-accepted c =
    let s : Setup = c.args.history.now.setup in
    let items = c.commands-command-items.result.now in
    let i = c.loop-command.command-index in
    let front : List Command = map command_of (take i items) in
    let rest : List Command = map command_of (drop (i + 1) items) in
    accepted_by c.loop-command.listing.registry s front (command_of c.command-item.result) c.loop-command.invariant.follows.registry
    (accepted_here s c.args.history.now.later front (command_of c.command-item.result) rest
    (sym c.commands-command-items.ensures.commands ∙ front_rest command_of items i c.command-item.result c.loop-command-test.true c.command-item.is)
    c.commands-command-items.ensures.valid.accepted)

pub loop-command-preserved : goal.loop-command-preserved
loop-command-preserved c =
    let s : Setup = c.args.history.now.setup in
    let words = c.args.words.now in
    let items = c.commands-command-items.result.now in
    let i = c.loop-command.command-index in
    let x = c.command-item.result in
    let front : List Command = map command_of (take i items) in
    let then = front_then command_of items i x c.loop-command-test.true c.command-item.is in
    record {
      follows = subst (λ cs. IsListing c.take_turn.new.listing s cs) (sym then) (c.in_ok-take_turn.ensures.follows s front c.loop-command.invariant.follows);
      all =
          c.in_ok-take_turn.ensures.probed s front c.loop-command.invariant.follows
          ∙ ap (λ ns. ns ++ map (numbered words) (probed_by c.args.epoch s front (command_of x)) ∷ []) c.loop-command.invariant.all
          ∙ ap (λ ns. [] ∷ ns)
          (sym (map-append (map (numbered words)) (over (probed_by c.args.epoch s) [] front) (probed_by c.args.epoch s front (command_of x) ∷ []))
          ∙ ap (map (map (numbered words))) (sym (over-append (probed_by c.args.epoch s) [] front (command_of x ∷ [])) ∙ ap (over (probed_by c.args.epoch s) []) (sym then)));
    }

pub returns : goal.returns
returns c o is =
    let s : Setup = c.args.history.now.setup in
    let words = c.args.words.now in
    c.loop-command.invariant.all
    ∙ ap (λ cs. map (map (numbered words)) ([] ∷ over (probed_by c.args.epoch s) [] cs))
    (ap (map command_of) (take_all c.loop-command.command-index c.commands-command-items.result.now c.loop-command-test.false) ∙ c.commands-command-items.ensures.commands)
    ∙ ap (λ e. map (map (numbered words)) ([] ∷ over (probed_by e s) [] c.args.history.now.later)) (sym is)
