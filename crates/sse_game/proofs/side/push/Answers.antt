use Rattle.std.proofs.Common.{◌+◌, refl, ap, ◌∙◌, arith}
use Rattle.client_registry.specs.Epochs.{begins}
use Rattle.client_registry.specs.Run.{last_run}
use Rattle.leakage_frames.proofs.RunLaws.{on_ok_both}
use Rattle.leakage_history.proofs.Refusals.{accepted_by}
use Rattle.leakage_history.specs.Commands.{command_of}
use Rattle.leakage_history.specs.Refusal.{push_refusal}
use Rattle.sse_game.specs.Side.{epochs_at}
use Rattle.sse_game.proofs.Accepting.{no_refusal_none, none-accepted, taken-does}
use Rattle.sse_game.proofs.Sides.{pushed}
use Rattle.sse_game.proofs.side.push.Goals as goal

pub take-requires-clause-accepted : goal.take-requires-clause-accepted
take-requires-clause-accepted c =
    let side = c.args.side.now in
    let es = epochs_at side in
    accepted_by side.trail.registry (last_run es) c.requires.side.trail.registry (command_of c.args.command) ∙ (taken-does es (command_of c.args.command) c.requires.taken).0

pub take-requires-clause-numbered : goal.take-requires-clause-numbered
take-requires-clause-numbered c = omega (arith, c.requires.side.trail.next, (taken-does (epochs_at c.args.side.now) (command_of c.args.command) c.requires.taken).1)

pub overflow_add-side : goal.overflow_add-side
overflow_add-side c = omega (arith, c.requires.side.numbers.commands, (taken-does (epochs_at c.args.side.now) (command_of c.args.command) c.requires.taken).1)

pub overflow_add-side-2 : goal.overflow_add-side-2
overflow_add-side-2 c = omega (arith, c.count_frames.ensures, c.requires.side.numbers.frames, (taken-does (epochs_at c.args.side.now) (command_of c.args.command) c.requires.taken).2)

pub push_known-requires : goal.push_known-requires
push_known-requires c =
    let es = epochs_at c.args.side.now in
    let command = command_of c.args.command in
    no_refusal_none (push_refusal (last_run es) command) (none-accepted (last_run es) command ∙ (taken-does es command c.requires.taken).0)

pub returns-clause-side : goal.returns-clause-side
returns-clause-side c =
    let old = c.args.side.now in
    let es = epochs_at old in
    on_ok_both c.push_known.result c.push_known.ensures.taken c.push_known.ensures.kept
    (λ after kept. pushed old (record { epochs = c.push_known.new.epochs; trail = c.take.new.self; commands = old.commands + 1; frames = old.frames + c.count_frames.result }) (command_of c.args.command) c.requires.side c.requires.taken after
    (c.in_ok-take.ensures (begins es) (last_run es).setup (last_run es).later c.requires.side.trail) refl (ap (λ n. old.frames + n) c.count_frames.ensures) kept.1 kept.0)
