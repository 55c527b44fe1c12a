use Rattle.std.proofs.Common.{◌≡◌, ◌<◌, ℕ, suc, ◌++◌, ◌∷◌, [], length, map, take, drop, true, refl, sym, ap, subst, ◌∙◌, Some, append_assoc, arith}
use Rattle.std.specs.Prelude.{option_map, slice_get}
use Rattle.std.specs.List.{list_all}
use Rattle.std.proofs.lemmas.List.{length-map, length-take-le}
use Rattle.std.proofs.lemmas.Option.{slice_get-map, slice_get_read}
use Rattle.client_registry.proofs.OverLaws.{over-append}
use Rattle.client_registry.specs.Over.{over}
use Rattle.client_registry.specs.Run.{Offsets}
use Rattle.client_registry.specs.Sized.{is_accepted}
use Rattle.client_live_docs.proofs.Pushing.{take-one_more}
use Rattle.leakage_history.proofs.Refusals.{accepted_after, accepted_by}
use Rattle.leakage_history.specs.Commands.{command_of}
use Rattle.leakage_frames.specs.Views.{leak_view}
use Rattle.def_leakage.specs.CommandLeaks.{leak_by}
use Rattle.leakage_model.proofs.ListLaws.{around}
use Rattle.leakage_model.specs.TrailFacts.{Follows}
use Rattle.leakage_model.proofs.leaks.leak_commands.Goals as goal

-- a run whose setup has this number
abbrev numbered_from : ℕ → Offsets
numbered_from first = record { epoch = 0; command = first; frame = 0 }

pub leak_next-requires-clause-accepted : goal.leak_next-requires-clause-accepted
leak_next-requires-clause-accepted c =
    let s = c.args.history.now.setup in
    let later = c.args.history.now.later in
    let items = c.commands-command-items.result.now in
    let i = c.loop-command.command-index in
    let command = command_of c.command-item.result in
    let at : slice_get later i ≡ Some command =
    ap (λ xs. slice_get xs i) (sym c.commands-command-items.ensures.commands) ∙ slice_get-map command_of items i ∙ ap (option_map command_of) (slice_get_read items (length items) i c.command-item.result refl c.loop-command-test.true c.command-item.is) in
    let all : list_all (λ accepted. accepted) (over (is_accepted s) [] (take i later ++ command ∷ drop (suc i) later)) ≡ true =
    ap (λ cs. list_all (λ accepted. accepted) (over (is_accepted s) [] cs)) (sym (around later i command at)) ∙ c.commands-command-items.ensures.valid.accepted in
    accepted_by c.loop-command.trail.registry (record { setup = s; later = take i later }) (c.loop-command.invariant.follows (numbered_from c.args.first) refl).registry command ∙ accepted_after s (take i later) command (drop (suc i) later) all

pub loop-command-preserved : goal.loop-command-preserved
loop-command-preserved c =
    let s = c.args.history.now.setup in
    let later = c.args.history.now.later in
    let items = c.commands-command-items.result.now in
    let i = c.loop-command.command-index in
    let command = command_of c.command-item.result in
    let past = take i later in
    let before = map leak_view c.args.leaks.now in
    let had = c.loop-command.invariant in
    let at : slice_get later i ≡ Some command =
    ap (λ xs. slice_get xs i) (sym c.commands-command-items.ensures.commands) ∙ slice_get-map command_of items i ∙ ap (option_map command_of) (slice_get_read items (length items) i c.command-item.result refl c.loop-command-test.true c.command-item.is) in
    let more = take-one_more later i command at in
    record {
      leaks = λ o first.
          c.in_ok-leak_next.ensures.leaked o s past (had.follows o first)
          ∙ ap (λ leaks. leaks ++ leak_by o s past command ∷ []) (had.leaks o first)
          ∙ append_assoc before (over (leak_by o s) [] past) (leak_by o s past command ∷ [])
          ∙ ap (λ rest. before ++ rest) (sym (ap (over (leak_by o s) []) more ∙ over-append (leak_by o s) [] past (command ∷ [])));
      follows = λ o first. subst (λ cs. Follows c.leak_next.new.trail o s cs) (sym more) (c.in_ok-leak_next.ensures.follows o s past (had.follows o first));
    }

pub leak_next-requires-clause-numbered : goal.leak_next-requires-clause-numbered
leak_next-requires-clause-numbered c =
    let later = c.args.history.now.later in
    let items = c.commands-command-items.result.now in
    let i = c.loop-command.command-index in
    let within : i < length later = omega (arith, c.loop-command-test.true, ap length (sym c.commands-command-items.ensures.commands), length-map items command_of) in
    omega (arith, (c.loop-command.invariant.follows (numbered_from c.args.first) refl).next, length-take-le i later (omega (arith, within)), within, c.requires.numbered)
