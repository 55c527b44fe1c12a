use Rattle.std.proofs.Common.{◌≡◌, ◌++◌, ◌∷◌, [], List, Ok, Err, ap, sym, subst, ◌∙◌}
use Rattle.std.specs.Prelude.{IfSome, OnErr, OnOk, Result}
use Rattle.std.proofs.lemmas.Result.{on_err_weaker, on_ok_weaker}
use Rattle.client_registry.specs.Acceptance.{size_refusal}
use Rattle.client_registry.specs.Command.{Command}
use Rattle.client_registry.specs.Epochs.{with_commands}
use Rattle.client_registry.specs.Run.{last_run}
use Rattle.leakage_history.proofs.EpochLaws.{last-again, last-is_history, last_run-with, with_commands-with}
use Rattle.leakage_history.proofs.Refusals.{IsHistory-accepted}
use Rattle.leakage_history.specs.Commands.{command_of}
use Rattle.leakage_history.specs.HashedEpochs.{HashedEpochs, epochs_in, epochs_with}
use Rattle.leakage_history.specs.HashedRun.{HashedRun, run_of}
use Rattle.leakage_history.specs.Refusal.{push_refusal}
use Rattle.leakage_history.specs.declared.epochs.Ended.{Ended}
use Rattle.leakage_history.specs.declared.fault.HistoryFault.{HistoryFault}
use Rattle.leakage_history.proofs.epochs.Epochs.push.Goals as goal

-- epochs, by their fields
abbrev made : List Ended → HashedRun → HashedEpochs
made before last = record { before = before; last = last }

-- an epoch after a command that was taken or not
module _ (T E : Type 0) (result : Result T E) (old new : HashedRun) (c : Command) (took : OnOk result (new ≡ record { setup = old.setup; later = old.later ++ c ∷ []; keys = old.keys })) (kept : OnErr result (new ≡ old)) where
  same_setup : new.setup ≡ old.setup
  same_setup = by result took kept
    where
      by : (r : Result T E) → OnOk r (new ≡ record { setup = old.setup; later = old.later ++ c ∷ []; keys = old.keys }) → OnErr r (new ≡ old) → new.setup ≡ old.setup
      by (Ok u) took kept = ap (λ (h : HashedRun). h.setup) took
      by (Err e) took kept = ap (λ (h : HashedRun). h.setup) kept

  same_keys : new.keys ≡ old.keys
  same_keys = by result took kept
    where
      by : (r : Result T E) → OnOk r (new ≡ record { setup = old.setup; later = old.later ++ c ∷ []; keys = old.keys }) → OnErr r (new ≡ old) → new.keys ≡ old.keys
      by (Ok u) took kept = ap (λ (h : HashedRun). h.keys) took
      by (Err e) took kept = ap (λ (h : HashedRun). h.keys) kept

pub invariant_of-self : goal.invariant_of-self
invariant_of-self c =
    let before = c.self.inside.before.items in
    let run = run_of c.self.inside.last in
    let next = run_of c.push-taken.new.self in
    let same = same_setup _ HistoryFault c.push-taken.result c.self.inside.last c.push-taken.new.self (command_of c.args.command) c.push-taken.ensures.ok c.push-taken.ensures.err in
    last-again before run next c.self.invariant same (IsHistory-accepted next c.len-commands.ensures.valid (ap size_refusal same ∙ (last-is_history before run c.self.invariant).setup))

pub returns-clause-ok : goal.returns-clause-ok
returns-clause-ok c =
    let before = c.self.inside.before.items in
    let commands = command_of c.args.command ∷ [] in
    on_ok_weaker c.push-taken.result
    (λ took.
    ap (λ (h : HashedRun). epochs_with before (run_of h)) took
    ∙ sym (with_commands-with commands before (run_of c.self.inside.last))
    ∙ ap (λ h. with_commands commands (epochs_in h)) c.self.view_is)
    c.push-taken.ensures.ok

pub returns-clause-err : goal.returns-clause-err
returns-clause-err c = on_err_weaker c.push-taken.result (λ same. ap (made c.self.inside.before.items) same ∙ c.self.view_is) c.push-taken.ensures.err

pub returns-clause-keys : goal.returns-clause-keys
returns-clause-keys c =
    same_keys _ HistoryFault c.push-taken.result c.self.inside.last c.push-taken.new.self (command_of c.args.command) c.push-taken.ensures.ok c.push-taken.ensures.err
    ∙ ap (λ (h : HashedEpochs). h.last.keys) c.self.view_is

pub returns-clause-refused : goal.returns-clause-refused
returns-clause-refused c =
    let is = sym (last_run-with c.self.inside.before.items (run_of c.self.inside.last)) ∙ ap (λ h. last_run (epochs_in h)) c.self.view_is in
    subst (λ run. IfSome (push_refusal run (command_of c.args.command)) (λ fault. c.push-taken.result ≡ Err fault)) is c.push-taken.ensures.refused

pub returns-clause-accepted : goal.returns-clause-accepted
returns-clause-accepted c =
    λ none.
    let is = sym (last_run-with c.self.inside.before.items (run_of c.self.inside.last)) ∙ ap (λ h. last_run (epochs_in h)) c.self.view_is in
    c.push-taken.ensures.accepted (ap (λ run. push_refusal run (command_of c.args.command)) is ∙ none)
