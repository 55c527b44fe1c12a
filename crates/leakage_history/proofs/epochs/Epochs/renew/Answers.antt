use Rattle.std.proofs.Common.{◌≡◌, ◌++◌, ◌∷◌, [], ℕ, List, Ok, Err, ap, sym, subst, ◌∙◌}
use Rattle.std.specs.Prelude.{IfOk, OnErr, OnOk, Result}
use Rattle.client_registry.specs.Epochs.{AreEpochs, setup_renewed, with_renewal}
use Rattle.client_registry.specs.Run.{Renewed, last_run}
use Rattle.client_registry.specs.Sized.{IsHistory}
use Rattle.client_registry.specs.declared.size.Size.{Size}
use Rattle.leakage_history.proofs.EpochLaws.{epochs_with-push, last-is_history, last_run-with, renewed-are_epochs}
use Rattle.leakage_history.specs.HashedEpochs.{HashedEpochs, ended_with, epochs_in, epochs_with}
use Rattle.leakage_history.specs.HashedRun.{HashedRun, run_of}
use Rattle.leakage_history.specs.Renewals.{IsIndexSize, renewal_refusal}
use Rattle.leakage_history.specs.declared.epochs.Ended.{Ended}
use Rattle.leakage_history.specs.declared.renewal_fault.RenewalFault.{RenewalFault}
use Rattle.leakage_history.proofs.epochs.Epochs.renew.Goals as goal

-- epochs, by their fields
abbrev made : List Ended → HashedRun → HashedEpochs
made before last = record { before = before; last = last }

-- the epochs after a renewal that was taken or not
module _ (result : Result Size RenewalFault) (before items : List Ended) (old new : HashedRun) (key : List ℕ)
    (ended : OnOk result (items ≡ before ++ ended_with old key ∷ []))
    (next : OnOk result (new ≡ record { setup = setup_renewed (run_of old); later = []; keys = old.keys }))
    (as_before : OnErr result (items ≡ before)) (same : OnErr result (new ≡ old)) where
  are_kept : OnOk result (IsHistory (run_of new)) → AreEpochs (epochs_with before (run_of old)) → AreEpochs (epochs_with items (run_of new))
  are_kept = by result ended next as_before same
    where
      by : (r : Result Size RenewalFault) → OnOk r (items ≡ before ++ ended_with old key ∷ []) → OnOk r (new ≡ record { setup = setup_renewed (run_of old); later = []; keys = old.keys })
          → OnErr r (items ≡ before) → OnErr r (new ≡ old) → OnOk r (IsHistory (run_of new)) → AreEpochs (epochs_with before (run_of old)) → AreEpochs (epochs_with items (run_of new))
      by (Ok size) ended next as_before same kept are =
          subst (λ front. AreEpochs (epochs_with front (run_of new))) (sym ended)
          (renewed-are_epochs before (ended_with old key) (run_of new) are (ap (λ (h : HashedRun). h.setup) next) kept)
      by (Err fault) ended next as_before same kept are =
          subst (λ front. AreEpochs (epochs_with front (run_of new))) (sym as_before) (subst (λ h. AreEpochs (epochs_with before (run_of h))) (sym same) are)

  are_renewed : OnOk result (epochs_with items (run_of new) ≡ with_renewal key (epochs_with before (run_of old)))
  are_renewed = by result ended next
    where
      by : (r : Result Size RenewalFault) → OnOk r (items ≡ before ++ ended_with old key ∷ []) → OnOk r (new ≡ record { setup = setup_renewed (run_of old); later = []; keys = old.keys })
          → OnOk r (epochs_with items (run_of new) ≡ with_renewal key (epochs_with before (run_of old)))
      by (Ok size) ended next =
          (λ i. epochs_with (ended i) (run_of (next i)))
          ∙ epochs_with-push before (ended_with old key) (record { setup = setup_renewed (run_of old); later = [] })
          ∙ ap (λ run. Renewed (epochs_with before (run_of old)) key (record { setup = setup_renewed run; later = [] })) (sym (last_run-with before (run_of old)))
      by (Err fault) ended next = tt

  are_same : OnErr result (made items new ≡ made before old)
  are_same = by result as_before same
    where
      by : (r : Result Size RenewalFault) → OnErr r (items ≡ before) → OnErr r (new ≡ old) → OnErr r (made items new ≡ made before old)
      by (Ok size) as_before same = tt
      by (Err fault) as_before same = λ i. record { before = as_before i; last = same i }

  keys_same : new.keys ≡ old.keys
  keys_same = by result next same
    where
      by : (r : Result Size RenewalFault) → OnOk r (new ≡ record { setup = setup_renewed (run_of old); later = []; keys = old.keys }) → OnErr r (new ≡ old) → new.keys ≡ old.keys
      by (Ok size) next same = ap (λ (h : HashedRun). h.keys) next
      by (Err fault) next same = ap (λ (h : HashedRun). h.keys) same

pub renew_last-requires : goal.renew_last-requires
renew_last-requires c = last-is_history c.self.inside.before.items (run_of c.self.inside.last) c.self.invariant

pub invariant_of-self : goal.invariant_of-self
invariant_of-self c =
    let e = c.renew_last.ensures in
    are_kept c.renew_last.result c.self.inside.before.items c.renew_last.new.before.items c.self.inside.last c.renew_last.new.last c.args.key e.ended e.next e.as_before e.same e.kept c.self.invariant

pub returns-clause-ok : goal.returns-clause-ok
returns-clause-ok c =
    let e = c.renew_last.ensures in
    let before = c.self.inside.before.items in
    let old = c.self.inside.last in
    subst (λ h. OnOk c.renew_last.result (epochs_with c.renew_last.new.before.items (run_of c.renew_last.new.last) ≡ with_renewal c.args.key (epochs_in h))) c.self.view_is
    (are_renewed c.renew_last.result before c.renew_last.new.before.items old c.renew_last.new.last c.args.key e.ended e.next e.as_before e.same)

pub returns-clause-err : goal.returns-clause-err
returns-clause-err c =
    let e = c.renew_last.ensures in
    let before = c.self.inside.before.items in
    let old = c.self.inside.last in
    subst (λ h. OnErr c.renew_last.result (made c.renew_last.new.before.items c.renew_last.new.last ≡ h)) c.self.view_is
    (are_same c.renew_last.result before c.renew_last.new.before.items old c.renew_last.new.last c.args.key e.ended e.next e.as_before e.same)

pub returns-clause-keys : goal.returns-clause-keys
returns-clause-keys c =
    let e = c.renew_last.ensures in
    let before = c.self.inside.before.items in
    let old = c.self.inside.last in
    keys_same c.renew_last.result before c.renew_last.new.before.items old c.renew_last.new.last c.args.key e.ended e.next e.as_before e.same ∙ ap (λ (h : HashedEpochs). h.last.keys) c.self.view_is

pub returns-clause-size : goal.returns-clause-size
returns-clause-size c =
    let is = sym (last_run-with c.self.inside.before.items (run_of c.self.inside.last)) ∙ ap (λ h. last_run (epochs_in h)) c.self.view_is in
    subst (λ run. IfOk c.renew_last.result (λ size. IsIndexSize size (setup_renewed run))) is c.renew_last.ensures.size

pub returns-clause-fault : goal.returns-clause-fault
returns-clause-fault c =
    λ other.
    let is = sym (last_run-with c.self.inside.before.items (run_of c.self.inside.last)) ∙ ap (λ h. last_run (epochs_in h)) c.self.view_is in
    c.renew_last.ensures.fault other ∙ ap (λ run. renewal_refusal c.args.most_frames (setup_renewed run)) is
