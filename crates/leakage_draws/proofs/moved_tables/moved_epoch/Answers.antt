use Rattle.std.proofs.Common.{◌≡◌, ℕ, None, sym, ap, subst, ◌∙◌, arith}
use Rattle.std.proofs.lemmas.Result.{IfOk-weaker}
use Rattle.client_registry.specs.Acceptance.{size_refusal}
use Rattle.client_registry.specs.Run.{Run, Offsets, Epochs}
use Rattle.leakage_history.specs.HashedEpochs.{epochs_in}
use Rattle.leakage_history.proofs.EpochLists.{epochs_within, length-listed}
use Rattle.leakage_history.specs.HashedRun.{run_of}
use Rattle.def_leakage.specs.CommandLeaks.{leak}
use Rattle.def_relabelling.proofs.AlikeEpochs.{LeakAlike, alike}
use Rattle.leakage_draws.proofs.EpochLaws.{alike-at, alike-many, epoch-at, epoch_there, history-at, same_run-at}
use Rattle.leakage_draws.specs.EpochAt.{IsEpoch}
use Rattle.leakage_draws.specs.Moved.{IsMoved}
use Rattle.leakage_draws.proofs.moved_tables.moved_epoch.Goals as goal

pub epoch-requires : goal.epoch-requires
epoch-requires c = omega (arith, c.requires.within, length-listed (epochs_in c.args.epochs.now))

pub epoch-requires-2 : goal.epoch-requires-2
epoch-requires-2 c =
    let es : Epochs = epochs_in c.args.epochs.now in
    let other : Epochs = epochs_in c.args.other.now in
    let are = alike es other (c.len-first.ensures.whole ∙ sym c.len-second.ensures.whole) c.requires.same in
    omega (arith, c.requires.within, alike-many es other are, length-listed other)

pub overflow_cast-number : goal.overflow_cast-number
overflow_cast-number c =
    let es : Epochs = epochs_in c.args.epochs.now in
    omega (arith, c.requires.within, c.requires.numbered, length-listed es, epochs_within es)

pub moved-requires-clause-accepted : goal.moved-requires-clause-accepted
moved-requires-clause-accepted c =
    let es : Epochs = epochs_in c.args.epochs.now in
    let e = epoch_there es c.args.number c.requires.within in
    let same = same_run-at es c.args.number e.0 e.1 e.2 (run_of c.epoch.result.now) c.epoch.ensures in
    subst (λ (r : Run). size_refusal r.setup ≡ None) same (history-at es c.args.number e.0 e.1 e.2 c.len-first.ensures.valid).setup

pub moved-requires-clause-accepted_too : goal.moved-requires-clause-accepted_too
moved-requires-clause-accepted_too c =
    let es : Epochs = epochs_in c.args.epochs.now in
    let other : Epochs = epochs_in c.args.other.now in
    let are = alike es other (c.len-first.ensures.whole ∙ sym c.len-second.ensures.whole) c.requires.same in
    let e = epoch_there other c.args.number (omega (arith, c.requires.within, alike-many es other are)) in
    let same = same_run-at other c.args.number e.0 e.1 e.2 (run_of c.epoch-2.result.now) c.epoch-2.ensures in
    subst (λ (r : Run). size_refusal r.setup ≡ None) same (history-at other c.args.number e.0 e.1 e.2 c.len-second.ensures.valid).setup

-- two runs of the epochs of a number, which leak the same
leak_same : (es other : Epochs) (number : ℕ) (o o2 : Offsets) (run run2 r r2 : Run) → LeakAlike es other → IsEpoch es number o run → IsEpoch other number o2 run2 → run ≡ r → run2 ≡ r2 → leak o r ≡ leak o r2
leak_same es other number o o2 run run2 r r2 are at at2 same same2 =
    let both = alike-at es other number o o2 run run2 are at at2 in
    ap (leak o) (sym same) ∙ both.1 ∙ (λ i. leak (sym both.0 i) (same2 i))

pub moved-requires-clause-same : goal.moved-requires-clause-same
moved-requires-clause-same c =
    let es : Epochs = epochs_in c.args.epochs.now in
    let other : Epochs = epochs_in c.args.other.now in
    let number = c.args.number in
    let are = alike es other (c.len-first.ensures.whole ∙ sym c.len-second.ensures.whole) c.requires.same in
    let e = epoch_there es number c.requires.within in
    let e2 = epoch_there other number (omega (arith, c.requires.within, alike-many es other are)) in (
      e.0,
      epoch-at es number e.0 e.1 e.2 c.len-first.ensures.whole,
      leak_same es other number e.0 e2.0 e.1 e2.1 (run_of c.epoch.result.now) (run_of c.epoch-2.result.now) are e.2 e2.2
          (same_run-at es number e.0 e.1 e.2 (run_of c.epoch.result.now) c.epoch.ensures) (same_run-at other number e2.0 e2.1 e2.2 (run_of c.epoch-2.result.now) c.epoch-2.ensures),
    )

pub returns : goal.returns
returns c =
    let es : Epochs = epochs_in c.args.epochs.now in
    let other : Epochs = epochs_in c.args.other.now in
    let number = c.args.number in
    let one : Run = run_of c.epoch.result.now in
    let two : Run = run_of c.epoch-2.result.now in
    let are = alike es other (c.len-first.ensures.whole ∙ sym c.len-second.ensures.whole) c.requires.same in
    IfOk-weaker c.moved.result _ (λ moved. (o o2 : Offsets) (run run2 : Run) → IsEpoch es number o run → IsEpoch other number o2 run2 → IsMoved c.args.sheet.now o run run2 moved)
    (λ moved is o o2 run run2 at at2.
    let same = same_run-at es number o run at one c.epoch.ensures in
    let same2 = same_run-at other number o2 run2 at2 two c.epoch-2.ensures in
    let its : IsMoved c.args.sheet.now o one two moved = is o (epoch-at es number o run at c.len-first.ensures.whole) (leak_same es other number o o2 run run2 one two are at at2 same same2) in
    subst (λ (r : Run). IsMoved c.args.sheet.now o r run2 moved) (sym same) (subst (λ (r : Run). IsMoved c.args.sheet.now o one r moved) (sym same2) its))
    c.moved.ensures
