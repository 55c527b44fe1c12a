use Rattle.std.proofs.Common.{length, map, sym, ap, subst, ◌∙◌, arith, List, Some}
use Rattle.std.specs.Prelude.{IfSome}
use Rattle.std.proofs.lemmas.List.{length-map}
use Rattle.client_registry.specs.Run.{Offsets}
use Rattle.def_comparison.specs.FirstDifference.{IsFirstDifference}
use Rattle.def_leakage.specs.Histories.{leak_in}
use Rattle.leakage_history.specs.HashedEpochs.{epochs_in}
use Rattle.leakage_frames.specs.Views.{leak_view}
use Rattle.sse_simulator.specs.Leaks.{Leak}
use Rattle.leakage_draws.proofs.EpochLaws.{length-leaks}
use Rattle.leakage_draws.proofs.moved_tables.differing.Goals as goal

pub first_command-requires-clause-numbered : goal.first_command-requires-clause-numbered
first_command-requires-clause-numbered c =
    let start = ap (λ (o : Offsets). o.command) c.len-first.ensures.whole in
    omega (
      arith,
      c.requires.numbered,
      length-leaks (epochs_in c.args.epochs.now),
      start,
      ap length (ap (map leak_view) c.as_slice.ensures ∙ c.in_ok-leaks.ensures),
      length-map c.as_slice.result.now leak_view,
    )

pub first_command-requires-clause-numbered_too :
    goal.first_command-requires-clause-numbered_too
first_command-requires-clause-numbered_too c =
    let start = ap (λ (o : Offsets). o.command) c.len-second.ensures.whole in
    omega (
      arith,
      c.requires.numbered_too,
      length-leaks (epochs_in c.args.other.now),
      start,
      ap length (ap (map leak_view) c.as_slice-2.ensures ∙ c.in_ok-others.ensures),
      length-map c.as_slice-2.result.now leak_view,
    )

pub returns-clause-same : goal.returns-clause-same
returns-clause-same c = λ none.
    sym (ap (map leak_view) c.as_slice.ensures ∙ c.in_ok-leaks.ensures) ∙ c.first_command.ensures.same none ∙ ap (map leak_view) c.as_slice-2.ensures ∙ c.in_ok-others.ensures

pub returns-clause-first : goal.returns-clause-first
returns-clause-first c =
    subst (λ (ls : List Leak). IfSome c.first_command.result (λ k. IsFirstDifference k ls (leak_in (Some (epochs_in c.args.other.now))))) (ap (map leak_view) c.as_slice.ensures ∙ c.in_ok-leaks.ensures)
    (subst (λ (ls : List Leak). IfSome c.first_command.result (λ k. IsFirstDifference k (map leak_view c.as_slice.result.now) ls)) (ap (map leak_view) c.as_slice-2.ensures ∙ c.in_ok-others.ensures) c.first_command.ensures.first)
