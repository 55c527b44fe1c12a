-- Two runs have one comparison, and so have two histories.
use Rattle.std.proofs.Common.{◌≡◌, ℕ, List, refl, sym, ap, ◌∙◌, ⊎_elim, Some}
use Rattle.client_registry.specs.Run.{Run, Offsets, Epochs}
use Rattle.def_comparison.proofs.FirstDifferences.{differ, one_difference}
use Rattle.def_comparison.proofs.SameLeaks.{same_or_differ_first}
use Rattle.def_comparison.specs.FirstDifference.{IsFirstDifference}
use Rattle.def_comparison.specs.Sums.{Sums, sums}
use Rattle.def_leakage.specs.CommandLeaks.{leak}
use Rattle.def_leakage.specs.Histories.{leak_in}
use Rattle.def_leakage.specs.Relabelled.{relabelled}
use Rattle.keyed_fn.specs.KeyedFn.{KeyedFn}
use Rattle.sse_model.specs.Names.{Table}
use Rattle.sse_simulator.specs.Leaks.{Leak}
use Rattle.def_relabelling.specs.Comparison.{Comparison, LeakTheSame, LeaksDiffer, IsComparisonOf, IsComparison, sums_in, IsComparisonIn}
use Rattle.def_relabelling.specs.Histories.{relabelled_from}

module _ (leaks others : List Leak) (counts : Sums) where
  comparison_of : (c : Comparison) × IsComparisonOf leaks others counts c
  comparison_of =
      ⊎_elim (λ (same : leaks ≡ others). (LeakTheSame counts, (same, refl)))
      (λ (at : (k : ℕ) × IsFirstDifference k leaks others). (LeaksDiffer at.0, at.1))
      (same_or_differ_first leaks others)

  one_of : (c d : Comparison) → IsComparisonOf leaks others counts c → IsComparisonOf leaks others counts d → c ≡ d
  one_of (LeakTheSame counted) (LeakTheSame too) is is2 = ap (λ (s : Sums). LeakTheSame s) (is.1 ∙ sym is2.1)
  one_of (LeakTheSame counted) (LeaksDiffer k) is is2 = absurd (differ k leaks others is2 is.0)
  one_of (LeaksDiffer j) (LeakTheSame counted) is is2 = absurd (differ j leaks others is is2.0)
  one_of (LeaksDiffer j) (LeaksDiffer k) is is2 = ap (λ (n : ℕ). LeaksDiffer n) (one_difference j k leaks others is is2)

module _ (t : Table) (o : Offsets) (run other : Run) where
  -- Promise P47, also here
  -- they leak the same, or there is a first command at which they don't
  pub has_comparison : (c : Comparison) × IsComparison t o run other c
  has_comparison = comparison_of (leak o run) (leak o other) (sums (relabelled o run other t) o other)

  -- Promise P47, also here
  -- and nothing else comes of it
  pub one_comparison : (c d : Comparison) → IsComparison t o run other c → IsComparison t o run other d → c ≡ d
  one_comparison = one_of (leak o run) (leak o other) (sums (relabelled o run other t) o other)

module _ (f : KeyedFn) (key : List ℕ) (es other : Epochs) where
  -- Promise P47, also here
  -- the same of the epochs of two histories
  pub has_comparison-epochs : (c : Comparison) × IsComparisonIn f key es other c
  has_comparison-epochs = comparison_of (leak_in (Some es)) (leak_in (Some other)) (sums_in (relabelled_from f key (Some es) (Some other)) other)

  -- Promise P47, also here
  pub one_comparison-epochs : (c d : Comparison) → IsComparisonIn f key es other c → IsComparisonIn f key es other d → c ≡ d
  one_comparison-epochs = one_of (leak_in (Some es)) (leak_in (Some other)) (sums_in (relabelled_from f key (Some es) (Some other)) other)
