-- A contract's view of the result of comparing two histories.
use Rattle.leakage_draws.specs.declared.counted.Counted.{Counted}
use Rattle.def_comparison.specs.Sums.{Sums}
use Rattle.def_relabelling.specs.Comparison.{Comparison, LeakTheSame, LeaksDiffer}
use Rattle.sse_local.specs.declared.comparison.Compared.{Compared}
use Rattle.sse_local.specs.declared.comparison.Compared.TheVariants.{Same, Differ}

abbrev pub sums_view : Counted → Sums
sums_view counted = record { frames = counted.frames; bytes = counted.bytes; values = counted.values }

abbrev pub compared_view : Compared → Comparison
compared_view (Same counted) = LeakTheSame (sums_view counted)
compared_view (Differ k) = LeaksDiffer k
