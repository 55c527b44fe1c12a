-- The counts of a setup, as contracts see them.
use Rattle.script_made_lines.specs.Summary as summary
use Rattle.script_made_lines.specs.declared.printed.Counts.{Counts}

abbrev pub counts_view : Counts → summary.Counts
counts_view counts = record { words = counts.words; blocks = counts.blocks }
