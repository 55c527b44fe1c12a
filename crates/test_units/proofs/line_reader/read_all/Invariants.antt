use Rattle.sse_script.specs.TextLines.{bytes_to_come}
use Rattle.test_units.proofs.line_reader.read_all.Given as goal

abbrev pub decreases-lines : goal.decreases-lines
decreases-lines g l = bytes_to_come l.reader (g.S.Source.handed_out l.source)
