use Rattle.sse_script.proofs.TextLinesLemmas.{slice_range-consumed}
use Rattle.sse_script.proofs.line_reader.LineReader.consume.Goals as goal

pub returns : goal.returns
returns c = slice_range-consumed _ _ _ _ _ c.self.view_is c.requires
