-- Lines that no reader of fields has to look at.
use Rattle.std.proofs.Common.{◌≡◌, ◌<◌, ℕ, List, length, None, ap, Bool, if◌then◌else◌}
use Rattle.std.proofs.lemmas.Bool.{lt-ltb}
use Rattle.sse_script.specs.declared.line_reader.TheConstants.{MAX_LINE}
use Rattle.sse_script.specs.Fields.{fields_of}
use Rattle.sse_script.specs.Lines.{line_of, line_by_kind}

-- a line of more bytes than a line may have isn't in the grammar
pub line_of_too_long : (line : List ℕ) → MAX_LINE < length line → line_of line ≡ None
line_of_too_long line long = ap (λ (t : Bool). if t then None else line_by_kind (fields_of line)) (lt-ltb _ _ long)
