-- The printed outcome of a line, and whether it refuses.
use Rattle.std.specs.Prelude.{Bool, true, false, List, [], ◌∷◌}
use Rattle.sse_script.specs.Shown as says
use Rattle.script_run_texts.specs.declared.line_result.LineResult.{LineResult}
use Rattle.script_run_texts.specs.declared.line_result.LineResult.TheVariants.{Nothing, SetUp, Rebuilt, Added, Deleted, Found, Matched, Refused}

-- the lines that an outcome prints
abbrev pub line_result_view : LineResult → List says.Shown
line_result_view Nothing = []
line_result_view (SetUp words blocks) = says.SetUp words blocks ∷ []
line_result_view (Rebuilt words blocks) = says.Rebuilt words blocks ∷ []
line_result_view (Added id) = says.Added id ∷ []
line_result_view (Deleted id) = says.Deleted id ∷ []
line_result_view (Found ids) = says.Found ids.items ∷ []
line_result_view (Matched ids) = says.Matched ids.items ∷ []
line_result_view (Refused refusal) = says.Refused refusal ∷ []

-- whether the command was refused
abbrev pub refuses : LineResult → Bool
refuses Nothing = false
refuses (SetUp words blocks) = false
refuses (Rebuilt words blocks) = false
refuses (Added id) = false
refuses (Deleted id) = false
refuses (Found ids) = false
refuses (Matched ids) = false
refuses (Refused refusal) = true
