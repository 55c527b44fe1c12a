-- What the reading of the next line gives.
use Rattle.std.specs.Prelude.{◌≡◌, ℕ, ◌+◌, List, [], Option, None, Some, Result, Ok, Err, IfSome}
use Rattle.script_run_texts.specs.declared.input_stop.InputStop.{InputStop}
use Rattle.script_run_texts.specs.declared.input_stop.InputStop.TheVariants as inputs
use Rattle.sse_script.specs.TextLines.{TakesLine}
use Rattle.vault_script.specs.VaultLines.{VaultLineText, vault_line_of}
use Rattle.vault_script.specs.VaultLineViews.{vault_line_view}
use Rattle.vault_script.specs.declared.vault_line.VaultLine.{VaultLine}

-- the first of the lines is gone, and it reads as this
pub record ReadsAs (old new : Option (List (List ℕ))) (said : Option VaultLineText) : Type 0 where
  pub line : List ℕ
  pub takes : TakesLine old new line
  pub reads : vault_line_of line ≡ said

-- after so many lines: no line is left, or the next one is gone and reads as this; or it is in no grammar, and its number is told
abbrev pub ReadsNext : (number : ℕ) → (old new : Option (List (List ℕ))) → Result (Option VaultLine) InputStop → Type 0
ReadsNext number old new (Ok None) = IfSome old (λ lines. lines ≡ [])
ReadsNext number old new (Ok (Some line)) = ReadsAs old new (Some (vault_line_view line))
ReadsNext number old new (Err (inputs.Line n)) = (n ≡ number + 1) × ReadsAs old new None
ReadsNext number old new (Err inputs.Source) = Unit {0}
ReadsNext number old new (Err inputs.Memory) = Unit {0}
