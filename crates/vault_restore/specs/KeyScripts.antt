-- The script of a restore: a key line, and otherwise only empty lines.
use Rattle.std.specs.Prelude.{◌≡◌, ℕ, ◌+◌, Bool, true, false, List, [], ◌∷◌, Option, None, Some, Result, Ok, Err, IfSome}
use Rattle.script_run_texts.specs.declared.input_stop.InputStop.{InputStop}
use Rattle.script_run_texts.specs.declared.input_stop.InputStop.TheVariants as inputs
use Rattle.sse_script.specs.TextLines.{TakesLine}
use Rattle.vault_script.specs.VaultLines.{VaultLineText, EmptyLine, KeyLine, PutLine, DropLine, GetLine, vault_line_of}
use Rattle.doc_vault.specs.Openings.{VaultOpening, KeyFound, KeyMissing, opening}

-- its key, or the number of the first line that may not stand there
pub data KeyScript : Type 0 where
  KeyAlone : (key : List ℕ) → KeyScript
  BadLineAt : (number : ℕ) → KeyScript

-- a line of this number after the key line that reads as this, by what the lines after it make
abbrev pub after_line : (number : ℕ) → Option VaultLineText → (after : KeyScript) → KeyScript
after_line number None after = BadLineAt number
after_line number (Some EmptyLine) after = after
after_line number (Some (KeyLine key)) after = BadLineAt number
after_line number (Some (PutLine id body)) after = BadLineAt number
after_line number (Some (DropLine id)) after = BadLineAt number
after_line number (Some (GetLine id)) after = BadLineAt number

-- the lines after the key line, of which the first has this number
abbrev pub after_key : (key : List ℕ) (number : ℕ) → List (List ℕ) → KeyScript
after_key key number [] = KeyAlone key
after_key key number (line ∷ lines) = after_line number (vault_line_of line) (after_key key (number + 1) lines)

-- a script up to its key line
abbrev pub opened_script : VaultOpening → KeyScript
opened_script (KeyFound key number rest) = after_key key (number + 1) rest
opened_script (KeyMissing number) = BadLineAt number

abbrev pub key_script : List (List ℕ) → KeyScript
key_script lines = opened_script (opening 1 lines)

-- these lines, if they are told, make this
abbrev pub MakesKeyScript : Option (List (List ℕ)) → KeyScript → Type 0
MakesKeyScript left made = IfSome left (λ lines. key_script lines ≡ made)

-- the same of the lines that are left after the key line
abbrev pub LeavesKeyScript : (key : List ℕ) (number : ℕ) → Option (List (List ℕ)) → KeyScript → Type 0
LeavesKeyScript key number left made = IfSome left (λ lines. after_key key number lines ≡ made)

-- the next of the lines, which has this number, is gone, and it was empty; or no line is left; or it isn't empty, and its number is told
pub record IsGone (old new : Option (List (List ℕ))) (said : Option VaultLineText) : Type 0 where
  pub line : List ℕ
  pub takes : TakesLine old new line
  pub reads : vault_line_of line ≡ said

abbrev pub SkipsEmpty : (number : ℕ) → (old new : Option (List (List ℕ))) → Result Bool InputStop → Type 0
SkipsEmpty number old new (Ok true) = IsGone old new (Some EmptyLine)
SkipsEmpty number old new (Ok false) = IfSome old (λ lines. lines ≡ [])
SkipsEmpty number old new (Err (inputs.Line n)) = (n ≡ number) × (said : Option VaultLineText) × IsGone old new said × ((after : KeyScript) → after_line number said after ≡ BadLineAt number)
SkipsEmpty number old new (Err inputs.Source) = Unit {0}
SkipsEmpty number old new (Err inputs.Memory) = Unit {0}
