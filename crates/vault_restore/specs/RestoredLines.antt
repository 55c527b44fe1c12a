-- The lines that a restore prints.
use Rattle.std.specs.Prelude.{ℕ, Bool, true, false, List, [], ◌∷◌, Option, None, Some}
use Rattle.std.specs.List.{flat_map}
use Rattle.vault_script.specs.VaultShown.{Fetched, Forged}
use Rattle.vault_script.specs.VaultTexts.{vault_text}

-- a text whose tag is right, or that the tag of one is wrong
pub data RestoredLine : Type 0 where
  TextLine : (id : ℕ) (text : List ℕ) → RestoredLine
  ForgedLine : (id : ℕ) → RestoredLine

-- a line as it is printed, its end (byte 0a) included
abbrev pub restored_text : RestoredLine → List ℕ
restored_text (TextLine id text) = vault_text (Fetched id text)
restored_text (ForgedLine id) = vault_text (Forged id)

abbrev pub text_of_lines : List RestoredLine → List ℕ
text_of_lines lines = flat_map restored_text lines

-- of a slot: its line, if it isn't empty
abbrev pub lines_of_slot : Option RestoredLine → List RestoredLine
lines_of_slot None = []
lines_of_slot (Some line) = line ∷ []

-- whether a slot's tag is wrong
abbrev pub is_forged_line : Option RestoredLine → Bool
is_forged_line None = false
is_forged_line (Some (TextLine id text)) = false
is_forged_line (Some (ForgedLine id)) = true
