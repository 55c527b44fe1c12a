-- The key line of a script, which is the first that isn't empty.
use Rattle.std.specs.Prelude.{◌≡◌, ℕ, ◌+◌, List, [], ◌∷◌, Option, None, Some, IfSome}
use Rattle.doc_vault.specs.declared.script_start.First.{First}
use Rattle.doc_vault.specs.declared.script_start.First.TheVariants as firsts
use Rattle.vault_script.specs.VaultLines.{VaultLineText, EmptyLine, KeyLine, PutLine, DropLine, GetLine, vault_line_of}

-- a script up to its key line: its key, the number of that line and the lines after it; or the number of the line that isn't one
pub data VaultOpening : Type 0 where
  KeyFound : (key : List ℕ) (number : ℕ) (rest : List (List ℕ)) → VaultOpening
  KeyMissing : (number : ℕ) → VaultOpening

-- a line of this number that reads as this, by what the lines after it open to
abbrev pub opened_by : (number : ℕ) → Option VaultLineText → (rest : List (List ℕ)) → (after : VaultOpening) → VaultOpening
opened_by number None rest after = KeyMissing number
opened_by number (Some EmptyLine) rest after = after
opened_by number (Some (KeyLine key)) rest after = KeyFound key number rest
opened_by number (Some (PutLine id body)) rest after = KeyMissing number
opened_by number (Some (DropLine id)) rest after = KeyMissing number
opened_by number (Some (GetLine id)) rest after = KeyMissing number

-- lines of which the first has this number
abbrev pub opening : (number : ℕ) → List (List ℕ) → VaultOpening
opening number [] = KeyMissing number
opening number (line ∷ lines) = opened_by number (vault_line_of line) lines (opening (number + 1) lines)

-- the key line was read: it is line `number`, and these lines are left
abbrev pub FindsKey : (first : ℕ) → Option (List (List ℕ)) → (key : List ℕ) → (number : ℕ) → Option (List (List ℕ)) → Type 0
FindsKey first all key number left =
    IfSome all (λ lines. (rest : List (List ℕ)) × (left ≡ Some rest) × (opening first lines ≡ KeyFound key number rest))

-- the key line is missing, as line `number` shows
abbrev pub MissesKey : (first : ℕ) → Option (List (List ℕ)) → (number : ℕ) → Type 0
MissesKey first all number = IfSome all (λ lines. opening first lines ≡ KeyMissing number)

-- what a line is before the key line was read: the same, for a line as the code sorts it
abbrev pub opened_first : First → (number : ℕ) (rest : List (List ℕ)) (after : VaultOpening) → VaultOpening
opened_first firsts.Empty number rest after = after
opened_first (firsts.Key key) number rest after = KeyFound key number rest
opened_first firsts.Other number rest after = KeyMissing number
