-- The key line of a script, the first that isn't empty.
use Rattle.std.specs.Prelude.{◌≡◌, ℕ, ◌+◌, List, [], ◌∷◌, Option, None, Some, IfSome}
use Rattle.def_script_meaning.specs.Lines.{Line, Empty, Key, Command, lines_in}

-- a script up to its key line: its key, the number of the line after it and the lines from there on; or none stands where it has to,
-- as the line of this number shows
pub data KeyLine : Type 0 where
  Keyed : (key : List ℕ) → (number : ℕ) → List (Option Line) → KeyLine
  Missing : (number : ℕ) → KeyLine

abbrev pub key_line : (number : ℕ) → List (Option Line) → KeyLine
key_line number [] = Missing number
key_line number (None ∷ lines) = Missing number
key_line number (Some Empty ∷ lines) = key_line (number + 1) lines
key_line number (Some (Key key) ∷ lines) = Keyed key (number + 1) lines
key_line number (Some (Command line) ∷ lines) = Missing number

-- the key line was read: after it these lines are left
abbrev pub FindsKey : (number : ℕ) → Option (List (List ℕ)) → (key : List ℕ) → (next : ℕ) → Option (List (List ℕ)) → Type 0
FindsKey number left key next behind =
    IfSome left (λ texts. (rest : List (List ℕ)) × (behind ≡ Some rest) × (key_line number (lines_in texts) ≡ Keyed key next (lines_in rest)))
