-- Two scripts in one text, with a line `twin` between them: the lines of the first, and those after it.
use Rattle.std.specs.Prelude.{◌≡◌, ℕ, Bool, true, false, List, [], ◌∷◌, Option, None, Some, IfSome, option_map, if◌then◌else◌}
use Rattle.std.specs.Io.KnownBytes.{IsAtEnd}
use Rattle.script_run_texts.specs.Twins.{is_twin_line}

-- the lines before the first line `twin`; all where there is none
abbrev pub before_twin : List (List ℕ) → List (List ℕ)
before_twin [] = []
before_twin (text ∷ texts) = if is_twin_line text then [] else text ∷ before_twin texts

-- the lines behind it; nothing where there is none
abbrev pub behind_twin : List (List ℕ) → Option (List (List ℕ))
behind_twin [] = None
behind_twin (text ∷ texts) = if is_twin_line text then Some texts else behind_twin texts

-- Where lines are taken from a source, of which nothing may be known.

abbrev pub first_left : Option (List (List ℕ)) → Option (List (List ℕ))
first_left left = option_map before_twin left

abbrev pub behind_left : Option (List (List ℕ)) → Option (Option (List (List ℕ)))
behind_left left = option_map behind_twin left

-- the lines of a script ended at a line `twin`, so that those behind it are left, and few enough to be counted; or there was no
-- such line, and the source is at its end
abbrev pub EndsPart : (at_twin : Bool) → (old new : Option (List (List ℕ))) (remaining : Option (List ℕ)) → (IsCountable : Type 0) → Type 0
EndsPart true old new remaining IsCountable = (behind_left old ≡ option_map (λ lines. Some lines) new) × IsCountable
EndsPart false old new remaining IsCountable = IfSome old (λ lines. behind_twin lines ≡ None) × IsAtEnd remaining
