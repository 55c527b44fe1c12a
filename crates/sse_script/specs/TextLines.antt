-- The lines of a text, and those that a reader of lines takes.
use Rattle.std.specs.Prelude.{◌≡◌, ℕ, ◌+◌, ◌-◌, ◌^◌, ◌<◌, ◌==◌, if◌then◌else◌, List, [], ◌∷◌, length, IfSome}
use Rattle.std.specs.Option.{option_map}
use Rattle.std.specs.List.{onto_first}
use Rattle.std.specs.declared.option.Option.{Option}
use Rattle.std.specs.Io.KnownBytes.{prepend_known}
use Rattle.sse_script.specs.declared.next_line.NextLine.{NextLine}
use Rattle.sse_script.specs.declared.next_line.NextLine.TheVariants.{Line, TooLong, End}

-- the lines of a text, without their endings, which are the bytes 0a; a last line needs no ending
abbrev pub lines_of : List ℕ → List (List ℕ)
lines_of [] = []
lines_of (b ∷ bs) = if b == 10 then [] ∷ lines_of bs else onto_first b (lines_of bs)

-- the lines of what is left: bytes that were read and not used, and then what the source has
abbrev pub lines_left : List ℕ → Option (List ℕ) → Option (List (List ℕ))
lines_left pending remaining = option_map lines_of (prepend_known pending remaining)

-- how many bytes may still come: those that were read and not used, and those that the source may hand out
abbrev pub bytes_to_come : List ℕ → ℕ → ℕ
bytes_to_come pending handed_out = length pending + (2 ^ 63 - handed_out)

-- the first of the lines is gone
abbrev pub TakesLine : Option (List (List ℕ)) → Option (List (List ℕ)) → List ℕ → Type 0
TakesLine old new line = old ≡ option_map (λ lines. line ∷ lines) new

-- the first of the lines is gone, and it was longer than a line may be, which is 2^19 bytes
pub record SkipsLine (old new : Option (List (List ℕ))) : Type 0 where
  pub long : List ℕ
  pub above : 2 ^ 19 < length long
  pub skipped : TakesLine old new long

-- what one reading takes of the lines that are left
abbrev pub TakesNext : Option (List (List ℕ)) → Option (List (List ℕ)) → NextLine → List ℕ → Type 0
TakesNext old new Line line = TakesLine old new line
TakesNext old new TooLong line = SkipsLine old new
TakesNext old new End line = IfSome old (λ lines. lines ≡ [])
