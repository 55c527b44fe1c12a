-- The text printed when two scripts are compared: their refusals, the line with the result, and the last line of a stop.
use Rattle.std.specs.Prelude.{◌≡◌, ◌⊎◌, ℕ, ◌+◌, Bool, true, false, ◌||◌, List, [], ◌∷◌, ◌++◌, codes, decimal, Option, None, Some}
use Rattle.std.specs.Io.KnownBytes.{append_known}
use Rattle.std.specs.List.{concat}
use Rattle.client_registry.specs.Run.{Epochs}
use Rattle.script_history.specs.Endings.{EndsIn, Seen, StopsTelling, stop_for}
use Rattle.script_history.specs.Reads.{ReadEnd, Whole, ReadsFirst}
use Rattle.script_history.specs.Reads.{Stopped as NotRead}
use Rattle.script_history.specs.TwoScripts.{before_twin, behind_twin}
use Rattle.keyed_fn.specs.KeyFormulas.{mark_of}
use Rattle.keyed_fn.specs.KeyedFn.{KeyedFn}
use Rattle.def_script_meaning.specs.Lines.{lines_in}
use Rattle.def_script_meaning.specs.Stops.{Stop, AtEnd, At, status_of}
use Rattle.def_relabelling.specs.Comparison.{Comparison, LeakTheSame, LeaksDiffer, IsComparisonIn}
use Rattle.sse_script.specs.Shown.{BadLine, NoMemory}
use Rattle.sse_script.specs.TextLines.{lines_of}

-- a line without its end: what is counted where the two leak the same, else the first command at which they don't
abbrev pub compared_text : Comparison → List (List ℕ)
compared_text (LeakTheSame sums) =
    codes "twin: equal, " ∷ decimal sums.frames ∷ codes " frames, " ∷ decimal sums.bytes ∷ codes " bytes, moved " ∷ decimal sums.values ∷ []
compared_text (LeaksDiffer k) = codes "refused: leaks differ at command " ∷ decimal k ∷ []

-- the line as it is printed, its end being the byte 0a
abbrev pub text_of_comparison : Comparison → List ℕ
text_of_comparison comparison = concat (compared_text comparison ++ (10 ∷ []) ∷ [])

abbrev pub differs : Comparison → Bool
differs (LeakTheSame sums) = false
differs (LeaksDiffer k) = true

-- two histories are compared under the first one's key, and the line of what comes of it is printed, or a proper front of it; that they
-- differ counts as a refusal
pub record IsCompared (f : KeyedFn) (key : List ℕ) (es other : Epochs) (refused : Bool) (now last : Option (List ℕ)) (stop : Stop) : Type 0 where
  pub comparison : Comparison
  pub comes : IsComparisonIn f key es other comparison
  pub told : ((last ≡ append_known now (text_of_comparison comparison)) × (stop ≡ AtEnd (refused || differs comparison)))
      ⊎ StopsTelling (text_of_comparison comparison) now last stop

-- how it goes on after the second script's reading that ended so, behind a first one of this key and history: the two are compared, or
-- memory is wanting for that; a script without a setup lacks a line behind its last one; and what stopped the reading stops all
abbrev pub GoesOnBehind : KeyedFn → (key : List ℕ) → Epochs → (refused : Bool) → ReadEnd → (now last : Option (List ℕ)) → Stop → Type 0
GoesOnBehind f key es refused (Whole own (Some other) also next) now last stop =
    IsCompared f key es other (refused || also) now last stop ⊎ ((last ≡ now) × (stop ≡ At NoMemory))
GoesOnBehind f key es refused (Whole own None also next) now last stop = (last ≡ now) × (stop ≡ At (BadLine next))
GoesOnBehind f key es refused (NotRead cause) now last stop = (last ≡ now) × (stop ≡ stop_for cause)

-- the second script is read, whose lines are these, behind the line `twin` of this number; its keys give no value, so none is refused for
-- being used before
pub record ReadsBehind (f : KeyedFn) (key : List ℕ) (es : Epochs) (refused : Bool) (twin : ℕ) (behind : List (List ℕ)) (now last : Option (List ℕ)) (stop : Stop) : Type 0 where
  pub end : ReadEnd
  pub between : Option (List ℕ)
  pub reads : ReadsFirst None (twin + 1) (lines_in behind) now between end
  pub goes_on : GoesOnBehind f key es refused end between last stop

-- how it goes on after the first script's reading that ended so: with the lines behind a line `twin`; where there is none, or no
-- setup, the bad line is that behind the script's last one
abbrev pub GoesOnFirst : KeyedFn → (behind : Option (List (List ℕ))) → ReadEnd → (now last : Option (List ℕ)) → Stop → Type 0
GoesOnFirst f (Some behind) (Whole key (Some es) refused next) now last stop = ReadsBehind f key es refused next behind now last stop
GoesOnFirst f (Some behind) (Whole key None refused next) now last stop = (last ≡ now) × (stop ≡ At (BadLine next))
GoesOnFirst f None (Whole key history refused next) now last stop = (last ≡ now) × (stop ≡ At (BadLine next))
GoesOnFirst f behind (NotRead cause) now last stop = (last ≡ now) × (stop ≡ stop_for cause)

-- of what is left of a source: the lines behind a line `twin`, or none where there is no such line
abbrev pub AreBehind : (at_twin : Bool) → (behind : Option (List (List ℕ))) → (left : Option (List (List ℕ))) → Type 0
AreBehind true (Some lines) left = left ≡ Some lines
AreBehind true None left = ⊥
AreBehind false (Some lines) left = ⊥
AreBehind false None left = Unit {0}

-- two scripts of these lines were read, the first one's keys by their marks, and compared, up to the last line of a stop
pub record AreComparedSo (f : KeyedFn) (lines : List (List ℕ)) (now last : Option (List ℕ)) (stop : Stop) : Type 0 where
  pub end : ReadEnd
  pub between : Option (List ℕ)
  pub reads : ReadsFirst (Some (mark_of f)) 1 (lines_in (before_twin lines)) now between end
  pub goes_on : GoesOnFirst f (behind_twin lines) end between last stop

-- two scripts of these bytes were read and compared, and this is the status
pub record HasCompared (f : KeyedFn) (bytes : List ℕ) (now last : Seen) (status : ℕ) : Type 0 where
  pub before : Option (List ℕ)
  pub stop : Stop
  pub compared : AreComparedSo f (lines_of bytes) now.written before stop
  pub ends : EndsIn stop before now last
  pub status_is : status ≡ status_of stop
