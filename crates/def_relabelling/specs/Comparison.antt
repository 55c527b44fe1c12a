-- The result of comparing two runs under a table for the first, and two histories under the keys of the first.
use Rattle.std.specs.Prelude.{◌≡◌, ℕ, List, [], ◌∷◌, length, flat_map, sum_by, Some}
use Rattle.client_registry.specs.Epochs.{joined}
use Rattle.client_registry.specs.Run.{Run, Offsets, Epochs}
use Rattle.def_comparison.specs.FirstDifference.{IsFirstDifference}
use Rattle.def_comparison.specs.Sums.{Sums, value_sum, sums}
use Rattle.def_comparison.specs.UsedNames.{first_names}
use Rattle.def_leakage.specs.CommandLeaks.{leak}
use Rattle.def_leakage.specs.Histories.{leak_in}
use Rattle.def_leakage.specs.Relabelled.{relabelled}
use Rattle.keyed_fn.specs.KeyedFn.{KeyedFn}
use Rattle.sse_frames.specs.Frames.{FrameText, Hello, frame_bytes}
use Rattle.sse_model.specs.Names.{Name, Table}
use Rattle.sse_model.specs.Wire.{wire}
use Rattle.sse_simulator.specs.Leaks.{Leak}
use Rattle.def_relabelling.specs.Histories.{all_names_in, relabelled_from}

pub data Comparison : Type 0 where
  -- they leak the same; what is counted of the other run under the relabelled table
  LeakTheSame : Sums → Comparison
  -- this is the first command at which they leak something else, the setup being command 0
  LeaksDiffer : ℕ → Comparison

-- the result of comparing what two leak, where this is counted if they leak the same
abbrev pub IsComparisonOf : (leaks others : List Leak) → Sums → Comparison → Type 0
IsComparisonOf leaks others counts (LeakTheSame counted) = (leaks ≡ others) × (counted ≡ counts)
IsComparisonOf leaks others counts (LeaksDiffer k) = IsFirstDifference k leaks others

-- of two runs, under a table for the first
abbrev pub IsComparison : Table → Offsets → (run other : Run) → Comparison → Type 0
IsComparison t o run other = IsComparisonOf (leak o run) (leak o other) (sums (relabelled o run other t) o other)

-- The same of the epochs of two histories.

-- all frames that a client sends for them under a table: Hello, then those of each command
abbrev pub frames_under : Table → Epochs → List FrameText
frames_under t es = Hello ∷ joined (λ key o run. flat_map (λ frames. frames) (wire t o run)) [] es

-- the names that they use, each at its first place alone
abbrev pub names_in : Epochs → List Name
names_in es = first_names (all_names_in es)

abbrev pub sums_in : Table → Epochs → Sums
sums_in t es = record {
  frames = length (frames_under t es);
  bytes = sum_by (λ frame. length (frame_bytes frame)) (frames_under t es);
  values = value_sum t (names_in es);
}

-- of two histories, under the keys of the first, whose first epoch has this one
abbrev pub IsComparisonIn : KeyedFn → (key : List ℕ) → (es other : Epochs) → Comparison → Type 0
IsComparisonIn f key es other = IsComparisonOf (leak_in (Some es)) (leak_in (Some other)) (sums_in (relabelled_from f key (Some es) (Some other)) other)
