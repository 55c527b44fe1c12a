-- The counts of a run under a table.
use Rattle.std.specs.Prelude.{ℕ, ◌%◌, ◌^◌, List, ◌∷◌, length, flat_map, sum, sum_by}
use Rattle.client_registry.specs.Run.{Run, Offsets}
use Rattle.def_comparison.specs.UsedNames.{names}
use Rattle.sse_frames.specs.Frames.{FrameText, Hello, frame_bytes}
use Rattle.sse_model.specs.Names.{Name, Table}
use Rattle.sse_model.specs.Wire.{wire}

-- all frames that a client sends for a run: Hello, then those of each command
abbrev pub session_frames : Table → Offsets → Run → List FrameText
session_frames t o run = Hello ∷ flat_map (λ frames. frames) (wire t o run)

-- the bytes of all values at these names, added up in 64 bits
abbrev pub value_sum : Table → List Name → ℕ
value_sum t ns = sum (flat_map t ns) % 2 ^ 64

-- how many frames are sent, how many bytes these have, and the bytes of the values at all names of the run, added up in 64 bits
pub record Sums : Type 0 where
  pub frames : ℕ
  pub bytes : ℕ
  pub values : ℕ

abbrev pub sums : Table → Offsets → Run → Sums
sums t o run = record {
  frames = length (session_frames t o run);
  bytes = sum_by (λ frame. length (frame_bytes frame)) (session_frames t o run);
  values = value_sum t (names o run);
}
