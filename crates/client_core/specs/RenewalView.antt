-- The meaning of the fields of a plan of a renewal.
use Rattle.std.specs.Prelude.{◌≡◌, ◌+◌, ◌<◌, ◌^◌, ℕ, List, map, vec_len}
use Rattle.client_registry.specs.Collected.{Collected}
use Rattle.index_setup.specs.declared.index.Index.{Index}
use Rattle.sse_frames.specs.Frames.{frame_bytes}
use Rattle.sse_frames.specs.SentParts.{numbered}
use Rattle.client_core.specs.Plans.{RenewalPlan}
use Rattle.client_core.specs.PlanView.{IsSendable}
use Rattle.client_core.specs.Setup.{frames_in, index_frames}
use Rattle.client_core.specs.declared.planned_renewal.PlannedRenewal.TheInside.{Inside}

-- the plan that sends an index of these documents, the first frame under this number; the marks are those of the epochs' keys with that
-- of the new one
abbrev pub renewal_of : List ℕ → List (List ℕ) → Index → Collected → ℕ → RenewalPlan
renewal_of mark marks index docs number = record {
  mark = mark;
  marks = marks;
  docs = docs;
  b = index.b;
  big = index.big;
  pad = index.pad;
  own_words = index.own_words;
  own_blocks = index.own_blocks;
  frames = map frame_bytes (numbered number (index_frames index));
  number = number;
}

-- what contracts see of the fields
abbrev pub renewal_plan_of : Inside → RenewalPlan
renewal_plan_of p = renewal_of p.mark p.marks.items p.index p.docs p.number

-- and what is so of them: the index can be sent, each frame has a number, and the room is that of the longest frame
pub record IsRenewalPlanned (p : Inside) : Type 0 where
  pub sendable : IsSendable p.index p.docs
  pub numbers : p.number + frames_in p.index < 2 ^ 32
  pub fits : vec_len p.room ≡ 541709
