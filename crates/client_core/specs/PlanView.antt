-- The meaning of the fields of a plan of a setup.
use Rattle.std.specs.Prelude.{◌≡◌, ℕ, ◌+◌, ◌*◌, List, [], ◌∷◌, None, map, vec_len}
use Rattle.client_registry.specs.Acceptance.{frames_needed, size_refusal}
use Rattle.client_registry.specs.Collected.{Collected}
use Rattle.client_registry.specs.Setup.{Setup, setup_with}
use Rattle.index_setup.specs.declared.index.Index.{Index}
use Rattle.sse_frames.specs.Frames.{Rises, frame_bytes, labels_of}
use Rattle.sse_frames.specs.FrameViews.{entries_in}
use Rattle.sse_frames.specs.SentParts.{numbered}
use Rattle.client_core.specs.Plans.{SetupPlan}
use Rattle.client_core.specs.Setup.{frames_in, index_frames}
use Rattle.client_core.specs.declared.planned.Planned.TheInside.{Inside}

-- the plan that sends an index of these documents, made under the key of this mark
abbrev pub plan_of : List ℕ → Index → Collected → SetupPlan
plan_of mark index docs = record {
  mark = mark;
  docs = docs;
  b = index.b;
  big = index.big;
  pad = index.pad;
  own_words = index.own_words;
  own_blocks = index.own_blocks;
  frames = map frame_bytes (numbered 0 (index_frames index));
}

-- the setup whose index it is, of these documents
abbrev pub setup_in : Index → Collected → Setup
setup_in index docs = setup_with docs.documents index.b index.big index.pad

-- an index of these documents can be sent: they are accepted, its frames are as many as they need, and its entries rise
pub record IsSendable (index : Index) (docs : Collected) : Type 0 where
  pub accepted : size_refusal (setup_in index docs) ≡ None
  pub frames : frames_in index ≡ frames_needed (setup_in index docs)
  pub rises : Rises (labels_of (entries_in (1 + 8 * index.b) index.entries))

-- what contracts see of the fields
abbrev pub setup_plan_of : Inside → SetupPlan
setup_plan_of p = plan_of p.mark p.index p.docs

-- and what is so of them: the index can be sent, the mark is the only one, and the room is that of the longest frame
pub record IsPlanned (p : Inside) : Type 0 where
  pub sendable : IsSendable p.index p.docs
  pub alone : p.marks.items ≡ p.mark ∷ []
  pub fits : vec_len p.room ≡ 541709
